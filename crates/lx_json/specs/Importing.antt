-- The draft that a document makes.
use Rattle.std.specs.Prelude.{◌≡◌, ◌≤◌, ◌⊎◌, ℕ, ◌+◌, true, codes, [], ◌∷◌, Option, None, Some, Result, Ok, Err}
use Rattle.serde_json.specs.Data.{Data, object}
use Rattle.serde_json.specs.Find.{get}
use Rattle.lx_trees.specs.Trees.{Trees, nil, tree}
use Rattle.lx_trees.specs.NamedTrees.{total}
use Rattle.lx_node.specs.declared.cause.Cause.{Cause}
use Rattle.lx_node.specs.declared.cause.Cause.TheVariants.{BadState, EmptyState}
use Rattle.lx_select.specs.declared.selection.Selection.TheVariants.{Nothing}
use Rattle.lx_forest.specs.Forest.{Label, Forest}
use Rattle.lx_forest.specs.Lookups.{has, roots, preorder, IsForest}
use Rattle.lx_marks.specs.Marks.{is_touched}
use Rattle.lx_draft.specs.Working.{Working, MayStart, started}
use Rattle.lx_draft.specs.Covering.{AreCovered}
use Rattle.lx_draft.specs.Faults.{answer}
use Rattle.lx_draft.specs.Marking.{marked_in}
use Rattle.lx_draft.specs.Freezing.{limits_fault}
use Rattle.lx_json.specs.Reading.{Piece, and_then, told_under, tree_of}

-- ---- the document's tree

-- the root's tree, unless it has no children
abbrev pub if_filled : Trees Piece → Result (Trees Piece) Cause
if_filled (tree root nil rest) = Err EmptyState
if_filled trees = Ok trees

-- the tree of the document's root, which has to be there and to have children
abbrev pub root_in : Option Data → Result (Trees Piece) Cause
root_in None = Err (BadState (codes "/root"))
root_in (Some d) = told_under (codes "/root") (and_then (tree_of d None) if_filled)

-- the tree of a document, or the first thing that is wrong in it
unfoldable pub document_of : Data → Result (Trees Piece) Cause
document_of (object members) = root_in (get (codes "root") (object members))
document_of other = Err (BadState (codes ""))

-- ---- keys

-- a node of this key, which has the kind and the fields of a piece
abbrev pub label_for : ℕ → Piece → Label
label_for key piece = record { key = key; kind = piece.kind; fields = piece.fields }

-- trees that get keys in preorder, from this one on
abbrev pub keyed : ℕ → Trees Piece → Forest
keyed key nil = nil
keyed key (tree piece below rest) = tree (label_for key piece) (keyed (key + 1) below) (keyed (key + 1 + total below) rest)

-- the root's tree, in which the root has key 0 and the others get keys from this one on
abbrev pub rooted : ℕ → Trees Piece → Forest
rooted next nil = nil
rooted next (tree root below rest) = tree (label_for 0 root) (keyed next below) nil

-- the next key after those of the root's tree
abbrev pub next_behind : ℕ → Trees Piece → ℕ
next_behind next nil = next
next_behind next (tree root below rest) = next + total below

-- ---- the draft: nothing is selected, and every node is marked

-- a draft of a tree in which nothing is selected and every node is marked
abbrev pub drafted : Forest → ℕ → Working
drafted f next_key = marked_in f (preorder f) (started f Nothing next_key)

-- the draft of a document's tree, unless the tree is beyond a limit
abbrev pub draft_of : ℕ → Trees Piece → Result Working Cause
draft_of next trees = answer (limits_fault (rooted next trees) (next_behind next trees)) (drafted (rooted next trees) (next_behind next trees))

-- the draft that a document makes, whose new nodes get keys from this one on; or why it makes none
unfoldable pub imported : Data → ℕ → Result Working Cause
imported d next = and_then (document_of d) (draft_of next)

-- ---- what holds of it

-- What holds of an imported draft: a tree alone from which an update may start, with nothing selected; its keys but the
-- root's are new ones; and marks cover it from the tree without marks on, in which every node is marked.
pub record IsImported (next : ℕ) (w : Working) : Type 0 where
  pub order : IsForest w.forest
  pub alone : roots w.forest ≡ 0 ∷ []
  pub start : MayStart w.forest w.next_key
  pub selected : w.selection ≡ Nothing
  pub rises : next ≤ w.next_key
  pub fresh_keys : (q : ℕ) → has q w.forest ≡ true → (q ≡ 0) ⊎ (next ≤ q)
  pub covered : AreCovered (started w.forest Nothing w.next_key) w
  pub all_marked : (q : ℕ) → has q w.forest ≡ true → is_touched w.fresh q ≡ true
