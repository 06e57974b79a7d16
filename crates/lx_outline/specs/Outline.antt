-- The outline of a tree.
use Rattle.std.specs.Prelude.{◌≡◌, ℕ, nat_eq, length, List, [], ◌∷◌, ◌++◌, Option, None, Some, option_map}
use Rattle.std.specs.Map.{lookup}
use Rattle.lx_trees.specs.Trees.{nil, tree}
use Rattle.lx_trees.specs.NamedTrees.{total}
use Rattle.lx_node.specs.declared.kind.Kind.{Kind}
use Rattle.lx_node.specs.declared.kind.Kind.TheVariants as kind
use Rattle.lx_node.specs.declared.fields.Fields.{Fields}
use Rattle.lx_node.specs.declared.fields.Fields.TheVariants as fields
use Rattle.lx_forest.specs.Forest.{Label, Forest}
use Rattle.lx_forest.specs.Lookups.{alone, kind_of}
use Rattle.lx_forest.specs.Weights.{weight}
use Rattle.lx_outline.specs.declared.headings.Heading.{Heading}
use Rattle.lx_outline.specs.declared.headings.Entry.{Entry}

-- ---- what a node says of itself

-- the text of a text or tab, and none of any other node
abbrev pub own_text : Fields → List ℕ
own_text (fields.Text text) = text.text
own_text other = []

-- what a node puts into the text of a heading: its text, or a line end for a line break
abbrev pub piece_of : Kind → Fields → List ℕ
piece_of kind.Break own = 10 ∷ []
piece_of k own = own_text own

-- the level of a heading's kind
abbrev pub level_of : Kind → Option ℕ
level_of (kind.Heading level) = Some level
level_of other = None

-- ---- headings

-- the pieces of all nodes of trees, in preorder
abbrev pub text_of : Forest → List ℕ
text_of nil = []
text_of (tree l below rest) = piece_of l.kind l.fields ++ text_of below ++ text_of rest

-- a heading of this text and level
abbrev pub heading_with : List ℕ → ℕ → Heading
heading_with text level = record { level = level; text = text }

-- the heading of a key, where its node is one
abbrev pub heading_by : Option Kind → List ℕ → Option Heading
heading_by None text = None
heading_by (Some k) text = option_map (heading_with text) (level_of k)

-- the heading of a key, whose text is that of its tree
abbrev pub heading_at : Forest → ℕ → Option Heading
heading_at f q = heading_by (kind_of f q) (text_of (alone q f))

-- a heading with its key, as the outline gives it
abbrev pub entry_of : ℕ → Heading → Entry
entry_of q h = record { key = q; level = h.level; text = h.text }

-- entries with one in front, if there is one
abbrev pub with_entry : Option Entry → List Entry → List Entry
with_entry None entries = entries
with_entry (Some entry) entries = entry ∷ entries

-- the headings among keys, in their order
abbrev pub entries_among : Forest → List ℕ → List Entry
entries_among f [] = []
entries_among f (q ∷ qs) = with_entry (option_map (entry_of q) (heading_at f q)) (entries_among f qs)

-- the headings that are kept for keys, in the order of the keys
abbrev pub entries_kept : List (ℕ × Heading) → List ℕ → List Entry
entries_kept headings [] = []
entries_kept headings (q ∷ qs) = with_entry (option_map (entry_of q) (lookup (nat_eq q) headings)) (entries_kept headings qs)

-- ---- the outline

-- how many characters a node's text has
abbrev pub characters_in : Label → ℕ
characters_in l = length (own_text l.fields)

-- An outline, as two numbers and a finite map from the keys of headings, which is its pairs in some order. A view that is a
-- function of keys would have no code, by which proofs tell values apart.
pub record OutlineView : Type 0 where
  pub nodes : ℕ
  pub characters : ℕ
  pub headings : List (ℕ × Heading)

-- the outline of the root alone, of a new editor
abbrev pub new_outline : OutlineView
new_outline = record { nodes = 1; characters = 0; headings = [] }

-- An outline is that of this tree.
pub record IsOutlineOf (o : OutlineView) (f : Forest) : Type 0 where
  pub nodes : o.nodes ≡ total f
  pub characters : o.characters ≡ weight characters_in f
  pub heading : (q : ℕ) → lookup (nat_eq q) o.headings ≡ heading_at f q
