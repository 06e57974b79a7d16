-- The document of a tree is read as the same tree.
use Rattle.std.proofs.Common.{◌≡◌, ◌≢◌, ◌∙◌, ℕ, ◌+◌, ◌<◌, ◌≤◌, codes, [], ◌∷◌, None, Ok, refl, sym, ap, subst, arith}
use Rattle.std.proofs.lemmas.Bool.Decides.{eqb_tells}
use Rattle.serde_json.specs.Data.{Data, object, member, no_members, no_items, item}
use Rattle.lx_trees.specs.Trees.{Trees, nil, tree}
use Rattle.lx_trees.specs.NamedTrees.{total}
use Rattle.lx_node.specs.Kinds.{type_name, may_hold}
use Rattle.lx_node.specs.Limits.{most_key}
use Rattle.lx_node.specs.declared.kind.Kind.{Kind}
use Rattle.lx_node.specs.declared.kind.Kind.TheVariants.{Root}
use Rattle.lx_forest.specs.Forest.{Forest, Label}
use Rattle.lx_forest.specs.Lookups.{roots, alone, children_of, IsForest, IsHeld}
use Rattle.lx_links.specs.Stands.{Sound}
use Rattle.lx_draft.specs.Faults.{answer}
use Rattle.lx_draft.specs.Freezing.{limits_fault}
use Rattle.lx_fields.specs.Types.{kind_of_type}
use Rattle.lx_fields.specs.Exporting.{node_data}
use Rattle.lx_json.specs.Reading.{Piece, and_then, told_under, placed_kind, tree_of}
use Rattle.lx_json.specs.Importing.{if_filled, document_of, rooted, next_behind, drafted, draft_of, imported}
use Rattle.lx_json.specs.Exporting.{trees_data, first_data, exported}
use Rattle.lx_json.specs.GivenBack.{AreGivenBack}
use Rattle.lx_json.specs.Back.{pieces_of, ReadsBack}
use Rattle.lx_json.proofs.BackTrees.{node-back, trees-back, leaf_below, held_below}
use Rattle.lx_json.proofs.BackKeys.{pieces-keyed}
use Rattle.lx_json.proofs.BackLimits.{alone_whole, limits-back}

-- ---- the root

root_placed : (d : Data) → placed_kind None (kind_of_type (type_name Root)) (type_name Root) d ≡ Ok Root
unfolding type_name
root_placed d = refl

placed_root : (kind : Kind) (d : Data) → kind ≡ Root → placed_kind None (kind_of_type (type_name kind)) (type_name kind) d ≡ Ok kind
placed_root kind d is = subst (λ k. placed_kind None (kind_of_type (type_name k)) (type_name k) d ≡ Ok k) (sym is) (root_placed d)

root_kind : (l : Label) (below : Forest) → IsForest (tree l below nil) → roots (tree l below nil) ≡ 0 ∷ [] → l.kind ≡ Root
root_kind l below h one =
    let key : l.key ≡ 0 = cc in
    grind (arith, h.root, key, eqb_tells l.key 0)

some_below : (l : Label) (below : Forest) → roots (tree l below nil) ≡ 0 ∷ [] → children_of (tree l below nil) 0 ≢ [] → below ≢ nil
some_below l below one some none =
    let key : l.key ≡ 0 = cc in
    some (grind (arith, none, key, eqb_tells l.key 0))

filled : (piece : Piece) (below : Forest) → below ≢ nil → if_filled (tree piece (pieces_of below) nil) ≡ Ok (tree piece (pieces_of below) nil)
filled piece nil some = absurd (some refl)
filled piece (tree l below rest) some = refl

-- ---- the document

read_root : (l : Label) (below : Forest) → IsForest (tree l below nil) → IsHeld may_hold (tree l below nil) → roots (tree l below nil) ≡ 0 ∷ []
    → AreGivenBack (tree l below nil)
    → tree_of (node_data l.kind l.fields (trees_data below)) None ≡ Ok (pieces_of (tree l below nil))
read_root l below h held one told =
    let below_held = held_below l below h held in
    node-back None l below told.0 (placed_root l.kind (node_data l.kind l.fields (trees_data below)) (root_kind l below h one))
    (leaf_below l.kind below below_held) (trees-back l.kind 0 below told.1 below_held)

document-back : (l : Label) (below : Forest) → IsForest (tree l below nil) → IsHeld may_hold (tree l below nil) → roots (tree l below nil) ≡ 0 ∷ []
    → AreGivenBack (tree l below nil) → children_of (tree l below nil) 0 ≢ []
    → document_of (exported (tree l below nil)) ≡ Ok (pieces_of (tree l below nil))
unfolding document_of exported trees_data
document-back l below h held one told some =
    ap (λ r. told_under (codes "/root") (and_then r if_filled)) (read_root l below h held one told)
    ∙ ap (told_under (codes "/root")) (filled (record { kind = l.kind; fields = l.fields }) below (some_below l below one some))

draft-back : (d : Data) (next : ℕ) (trees : Trees Piece) → document_of d ≡ Ok trees → limits_fault (rooted next trees) (next_behind next trees) ≡ None
    → imported d next ≡ Ok (drafted (rooted next trees) (next_behind next trees))
unfolding imported
draft-back d next trees is none =
    ap (λ r. and_then r (draft_of next)) is ∙ ap (λ fault. answer fault (drafted (rooted next trees) (next_behind next trees))) none

tree_reads_back : (next : ℕ) (l : Label) (below : Forest) → IsForest (tree l below nil) → IsHeld may_hold (tree l below nil) → roots (tree l below nil) ≡ 0 ∷ []
    → AreGivenBack (tree l below nil)
    → 0 < next → next + total (tree l below nil) ≤ most_key + 1 → children_of (tree l below nil) 0 ≢ [] → limits_fault (tree l below nil) 1 ≡ None
    → ReadsBack (exported (tree l below nil)) next (tree l below nil)
tree_reads_back next l below h held one told first room some none =
    let trees : Trees Piece = pieces_of (tree l below nil) in record {
      draft = drafted (rooted next trees) (next_behind next trees);
      read = draft-back (exported (tree l below nil)) next trees (document-back l below h held one told some)
          (limits-back next l below h one (root_kind l below h one) first room none);
      same = ap (λ t. tree (record { kind = l.kind; fields = l.fields }) t nil) (pieces-keyed next (pieces_of below));
    }

reads_back : (next : ℕ) (f : Forest) → IsForest f → IsHeld may_hold f → roots f ≡ 0 ∷ [] → AreGivenBack f → 0 < next → next + total f ≤ most_key + 1
    → children_of f 0 ≢ [] → limits_fault f 1 ≡ None → ReadsBack (exported f) next f
reads_back next nil h held one told first room some none = absurd (cc)
reads_back next (tree l below nil) h held one told first room some none = tree_reads_back next l below h held one told first room some none
reads_back next (tree l below (tree m under rest)) h held one told first room some none = absurd (cc)

-- ---- what is written

pub document_written : (f : Forest) (k : ℕ) (root document : Data) → k ≡ 0 → IsForest f → roots f ≡ 0 ∷ [] → trees_data (alone k f) ≡ item root no_items
    → document ≡ object (member (codes "root") root no_members) → document ≡ exported f
unfolding exported
document_written f k root document first h one own made =
    let whole : alone k f ≡ f = ap (λ k. alone k f) first ∙ alone_whole f h one in
    made ∙ sym (ap (λ ds. object (member (codes "root") (first_data ds) no_members)) (sym (ap trees_data whole) ∙ own))

pub document_reads_back : (next : ℕ) (f : Forest) (k : ℕ) (root document : Data) → k ≡ 0 → IsForest f → roots f ≡ 0 ∷ []
    → trees_data (alone k f) ≡ item root no_items → document ≡ object (member (codes "root") root no_members)
    → AreGivenBack (alone k f) → Sound f → 0 < next → next + total f ≤ most_key + 1 → children_of f 0 ≢ [] → limits_fault f 1 ≡ None → ReadsBack document next f
document_reads_back next f k root document zero h one own made told s first room some none =
    let whole : alone k f ≡ f = ap (λ k. alone k f) zero ∙ alone_whole f h one in
    subst (λ d. ReadsBack d next f) (sym (document_written f k root document zero h one own made))
    (reads_back next f h s.held one (subst AreGivenBack whole told) first room some none)
