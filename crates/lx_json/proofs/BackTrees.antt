-- What is written for trees is read as the same trees, without their keys.
use Rattle.std.proofs.Common.{◌≡◌, ◌∙◌, ℕ, ◌+◌, ◌&&◌, true, false, codes, List, Option, None, Some, Result, Ok, Err, refl, sym, ap, arith, inl, inr, if◌then◌else◌}
use Rattle.std.specs.Prelude.{option_map, option_and_then}
use Rattle.std.proofs.lemmas.Bool.{cases_Bool}
use Rattle.std.proofs.lemmas.Bool.Decides.{eqb_tells}
use Rattle.std.proofs.lemmas.Option.{same_Some}
use Rattle.serde_json.specs.Data.{Data, array, Items}
use Rattle.serde_json.specs.Find.{get, as_array}
use Rattle.lx_trees.specs.Trees.{nil, tree}
use Rattle.lx_node.specs.Kinds.{type_name, is_element, may_hold, is_block, is_inline, is_heading, is_list, is_item, is_link, is_row, is_cell, is_paragraph}
use Rattle.lx_node.specs.declared.kind.Kind.{Kind}
use Rattle.lx_node.specs.declared.kind.Kind.TheVariants.{Root, Heading, List as ListKind, Text, Tab, Break, Rule, Embed}
use Rattle.lx_node.specs.declared.kind.ListType.{ListType}
use Rattle.lx_node.specs.declared.cause.Cause.{Cause}
use Rattle.lx_node.specs.declared.cause.Cause.TheVariants.{BadState}
use Rattle.lx_trees.specs.Spots.{Spot, parent_at, spot_below}
use Rattle.lx_trees.specs.NamedTrees.{IsDistinct}
use Rattle.lx_trees.specs.NamedTrees as named
use Rattle.lx_trees.proofs.Spots.{spot_below-absent}
use Rattle.lx_forest.specs.Forest.{Forest, Label}
use Rattle.lx_forest.specs.Lookups.{key_of, spot, kind_of, holds, IsForest, IsHeld}
use Rattle.lx_forest.proofs.Edits.{key-spot}
use Rattle.lx_fields.specs.Documents.{document_fields}
use Rattle.lx_fields.specs.Exporting.{node_data}
use Rattle.lx_fields.specs.Types.{kind_of_type, kind_told}
use Rattle.lx_fields.specs.Words.{levels, list_types}
use Rattle.lx_json.specs.Reading.{Piece, and_then, typed, typed_by, placed_kind, kind_by, are_bad, fields_told, fields_or_bad, first_bad, piece_of, with_tree, with_rest, told_under, child_place, tree_of, trees_of}
use Rattle.lx_json.specs.Exporting.{trees_data}
use Rattle.lx_json.specs.Growing.{children_told}
use Rattle.lx_json.specs.GivenBack.{IsGivenBack, AreGivenBack}
use Rattle.lx_json.specs.Back.{pieces_of}
use Rattle.lx_json.proofs.Looked.{tree_of-object, with_children, children_told-list, children_told-leaf}
use Rattle.lx_fields.proofs.Sound.{all_rows, told_by_holds}
use Rattle.lx_fields.proofs.Exported.{type-there, children-there, kind-back, is-object}

-- ---- the kind

heading_held : (parent : Kind) (level to : ℕ) → may_hold parent (Heading to) ≡ may_hold parent (Heading level)
unfolding may_hold is_block is_inline is_paragraph is_heading is_list is_item is_link is_row is_cell
heading_held Root level to = refl
heading_held _ level to = refl

list_held : (parent : Kind) (type to : ListType) → may_hold parent (ListKind to) ≡ may_hold parent (ListKind type)
unfolding may_hold is_block is_inline is_paragraph is_heading is_list is_item is_link is_row is_cell
list_held Root type to = refl
list_held _ type to = refl

-- what a kind is said to be, a parent may hold as it may hold the kind
may_hold-told : (parent kind : Kind) (d : Data) → may_hold parent (kind_told kind d) ≡ may_hold parent kind
unfolding kind_told
may_hold-told parent (Heading level) d =
    let P : Kind → Type 0 = λ kind. may_hold parent kind ≡ may_hold parent (Heading level) in
    told_by_holds P (λ level. Heading level) (Heading level) levels (get (codes "tag") d) (all_rows (λ to. P (Heading to)) (heading_held parent level) levels)
    refl
may_hold-told parent (ListKind type) d =
    let P : Kind → Type 0 = λ kind. may_hold parent kind ≡ may_hold parent (ListKind type) in
    told_by_holds P (λ type. ListKind type) (ListKind type) list_types (get (codes "listType") d)
    (all_rows (λ to. P (ListKind to)) (list_held parent type) list_types) refl
may_hold-told parent _ d = refl

placed : (parent kind : Kind) (o : Option Kind) (text : List ℕ) (d : Data) → option_map (λ base. kind_told base d) o ≡ Some kind → may_hold parent kind ≡ true
    → placed_kind (Some parent) o text d ≡ Ok kind
placed parent kind None text d told held = absurd (cc)
placed parent kind (Some base) text d told held =
    let is : kind_told base d ≡ kind = same_Some (kind_told base d) kind told in
    let may : may_hold parent base ≡ true = sym (may_hold-told parent base d) ∙ ap (may_hold parent) is ∙ held in
    ap (λ b. if b then Ok (kind_told base d) else Err (BadState (codes "/type"))) may ∙ ap (λ k. Ok k) is

-- what may hold something is an element
holder_is_element : (kind child : Kind) → may_hold kind child ≡ true → is_element kind ≡ true
unfolding may_hold is_element
holder_is_element Text child e = absurd (cc)
holder_is_element Tab child e = absurd (cc)
holder_is_element Break child e = absurd (cc)
holder_is_element Rule child e = absurd (cc)
holder_is_element Embed child e = absurd (cc)
holder_is_element _ child e = refl

-- ---- one node

-- the node of a label, which the label's object describes
abbrev piece_in : Label → Piece
piece_in l = record { kind = l.kind; fields = l.fields }

none_bad : (kind : Kind) (o : Option Data) (below : Items) → (is_element kind ≡ true → o ≡ Some (array below)) → (is_element kind && are_bad o) ≡ false
none_bad kind o below there = elim (cases_Bool (is_element kind)) [
  | inl element ↦ ap (λ b. b && are_bad o) element ∙ ap are_bad (there element)
  | inr leaf ↦ ap (λ b. b && are_bad o) leaf
]

fields-back : (l : Label) (below : Items) → IsGivenBack l below → fields_told l.kind (node_data l.kind l.fields below) ≡ Ok l.fields
fields-back l below told =
    let d = node_data l.kind l.fields below in
    ap (λ bad. fields_or_bad (first_bad bad (document_fields l.kind d)))
    (none_bad l.kind (get (codes "children") d) below (λ element. children-there l.kind l.fields below element told.of_kind))
    ∙ ap fields_or_bad told.fields

piece-back : (above : Option Kind) (l : Label) (below : Items) → IsGivenBack l below
    → placed_kind above (kind_of_type (type_name l.kind)) (type_name l.kind) (node_data l.kind l.fields below) ≡ Ok l.kind
    → piece_of above (node_data l.kind l.fields below) ≡ Ok (piece_in l)
unfolding piece_of
piece-back above l below told here =
    let d = node_data l.kind l.fields below in
    let to : Kind → Result Piece Cause = λ kind. and_then (fields_told kind d) (λ fields. Ok (record { kind = kind; fields = fields })) in
    ap (λ o. and_then (kind_by above (typed_by o) d) to) (type-there l.kind l.fields below)
    ∙ ap (λ r. and_then r to) (kind_typed above ∙ here)
    ∙ ap (λ r. and_then r (λ fields. Ok (record { kind = l.kind; fields = fields }))) (fields-back l below told)
  where
    kind_typed : (above : Option Kind)
        → kind_by above (typed (type_name l.kind)) (node_data l.kind l.fields below)
        ≡ placed_kind above (kind_of_type (type_name l.kind)) (type_name l.kind) (node_data l.kind l.fields below)
    kind_typed None = refl
    kind_typed (Some parent) = refl

children-back : (l : Label) (below : Forest) → IsGivenBack l (trees_data below) → (is_element l.kind ≡ false → below ≡ nil)
    → trees_of (trees_data below) 0 l.kind ≡ Ok (pieces_of below)
    → children_told l.kind (node_data l.kind l.fields (trees_data below)) ≡ Ok (pieces_of below)
children-back l below told leaf back =
    let d = node_data l.kind l.fields (trees_data below) in
    elim (cases_Bool (is_element l.kind)) [
      | inl element ↦
          children_told-list l.kind d (trees_data below) refl element
          (ap (option_and_then as_array) (children-there l.kind l.fields (trees_data below) element told.of_kind)) ∙ back
      | inr apart ↦ children_told-leaf l.kind d refl apart ∙ ap (λ f. Ok (pieces_of f)) (sym (leaf apart))
    ]

pub node-back : (above : Option Kind) (l : Label) (below : Forest) → IsGivenBack l (trees_data below)
    → placed_kind above (kind_of_type (type_name l.kind)) (type_name l.kind) (node_data l.kind l.fields (trees_data below)) ≡ Ok l.kind
    → (is_element l.kind ≡ false → below ≡ nil)
    → trees_of (trees_data below) 0 l.kind ≡ Ok (pieces_of below)
    → tree_of (node_data l.kind l.fields (trees_data below)) above ≡ Ok (tree (piece_in l) (pieces_of below) nil)
node-back above l below told here leaf back =
    let d = node_data l.kind l.fields (trees_data below) in
    tree_of-object d above (is-object l.kind l.fields (trees_data below))
    ∙ ap (λ r. and_then r (with_children d)) (piece-back above l (trees_data below) told here)
    ∙ ap (with_tree (piece_in l)) (children-back l below told leaf back)

-- ---- trees, one after another

-- each of the trees is of a kind that a parent of this kind may hold, and each tree below is held
abbrev pub AreHeld : Kind → Forest → Type 0
AreHeld parent nil = Unit {0}
AreHeld parent (tree l below rest) = (may_hold parent l.kind ≡ true) × AreHeld l.kind below × AreHeld parent rest

pub leaf_below : (kind : Kind) (below : Forest) → AreHeld kind below → is_element kind ≡ false → below ≡ nil
leaf_below kind nil held leaf = refl
leaf_below kind (tree l below rest) held leaf = absurd (let element = holder_is_element kind l.kind held.0 in cc)

pub trees-back : (kind : Kind) (i : ℕ) (f : Forest) → AreGivenBack f → AreHeld kind f → trees_of (trees_data f) i kind ≡ Ok (pieces_of f)
unfolding trees_of trees_data
trees-back kind i nil told held = refl
trees-back kind i (tree l below rest) told held =
    let d = node_data l.kind l.fields (trees_data below) in
    ap (λ r. with_rest (told_under (child_place i) r) (trees_of (trees_data rest) (i + 1) kind))
    (node-back (Some kind) l below told.0
    (placed kind l.kind (kind_of_type (type_name l.kind)) (type_name l.kind) d (kind-back l.kind l.fields (trees_data below) told.0.of_kind) held.0)
    (leaf_below l.kind below held.1) (trees-back l.kind 0 below told.1 held.1))
    ∙ ap (λ r. with_rest (Ok (tree (piece_in l) (pieces_of below) nil)) r) (trees-back kind (i + 1) rest told.2 held.2)

-- ---- a forest whose kinds its parents hold

-- where a node is, by the kinds of all
record IsFit (kinds : ℕ → Option Kind) (s : Spot Label) : Type 0 where
  kind : kinds s.label.key ≡ Some s.label.kind
  held : (p : ℕ) → s.parent ≡ Some p → holds may_hold (kinds p) (Some s.label.kind) ≡ true

-- where a node is in a tree, from where it is below the root, behind it, or as the root
pub below_at : (r : Option ℕ) (l : Label) (below rest : Forest) (q : ℕ) (s : Spot Label) → IsDistinct key_of (tree l below rest)
    → spot_below key_of (Some l.key) below q ≡ Some s → spot_below key_of r (tree l below rest) q ≡ Some s
below_at r l below rest q s once e = grind (arith, e, once q, eqb_tells l.key q, spot_below-absent key_of (Some l.key) below q)

pub rest_at : (r : Option ℕ) (l : Label) (below rest : Forest) (q : ℕ) (s : Spot Label) → IsDistinct key_of (tree l below rest)
    → spot_below key_of r rest q ≡ Some s → spot_below key_of r (tree l below rest) q ≡ Some s
rest_at r l below rest q s once e =
    grind (arith, e, once q, eqb_tells l.key q, spot_below-absent key_of (Some l.key) below q, spot_below-absent key_of r rest q)

pub first_at : (r : Option ℕ) (l : Label) (below rest : Forest)
    → spot_below key_of r (tree l below rest) l.key ≡ Some (record { label = l; parent = r; children = named.names key_of below })
first_at r l below rest = grind (arith, eqb_tells l.key l.key)

are_held : (kinds : ℕ → Option Kind) (p : ℕ) (parent : Kind) (t : Forest) → IsDistinct key_of t → kinds p ≡ Some parent
    → ((q : ℕ) (s : Spot Label) → spot_below key_of (Some p) t q ≡ Some s → IsFit kinds s) → AreHeld parent t
are_held kinds p parent nil once up fit = tt
are_held kinds p parent (tree l below rest) once up fit =
    let own = fit l.key (record { label = l; parent = Some p; children = named.names key_of below }) (first_at (Some p) l below rest) in (
      sym (ap (λ o. holds may_hold o (Some l.kind)) up) ∙ own.held p refl,
      are_held kinds l.key l.kind below (λ q. omega (arith, once q)) own.kind (λ q s e. fit q s (below_at (Some p) l below rest q s once e)),
      are_held kinds p parent rest (λ q. omega (arith, once q)) up (λ q s e. fit q s (rest_at (Some p) l below rest q s once e)),
    )

kind_here : (f : Forest) (q : ℕ) (s : Spot Label) → spot f q ≡ Some s → kind_of f q ≡ Some s.label.kind
kind_here f q s e = ap (λ o. option_map (λ (l : Label). l.kind) (option_map (λ (s : Spot Label). s.label) o)) e

fits : (f : Forest) → IsHeld may_hold f → (q : ℕ) (s : Spot Label) → spot f q ≡ Some s → IsFit (kind_of f) s
fits f held q s e = record {
  kind = ap (kind_of f) (key-spot f q s e) ∙ kind_here f q s e;
  held = λ p up. sym (ap (holds may_hold (kind_of f p)) (kind_here f q s e)) ∙ held.each q p (ap parent_at e ∙ up);
}

pub held_below : (l : Label) (below : Forest) → IsForest (tree l below nil) → IsHeld may_hold (tree l below nil) → AreHeld l.kind below
held_below l below h held =
    let f : Forest = tree l below nil in
    let own = fits f held l.key (record { label = l; parent = None; children = named.names key_of below }) (first_at None l below nil) in
    are_held (kind_of f) l.key l.kind below (λ q. omega (arith, h.once q)) own.kind (λ q s e. fits f held q s (below_at None l below nil q s h.once e))
