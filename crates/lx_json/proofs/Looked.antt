-- Looking into a value: the reading by members is one by look-ups.
use Rattle.std.proofs.Common.{◌≡◌, ◌∙◌, ◌+◌, ◌≤◌, ℕ, zero, suc, Bool, true, false, List, [], ◌∷◌, length, Option, None, Some, is_some, option_and_then, Result, Ok, Err, refl, ap, sym, arith, codes, if◌then◌else◌, drop}
use Rattle.std.specs.List.{slice_get}
use Rattle.serde_json.specs.declared.value.Value.{Value}
use Rattle.serde_json.specs.View.{view, items_view}
use Rattle.serde_json.specs.Data.{Data, array, object, Items, Members}
use Rattle.serde_json.specs.Find.{get, get_member, as_array, as_object}
use Rattle.lx_trees.specs.Trees.{Trees, nil}
use Rattle.lx_node.specs.Kinds.{is_element}
use Rattle.lx_node.specs.declared.kind.Kind.{Kind}
use Rattle.lx_node.specs.declared.cause.Cause.{Cause}
use Rattle.lx_node.specs.declared.cause.Cause.TheVariants.{BadState}
use Rattle.lx_fields.proofs.Looked.{looked_up}
use Rattle.lx_json.specs.Reading.{Piece, and_then, told_under, child_place, piece_of, with_tree, with_rest, if_element, tree_of, children_in, listed, trees_of}
use Rattle.lx_json.specs.Growing.{listed_in, children_told}

-- ---- the children are what is found under their name

children_in-get : (ms : Members) (kind : Kind) → children_in ms kind ≡ listed_in (get_member (codes "children") ms) kind
unfolding children_in
children_in-get ms kind = looked_up (codes "children") (λ o. listed_in o kind) (λ ms. children_in ms kind) refl (λ name d ms. refl) ms

agreed : {A B : Type 0} (r : Result A Cause) (f g : A → Result B Cause) → ((a : A) → f a ≡ g a) → and_then r f ≡ and_then r g
agreed (Ok a) f g same = same a
agreed (Err cause) f g same = refl

-- a node with what its object gives
abbrev pub with_children : Data → Piece → Result (Trees Piece) Cause
with_children d piece = with_tree piece (children_told piece.kind d)

children_of_object : (ms : Members) (kind : Kind) → if_element kind (children_in ms kind) ≡ children_told kind (object ms)
unfolding children_told
children_of_object ms kind = ap (if_element kind) (children_in-get ms kind)

pub tree_of-object : (d : Data) (above : Option Kind) → is_some (as_object d) ≡ true → tree_of d above ≡ and_then (piece_of above d) (with_children d)
unfolding tree_of
tree_of-object (object ms) above is = agreed (piece_of above (object ms)) _ _ (λ piece. ap (with_tree piece) (children_of_object ms piece.kind))
tree_of-object _ above is = absurd (grind (arith, is))

pub tree_of-other : (d : Data) (above : Option Kind) → is_some (as_object d) ≡ false → tree_of d above ≡ Err (BadState [])
unfolding tree_of
tree_of-other (object ms) above is = absurd (grind (arith, is))
tree_of-other _ above is = refl

-- below a node, what is no object has no type
pub tree_of-node : (d : Data) (parent : Kind) → tree_of d (Some parent) ≡ and_then (piece_of (Some parent) d) (with_children d)
unfolding tree_of piece_of
tree_of-node (object ms) parent = tree_of-object (object ms) (Some parent) refl
tree_of-node _ parent = refl

listed-array : (o : Option Data) (ds : Items) (kind : Kind) → option_and_then as_array o ≡ Some ds → listed_in o kind ≡ trees_of ds 0 kind
unfolding listed
listed-array None ds kind is = absurd (grind (arith, is))
listed-array (Some (array es)) ds kind is = let same : es ≡ ds = grind (arith, is) in ap (λ ds. trees_of ds 0 kind) same
listed-array (Some _) ds kind is = absurd (grind (arith, is))

listed-other : (o : Option Data) (kind : Kind) → option_and_then as_array o ≡ None → listed_in o kind ≡ Ok nil
unfolding listed
listed-other None kind is = refl
listed-other (Some (array es)) kind is = absurd (grind (arith, is))
listed-other (Some _) kind is = refl

pub children_told-list : {b : Bool} (kind : Kind) (d : Data) (ds : Items) → b ≡ is_element kind → b ≡ true
    → option_and_then as_array (get (codes "children") d) ≡ Some ds → children_told kind d ≡ trees_of ds 0 kind
unfolding children_told
children_told-list kind d ds same element is =
    ap (λ b. if b then listed_in (get (codes "children") d) kind else Ok nil) (sym same ∙ element) ∙ listed-array (get (codes "children") d) ds kind is

pub children_told-none : {b : Bool} (kind : Kind) (d : Data) → b ≡ is_element kind → b ≡ true → option_and_then as_array (get (codes "children") d) ≡ None
    → children_told kind d ≡ Ok nil
unfolding children_told
children_told-none kind d same element is =
    ap (λ b. if b then listed_in (get (codes "children") d) kind else Ok nil) (sym same ∙ element) ∙ listed-other (get (codes "children") d) kind is

pub children_told-leaf : {b : Bool} (kind : Kind) (d : Data) → b ≡ is_element kind → b ≡ false → children_told kind d ≡ Ok nil
unfolding children_told
children_told-leaf kind d same leaf = ap (λ b. if b then listed_in (get (codes "children") d) kind else Ok nil) (sym same ∙ leaf)

-- ---- items

-- the items from one on are that one and those after it
pub trees_left : (vs : List Value) (i n : ℕ) (v : Value) (kind : Kind) → slice_get vs i ≡ Some v
    → trees_of (items_view (drop i vs)) n kind
    ≡ with_rest (told_under (child_place n) (tree_of (view v) (Some kind))) (trees_of (items_view (drop (i + 1) vs)) (n + 1) kind)
unfolding trees_of
trees_left [] zero n v kind is = absurd (grind (arith, is))
trees_left [] (suc i) n v kind is = absurd (grind (arith, is))
trees_left (x ∷ vs) zero n v kind is = let same : x ≡ v =
    grind (arith, is) in ap (λ v. with_rest (told_under (child_place n) (tree_of (view v) (Some kind))) (trees_of (items_view vs) (n + 1) kind)) same
trees_left (x ∷ vs) (suc i) n v kind is =
    trees_left vs i n v kind is
    ∙ ap (λ k. with_rest (told_under (child_place n) (tree_of (view v) (Some kind))) (trees_of (items_view (drop k (x ∷ vs))) (n + 1) kind)) (next_place i)
  where
    next_place : (i : ℕ) → suc (i + 1) ≡ suc i + 1
    next_place i = omega arith

pub none_left : (vs : List Value) (i n : ℕ) (kind : Kind) → length vs ≤ i → trees_of (items_view (drop i vs)) n kind ≡ Ok nil
unfolding trees_of
none_left [] zero n kind h = refl
none_left [] (suc i) n kind h = refl
none_left (x ∷ vs) zero n kind h = absurd (omega (arith, h))
none_left (x ∷ vs) (suc i) n kind h = none_left vs i n kind (omega (arith, h))
