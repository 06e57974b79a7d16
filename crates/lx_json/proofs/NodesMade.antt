-- Nodes that are read into a draft: their children by look-ups, and items seen from a place among them.
use Rattle.std.proofs.Common.{◌≡◌, ◌∙◌, ◌+◌, ◌≤◌, ℕ, zero, suc, Bool, true, false, List, [], ◌∷◌, ◌++◌, length, drop, Option, None, Some, option_and_then, Result, Ok, Err, refl, ap, sym, arith, codes, if◌then◌else◌, Ordering, append_assoc, append-nil}
use Rattle.std.specs.List.{slice_get}
use Rattle.std.specs.Ordering.{nat_cmp, match_ordering, is_eq}
use Rattle.std.specs.declared.cmp.Ordering.TheVariants.{Less, Equal, Greater}
use Rattle.std.specs.Str.{bytes_eq}
use Rattle.std.specs.Cmp.Lexicographic.{slice_cmp}
use Rattle.std.proofs.lemmas.Map.Text.{is_eq-slice_cmp}
use Rattle.std.proofs.lemmas.List.{drop_all}
use Rattle.serde_json.specs.declared.value.Value.{Value}
use Rattle.serde_json.specs.View.{view, items_view}
use Rattle.serde_json.specs.Data.{Data, null, boolean, number, string, array, object, Items, no_items, item, Members, no_members, member}
use Rattle.serde_json.specs.Find.{get, get_member, as_array}
use Rattle.lx_node.specs.Kinds.{is_element}
use Rattle.lx_node.specs.declared.kind.Kind.{Kind}
use Rattle.lx_node.specs.declared.cause.Cause.{Cause}
use Rattle.lx_node.specs.declared.cause.Fault.{Fault}
use Rattle.lx_node.specs.declared.cause.Fault.TheVariants as fault
use Rattle.lx_draft.specs.Working.{Working}
use Rattle.lx_draft.specs.Faults.{after, TellsStep}
use Rattle.lx_json.specs.Reading.{Piece, and_then, told_under, child_place, piece_of}
use Rattle.lx_json.specs.Growing.{IsUnder}
use Rattle.lx_json.specs.Nodes.{node_new, node_made, children_made, list_made, items_made, Made, index_place, with_first, nodes_made, given_in, children_given}
use Rattle.lx_json.proofs.Told.{tells_same, tells_on, tells_up}

-- ---- the children are what is found under their name

children_by : (o : Ordering) (d : Data) (ms : Members) (kind : Kind) (parent : ℕ) (w : Working)
    → children_made ms kind parent w ≡ given_in (get_member (codes "children") ms) kind parent w → (b : Bool) → is_eq o ≡ b
    → (if b then list_made d kind parent w else children_made ms kind parent w)
    ≡ given_in (match_ordering o (get_member (codes "children") ms) (Some d) (get_member (codes "children") ms)) kind parent w
children_by Less d ms kind parent w same true e = absurd (grind (arith, e))
children_by Less d ms kind parent w same false e = same
children_by Equal d ms kind parent w same true e = refl
children_by Equal d ms kind parent w same false e = absurd (grind (arith, e))
children_by Greater d ms kind parent w same true e = absurd (grind (arith, e))
children_by Greater d ms kind parent w same false e = same

children_made-get : (ms : Members) (kind : Kind) (parent : ℕ) (w : Working)
    → children_made ms kind parent w ≡ given_in (get_member (codes "children") ms) kind parent w
unfolding children_made
children_made-get no_members kind parent w = refl
children_made-get (member name d ms) kind parent w =
    children_by (slice_cmp nat_cmp (codes "children") name) d ms kind parent w (children_made-get ms kind parent w) (bytes_eq (codes "children") name)
    (is_eq-slice_cmp (codes "children") name)

-- a node with what its object gives
abbrev pub with_children : Data → Option ℕ → Working → Piece → Result Working Cause
with_children d parent w piece = after (node_new piece parent w) (children_given piece.kind w.next_key d)

agreed : {A : Type 0} (r : Result A Cause) (f g : A → Result Working Cause) → ((a : A) → f a ≡ g a) → and_then r f ≡ and_then r g
agreed (Ok a) f g same = same a
agreed (Err cause) f g same = refl

after_agreed : (r : Result Working Cause) (f g : Working → Result Working Cause) → ((a : Working) → f a ≡ g a) → after r f ≡ after r g
after_agreed (Ok a) f g same = same a
after_agreed (Err cause) f g same = refl

either_agreed : (b : Bool) (r s : Result Working Cause) (w : Working) → r ≡ s → (if b then r else Ok w) ≡ (if b then s else Ok w)
either_agreed true r s w same = same
either_agreed false r s w same = refl

pub node_made-node : (d : Data) (above : Kind) (parent : Option ℕ) (w : Working)
    → node_made d above parent w ≡ and_then (piece_of (Some above) d) (with_children d parent w)
unfolding node_made piece_of children_given
node_made-node (object ms) above parent w =
    agreed (piece_of (Some above) (object ms)) _ _
    (λ piece. after_agreed (node_new piece parent w) _ _ (λ v. either_agreed (is_element piece.kind) _ _ v (children_made-get ms piece.kind w.next_key v)))
node_made-node _ above parent w = refl

listed-array : (o : Option Data) (ds : Items) (kind : Kind) (parent : ℕ) (w : Working) → option_and_then as_array o ≡ Some ds
    → given_in o kind parent w ≡ items_made ds 0 kind parent w
unfolding list_made
listed-array None ds kind parent w is = absurd (grind (arith, is))
listed-array (Some (array es)) ds kind parent w is = let same : es ≡ ds = grind (arith, is) in ap (λ ds. items_made ds 0 kind parent w) same
listed-array (Some null) ds kind parent w is = absurd (grind (arith, is))
listed-array (Some (boolean b)) ds kind parent w is = absurd (grind (arith, is))
listed-array (Some (number n)) ds kind parent w is = absurd (grind (arith, is))
listed-array (Some (string s)) ds kind parent w is = absurd (grind (arith, is))
listed-array (Some (object ms)) ds kind parent w is = absurd (grind (arith, is))

listed-other : (o : Option Data) (kind : Kind) (parent : ℕ) (w : Working) → option_and_then as_array o ≡ None → given_in o kind parent w ≡ Ok w
unfolding list_made
listed-other None kind parent w is = refl
listed-other (Some (array es)) kind parent w is = absurd (grind (arith, is))
listed-other (Some null) kind parent w is = refl
listed-other (Some (boolean b)) kind parent w is = refl
listed-other (Some (number n)) kind parent w is = refl
listed-other (Some (string s)) kind parent w is = refl
listed-other (Some (object ms)) kind parent w is = refl

pub given-list : {b : Bool} (kind : Kind) (parent : ℕ) (d : Data) (ds : Items) (w : Working) → b ≡ is_element kind → b ≡ true
    → option_and_then as_array (get (codes "children") d) ≡ Some ds → children_given kind parent d w ≡ items_made ds 0 kind parent w
unfolding children_given
given-list kind parent d ds w same element is =
    ap (λ b. if b then given_in (get (codes "children") d) kind parent w else Ok w) (sym same ∙ element)
    ∙ listed-array (get (codes "children") d) ds kind parent w is

pub given-none : {b : Bool} (kind : Kind) (parent : ℕ) (d : Data) (w : Working) → b ≡ is_element kind → b ≡ true
    → option_and_then as_array (get (codes "children") d) ≡ None → children_given kind parent d w ≡ Ok w
unfolding children_given
given-none kind parent d w same element is =
    ap (λ b. if b then given_in (get (codes "children") d) kind parent w else Ok w) (sym same ∙ element)
    ∙ listed-other (get (codes "children") d) kind parent w is

pub given-leaf : {b : Bool} (kind : Kind) (parent : ℕ) (d : Data) (w : Working) → b ≡ is_element kind → b ≡ false → children_given kind parent d w ≡ Ok w
unfolding children_given
given-leaf kind parent d w same leaf = ap (λ b. if b then given_in (get (codes "children") d) kind parent w else Ok w) (sym same ∙ leaf)

-- ---- one after another

pub after_told : {A B : Type 0} (e : Fault) (first : Result A Cause) (next : A → Result B Cause) → TellsStep e first → TellsStep e (after first next)
after_told (fault.Cause cause) first next told = ap (λ r. after r next) told
after_told fault.Memory first next told = tt

pub after_ok : {A B : Type 0} (first : Result A Cause) (a : A) (next : A → Result B Cause) → first ≡ Ok a → after first next ≡ next a
after_ok first a next is = ap (λ r. after r next) is

-- ---- a node

-- it was made, and what its children come to is what it comes to
node_on : (d : Data) (above : Kind) (parent : Option ℕ) (w u : Working) (piece : Piece) (key : ℕ) → piece_of (Some above) d ≡ Ok piece
    → node_new piece parent w ≡ Ok u → key ≡ w.next_key
    → node_made d above parent w ≡ children_given piece.kind key d u
node_on d above parent w u piece key told made is =
    node_made-node d above parent w
    ∙ ap (λ r. and_then r (with_children d parent w)) told
    ∙ after_ok (node_new piece parent w) u (children_given piece.kind w.next_key d) made
    ∙ ap (λ k. children_given piece.kind k d u) (sym is)

pub node_done : (d : Data) (above : Kind) (parent : Option ℕ) (w u v : Working) (piece : Piece) (key : ℕ) → piece_of (Some above) d ≡ Ok piece
    → node_new piece parent w ≡ Ok u → key ≡ w.next_key
    → children_given piece.kind key d u ≡ Ok v → node_made d above parent w ≡ Ok v
node_done d above parent w u v piece key told made is below = node_on d above parent w u piece key told made is ∙ below

pub node_untold : (d : Data) (above : Kind) (parent : Option ℕ) (w : Working) (e : Fault) → TellsStep e (piece_of (Some above) d)
    → TellsStep e (node_made d above parent w)
node_untold d above parent w e told = tells_same e _ _ (node_made-node d above parent w) (tells_on e (piece_of (Some above) d) (with_children d parent w) told)

pub node_refused : (d : Data) (above : Kind) (parent : Option ℕ) (w : Working) (piece : Piece) (e : Fault) → piece_of (Some above) d ≡ Ok piece
    → TellsStep e (node_new piece parent w) → TellsStep e (node_made d above parent w)
node_refused d above parent w piece e told refused =
    tells_same e _ _ (node_made-node d above parent w ∙ ap (λ r. and_then r (with_children d parent w)) told)
    (after_told e (node_new piece parent w) (children_given piece.kind w.next_key d) refused)

pub below_refused : (d : Data) (above : Kind) (parent : Option ℕ) (w u : Working) (piece : Piece) (key : ℕ) (e : Fault) → piece_of (Some above) d ≡ Ok piece
    → node_new piece parent w ≡ Ok u → key ≡ w.next_key
    → TellsStep e (children_given piece.kind key d u) → TellsStep e (node_made d above parent w)
below_refused d above parent w u piece key e told made is refused = tells_same e _ _ (node_on d above parent w u piece key told made is) refused

-- ---- items

next_place : (i : ℕ) → suc (i + 1) ≡ suc i + 1
next_place i = omega arith

-- the items from one on are that one and those after it
pub items_left : (vs : List Value) (i : ℕ) (v : Value) → slice_get vs i ≡ Some v → items_view (drop i vs) ≡ item (view v) (items_view (drop (i + 1) vs))
items_left [] zero v is = absurd (grind (arith, is))
items_left [] (suc i) v is = absurd (grind (arith, is))
items_left (x ∷ vs) zero v is = let same : x ≡ v = grind (arith, is) in ap (λ v. item (view v) (items_view vs)) same
items_left (x ∷ vs) (suc i) v is = items_left vs i v is ∙ ap (λ k. item (view v) (items_view (drop k (x ∷ vs)))) (next_place i)

pub items_none : (vs : List Value) (i : ℕ) → length vs ≤ i → items_view (drop i vs) ≡ no_items
items_none vs i past = ap items_view (drop_all i vs past)

item_made : (vs : List Value) (i : ℕ) (v : Value) (kind : Kind) (parent : ℕ) (w : Working) → slice_get vs i ≡ Some v
    → items_made (items_view (drop i vs)) i kind parent w
    ≡ after (told_under (child_place i) (node_made (view v) kind (Some parent) w)) (items_made (items_view (drop (i + 1) vs)) (i + 1) kind parent)
unfolding items_made
item_made vs i v kind parent w is = ap (λ ds. items_made ds i kind parent w) (items_left vs i v is)

pub made_on : (vs : List Value) (i : ℕ) (v : Value) (kind : Kind) (parent : ℕ) (w u : Working) → slice_get vs i ≡ Some v
    → node_made (view v) kind (Some parent) w ≡ Ok u
    → items_made (items_view (drop (i + 1) vs)) (i + 1) kind parent u ≡ items_made (items_view (drop i vs)) i kind parent w
made_on vs i v kind parent w u is made =
    sym (item_made vs i v kind parent w is
    ∙ ap (λ r. after (told_under (child_place i) r) (items_made (items_view (drop (i + 1) vs)) (i + 1) kind parent)) made)

pub made_told : (vs : List Value) (i : ℕ) (v : Value) (kind : Kind) (parent : ℕ) (w : Working) (e up : Fault) (whole : Result Working Cause)
    → slice_get vs i ≡ Some v → items_made (items_view (drop i vs)) i kind parent w ≡ whole
    → IsUnder (child_place i) e up → TellsStep e (node_made (view v) kind (Some parent) w) → TellsStep up whole
made_told vs i v kind parent w e up whole is same above told =
    tells_same up _ whole (sym same ∙ item_made vs i v kind parent w is) (after_told up _ _ (tells_up (child_place i) e up _ above told))

pub made_done : (vs : List Value) (i : ℕ) (kind : Kind) (parent : ℕ) (w : Working) → length vs ≤ i → items_made (items_view (drop i vs)) i kind parent w ≡ Ok w
unfolding items_made
made_done vs i kind parent w past = ap (λ ds. items_made ds i kind parent w) (items_none vs i past)

-- ---- nodes that are below nothing

-- the keys so far, before those of the nodes that are left
abbrev pub and_ahead : List ℕ → Made → Result Made Cause
and_ahead keys made = Ok (record { draft = made.draft; keys = keys ++ made.keys })

-- what is left comes to what all comes to, after the keys so far
abbrev pub IsMadeUpTo : List Value → ℕ → Kind → Working → List ℕ → Result Made Cause → Type 0
IsMadeUpTo vs i kind w keys whole = after (nodes_made (items_view (drop i vs)) i kind w) (and_ahead keys) ≡ whole

pub apart_begins : (vs : List Value) (kind : Kind) (w : Working) (keys : List ℕ) → keys ≡ [] → IsMadeUpTo vs 0 kind w keys (nodes_made (items_view vs) 0 kind w)
apart_begins vs kind w keys none =
    ap (λ (ks : List ℕ). after (nodes_made (items_view vs) 0 kind w) (and_ahead ks)) none ∙ by_result (nodes_made (items_view vs) 0 kind w) where
      by_result : (r : Result Made Cause) → after r (and_ahead []) ≡ r
      by_result (Ok made) = refl
      by_result (Err cause) = refl

node_apart : (vs : List Value) (i : ℕ) (v : Value) (kind : Kind) (w : Working) → slice_get vs i ≡ Some v
    → nodes_made (items_view (drop i vs)) i kind w
    ≡ after (told_under (index_place i) (node_made (view v) kind None w))
    (λ u. after (nodes_made (items_view (drop (i + 1) vs)) (i + 1) kind u) (with_first w.next_key))
unfolding nodes_made
node_apart vs i v kind w is = ap (λ ds. nodes_made ds i kind w) (items_left vs i v is)

joined_ahead : (keys more : List ℕ) (k : ℕ) (r : Result Made Cause) → more ≡ keys ++ k ∷ []
    → after r (and_ahead more) ≡ after (after r (with_first k)) (and_ahead keys)
joined_ahead keys more k (Ok made) is =
    ap (λ (ks : List ℕ). let m : Made = record { draft = made.draft; keys = ks } in let r : Result Made Cause = Ok m in r)
    (ap (λ xs. xs ++ made.keys) is ∙ append_assoc keys (k ∷ []) made.keys)
joined_ahead keys more k (Err cause) is = refl

pub apart_on : (vs : List Value) (i : ℕ) (v : Value) (kind : Kind) (w u : Working) (keys more : List ℕ) (k : ℕ) (whole : Result Made Cause)
    → slice_get vs i ≡ Some v → node_made (view v) kind None w ≡ Ok u
    → k ≡ w.next_key → more ≡ keys ++ k ∷ [] → IsMadeUpTo vs i kind w keys whole → IsMadeUpTo vs (i + 1) kind u more whole
apart_on vs i v kind w u keys more k whole is made key more_is before =
    let rest : Working → Result Made Cause = λ x. nodes_made (items_view (drop (i + 1) vs)) (i + 1) kind x in
    joined_ahead keys more k (rest u) more_is
    ∙ ap (λ x. after (after (rest u) (with_first x)) (and_ahead keys)) key
    ∙ ap (λ r. after (after (told_under (index_place i) r) (λ x. after (rest x) (with_first w.next_key))) (and_ahead keys)) (sym made)
    ∙ ap (λ r. after r (and_ahead keys)) (sym (node_apart vs i v kind w is))
    ∙ before

pub apart_told : (vs : List Value) (i : ℕ) (v : Value) (kind : Kind) (w : Working) (keys : List ℕ) (e up : Fault) (whole : Result Made Cause)
    → slice_get vs i ≡ Some v → IsMadeUpTo vs i kind w keys whole
    → IsUnder (index_place i) e up → TellsStep e (node_made (view v) kind None w) → TellsStep up whole
apart_told vs i v kind w keys e up whole is before above told =
    tells_same up _ whole (sym before ∙ ap (λ r. after r (and_ahead keys)) (node_apart vs i v kind w is))
    (after_told up _ _ (after_told up _ _ (tells_up (index_place i) e up _ above told)))

pub apart_done : (vs : List Value) (i : ℕ) (kind : Kind) (w : Working) (keys : List ℕ) (whole : Result Made Cause) → length vs ≤ i
    → IsMadeUpTo vs i kind w keys whole → whole ≡ Ok (record { draft = w; keys = keys })
unfolding nodes_made
apart_done vs i kind w keys whole past before =
    sym before ∙ ap (λ ds. after (nodes_made ds i kind w) (and_ahead keys)) (items_none vs i past)
    ∙ ap (λ (ks : List ℕ). let m : Made = record { draft = w; keys = ks } in let r : Result Made Cause = Ok m in r) (append-nil keys)
