-- Where a map of nodes stands for a forest, what an edit leaves stands for the forest after that edit.
use Rattle.std.proofs.Common.{ℕ, zero, suc, ◌≡◌, ◌<◌, ◌≤◌, ◌-◌, true, false, cond, eqb, length, List, [], ◌∷◌, ◌&&◌, Option, None, Some, option_map, is_some, is_none, inl, inr, refl, sym, ap, ◌∙◌, subst, arith}
use Rattle.std.proofs.lemmas.Bool.Decides.{eqb_tells}
use Rattle.std.proofs.lemmas.Bool.{cases_Bool, false≢true}
use Rattle.std.specs.Ordering.{nat_cmp}
use Rattle.std.specs.Cmp.{nat_cmp_total}
use Rattle.std.specs.FinMap.{get, insert, remove, empty, len, get-empty, len-remove, len-empty, empty_of_len, same_map, nat_cmp-IsAntisymmetric}
use Rattle.lx_trees.specs.Siblings.{is_named, is_among, NoRepeats}
use Rattle.lx_trees.specs.NamedTrees.{total}
use Rattle.lx_trees.specs.NamedTrees as named
use Rattle.lx_trees.proofs.NamedTrees.{is_among-preorder, length-preorder, NoRepeats-preorder}
use Rattle.lx_node.specs.declared.kind.Kind.{Kind}
use Rattle.lx_node.specs.declared.kind.Kind.TheVariants.{Root}
use Rattle.lx_node.specs.declared.fields.Fields.{Fields}
use Rattle.lx_node.specs.declared.node.Node.{Node}
use Rattle.lx_forest.specs.Forest.{Forest, Label, root_alone, root_label}
use Rattle.lx_forest.specs.Lookups.{key_of, has, kind_of, siblings}
use Rattle.lx_forest.specs.Edits.{with_new, with_fields, take_out}
use Rattle.lx_forest.specs.Records.{Record, StandsFor, record_at, linked, lone, refielded}
use Rattle.lx_forest.specs.Records as recs
use Rattle.lx_forest.proofs.Records.{record_at-with_new, record_at-with_fields, record_at-take_out, is_some-record_at}
use Rattle.lx_forest.proofs.Edits.{total-with_new, total-with_fields, total-take_out}
use Rattle.lx_forest.proofs.Order.{IsForest-with_new, IsForest-with_fields, IsForest-take_out}
use Rattle.lx_node.specs.Kinds.{may_hold}
use Rattle.lx_node.specs.OfKind.{IsOfKind}
use Rattle.lx_node.specs.Plain.{plain_element}
use Rattle.lx_forest.proofs.Held.{IsHeld-root_alone, IsHeld-with_new, IsHeld-with_fields, IsHeld-take_out}
use Rattle.lx_forest.proofs.Suited.{IsSuited-root_alone, IsSuited-with_new, IsSuited-with_fields, IsSuited-take_out}
use Rattle.lx_links.specs.Faults.{set_fault}
use Rattle.lx_links.specs.Stands.{Nodes, Holds, node_of, record_of, records, lone_node}
use Rattle.lx_joints.specs.Changes.{Differs, on_links, unlinked}
use Rattle.lx_joints.proofs.Stands as joints
use Rattle.lx_links.specs.Changes.{links_of, with_links, with_content}
use Rattle.lx_links.proofs.Maps.{insert_at, remove_at}
use Rattle.lx_links.proofs.Seen.{is_some-map}
use Rattle.lx_links.proofs.Stood.{are, rooted, get_stands}

-- ---- a map has at most as many keys as the forest has nodes

all_none : (m : Nodes) → ((q : ℕ) → is_some (get m q) ≡ false) → m ≡ empty
all_none m h = same_map nat_cmp_total nat_cmp-IsAntisymmetric m empty (λ q. gone (get m q) (h q) ∙ sym (get-empty nat_cmp q)) where
  gone : (o : Option Node) → is_some o ≡ false → o ≡ None
  gone None e = refl
  gone (Some n) e = cc

left_in : (y : ℕ) (ys : List ℕ) (m : Nodes) (q : ℕ) → (is_some (get m q) ≡ true → is_among q (y ∷ ys) ≡ true) → is_some (get (remove m y) q) ≡ true
    → is_among q ys ≡ true
left_in y ys m q h e = elim (eqb_tells q y) [
  | inl here ↦ absurd (false≢true (sym (ap is_some (remove_at m y q ∙ ap (λ b. cond b None (get m q)) here.0)) ∙ e))
  | inr other ↦
      let among : is_among q (y ∷ ys) ≡ true = h (ap is_some (sym (remove_at m y q ∙ ap (λ b. cond b None (get m q)) other.0)) ∙ e) in
      grind (arith, among, other, eqb_tells y q)
]

few_keys : (ys : List ℕ) (m : Nodes) → ((q : ℕ) → is_some (get m q) ≡ true → is_among q ys ≡ true) → len m ≤ length ys
few_keys [] m h =
    let none : m ≡ empty = all_none m (λ q. elim (cases_Bool (is_some (get m q))) [ inl e ↦ absurd (false≢true (h q e)) | inr e ↦ e ]) in
    omega (arith, ap len none, len-empty nat_cmp Node)
few_keys (y ∷ ys) m h =
    let fewer : len (remove m y) ≤ length ys = few_keys ys (remove m y) (λ q e. left_in y ys m q (h q) e) in
    grind (arith, fewer, len-remove nat_cmp_total m y)

pub few_in : (m : Nodes) (f : Forest) → StandsFor (records m) f → len m ≤ total f
few_in m f s =
    let few =
    few_keys (named.preorder key_of f) m
    (λ q e. is_among-preorder key_of q f ∙ sym (is_some-record_at f q) ∙ ap is_some (sym (s.same q)) ∙ is_some-map (record_of q) (get m q) ∙ e) in
    omega (arith, few, length-preorder key_of f)

has_one : (m : Nodes) (y : ℕ) (o : Option Node) → get m y ≡ o → is_some o ≡ true → 0 < len m
has_one m y None e h = cc
has_one m y (Some n) e h = some_key (len m) refl where
  some_key : (k : ℕ) → len m ≡ k → 0 < k
  some_key zero z = let none : get m y ≡ None = ap (λ x. get x y) (empty_of_len m z) ∙ get-empty nat_cmp y in let no : None ≡ Some n = sym none ∙ e in cc
  some_key (suc k) z = omega arith

still_in : (y : ℕ) (ys : List ℕ) (m : Nodes) (q : ℕ) → is_among y ys ≡ false → (is_among q (y ∷ ys) ≡ true → is_some (get m q) ≡ true) → is_among q ys ≡ true
    → is_some (get (remove m y) q) ≡ true
still_in y ys m q out h e = elim (eqb_tells q y) [
  | inl here ↦ absurd (false≢true (sym out ∙ ap (λ x. is_among x ys) (sym here.1) ∙ e))
  | inr other ↦ ap is_some (remove_at m y q ∙ ap (λ b. cond b None (get m q)) other.0) ∙ h (grind (arith, e, cases_Bool (eqb y q)))
]

many_keys : (ys : List ℕ) (m : Nodes) → NoRepeats ys → ((q : ℕ) → is_among q ys ≡ true → is_some (get m q) ≡ true) → length ys ≤ len m
many_keys [] m apart h = omega arith
many_keys (y ∷ ys) m apart h =
    let there : is_some (get m y) ≡ true = h y (grind (arith, eqb_tells y y)) in
    let more : length ys ≤ len (remove m y) = many_keys ys (remove m y) apart.1 (λ q e. still_in y ys m q apart.0 (h q) e) in
    let fewer : len (remove m y) ≡ len m - 1 = len-remove nat_cmp_total m y ∙ ap (λ b. cond b (len m - 1) (len m)) there in
    let one : 0 < len m = has_one m y (get m y) refl there in
    omega (arith, more, fewer, one)

pub all_in : (m : Nodes) (f : Forest) → StandsFor (records m) f → len m ≡ total f
all_in m f s =
    let many = many_keys (named.preorder key_of f) m (NoRepeats-preorder key_of f s.in_order.once) (λ q e.
    sym (is_some-map (record_of q) (get m q)) ∙ ap is_some (s.same q) ∙ is_some-record_at f q ∙ sym (is_among-preorder key_of q f) ∙ e) in
    omega (arith, many, length-preorder key_of f, few_in m f s)

-- ---- links of the root alone

pub root_stands : StandsFor (records (insert empty 0 (lone_node Root plain_element))) root_alone
root_stands =
    let alone = joints.root_stands key_of record_of (get (insert empty 0 (lone_node Root plain_element))) root_label (lone_node Root plain_element) refl refl
    (λ q. insert_at empty 0 (lone_node Root plain_element) q ∙ ap (cond (eqb q 0) (Some (lone_node Root plain_element))) (get-empty nat_cmp q)) in
    record { in_order = record { once = alone.in_order.once; rising = alone.in_order.rising; root = refl }; same = alone.same; small = alone.small }

pub new_records : (start new : Nodes) (k : ℕ) (n : Node) (fields : Fields) → start ≡ empty → k ≡ 0 → n ≡ lone_node Root fields → fields ≡ plain_element
    → new ≡ insert start k n → StandsFor (records new) root_alone
new_records start new k n fields empty_is root node plain put =
    let e : new ≡ insert empty 0 (lone_node Root plain_element) =
    put ∙ ap (λ m. insert m k n) empty_is ∙ ap (λ k. insert empty k n) root ∙ ap (insert empty 0) (node ∙ ap (lone_node Root) plain) in
    let P : Nodes → Type 0 = λ m. StandsFor (records m) root_alone in subst P (sym e) root_stands

-- ---- edits

pub inserted_stands : (m : Nodes) (f : Forest) (k : ℕ) (kind : Kind) (fields : Fields) → StandsFor (records m) f → has k f ≡ false → total f < 4294967295
    → StandsFor (records (insert m k (lone_node kind fields))) (with_new (record { key = k; kind = kind; fields = fields }) f)
unfolding with_new
inserted_stands m f k kind fields s free room =
    let l : Label = record { key = k; kind = kind; fields = fields } in
    let made = joints.new_stands key_of record_of (get m) (get (insert m k (lone_node kind fields))) f l (lone_node kind fields) (rooted m f s) free
    (omega (arith, room)) refl (insert_at m k (lone_node kind fields)) in
    record { in_order = IsForest-with_new l f s.in_order free; same = made.same; small = made.small }

pub set_records : (old new : Nodes) (f : Forest) (k : ℕ) (fields : Fields) → StandsFor (records old) f
    → Differs (λ q. with_content fields (eqb q k)) (get old) (get new) → StandsFor (records new) (with_fields k fields f)
set_records old new f k fields s d = record {
  in_order = IsForest-with_fields k fields f s.in_order;
  same = λ q. joints.records_after key_of record_of (get old) (get new) f (λ q. with_content fields (eqb q k)) (refielded k fields) q (s.same q) d (λ n. refl)
      ∙ sym (record_at-with_fields k fields f q);
  small = omega (arith, total-with_fields k fields f, s.small);
}

pub taken_records : (old new : Nodes) (f : Forest) (k p : ℕ) (n : Node) → StandsFor (records old) f → Some n ≡ option_map node_of (record_at f k)
    → n.parent ≡ Some p → Differs (on_links links_of with_links (unlinked k p n.prev n.next)) (get old) (get new) → StandsFor (records new) (take_out k f)
unfolding take_out
taken_records old new f k p n s e up d =
    let taken = joints.taken_stands key_of record_of links_of with_links node_of are (get old) (get new) f k p n (rooted old f s)
    (get_stands old f k s ∙ sym e) up d in
    record { in_order = IsForest-take_out k f s.in_order; same = taken.same; small = taken.small }

pub put_records : (old new : Nodes) (f : Forest) (k : ℕ) (kind : Kind) (fields : Fields) (n : Node) → StandsFor (records old) f → has k f ≡ false
    → total f < 4294967295 → n ≡ lone_node kind fields → new ≡ insert old k n
    → StandsFor (records new) (with_new (record { key = k; kind = kind; fields = fields }) f)
put_records old new f k kind fields n s free room node put =
    let e : new ≡ insert old k (lone_node kind fields) = put ∙ ap (insert old k) node in
    let P : Nodes → Type 0 = λ m. StandsFor (records m) (with_new (record { key = k; kind = kind; fields = fields }) f) in
    subst P (sym e) (inserted_stands old f k kind fields s free room)

-- ---- the same, with the kinds of children

pub few_held : (m : Nodes) (f : Forest) → Holds m f → len m ≤ total f
few_held m f h = few_in m f h.stands

pub all_held : (m : Nodes) (f : Forest) → Holds m f → len m ≡ total f
all_held m f h = all_in m f h.stands

pub new_stands : (start new : Nodes) (k : ℕ) (n : Node) (fields : Fields) → start ≡ empty → k ≡ 0 → n ≡ lone_node Root fields → fields ≡ plain_element
    → new ≡ insert start k n → Holds new root_alone
new_stands start new k n fields empty_is root node plain put =
    record { stands = new_records start new k n fields empty_is root node plain put; held = IsHeld-root_alone may_hold; suited = IsSuited-root_alone }

pub put_stands : (old new : Nodes) (f : Forest) (k : ℕ) (kind : Kind) (fields : Fields) (n : Node) → Holds old f → has k f ≡ false → total f < 4294967295
    → IsOfKind kind fields → n ≡ lone_node kind fields → new ≡ insert old k n → Holds new (with_new (record { key = k; kind = kind; fields = fields }) f)
put_stands old new f k kind fields n h free room of_kind node put = record {
  stands = put_records old new f k kind fields n h.stands free room node put;
  held = IsHeld-with_new may_hold f h.stands.in_order h.held (record { key = k; kind = kind; fields = fields }) free;
  suited = IsSuited-with_new f (record { key = k; kind = kind; fields = fields }) h.stands.in_order free of_kind h.suited;
}

-- fields that were found to be of the node's kind
right_fields : (f : Forest) (k : ℕ) (fields : Fields) (kind : Kind) → set_fault k fields f ≡ None → kind_of f k ≡ Some kind → IsOfKind kind fields
right_fields f k fields kind none e = grind (arith, none, e)

pub set_stands : (old new : Nodes) (f : Forest) (k : ℕ) (fields : Fields) → Holds old f → set_fault k fields f ≡ None
    → Differs (λ q. with_content fields (eqb q k)) (get old) (get new) → Holds new (with_fields k fields f)
set_stands old new f k fields h none d = record {
  stands = set_records old new f k fields h.stands d;
  held = IsHeld-with_fields may_hold f h.stands.in_order h.held k fields;
  suited = IsSuited-with_fields f k fields (λ l here. right_fields f k fields l.kind none (ap (λ o. option_map (λ m. m.kind) o) here)) h.suited;
}

pub taken_stands : (old new : Nodes) (f : Forest) (k p : ℕ) (n : Node) → Holds old f → Some n ≡ option_map node_of (record_at f k) → n.parent ≡ Some p
    → Differs (on_links links_of with_links (unlinked k p n.prev n.next)) (get old) (get new) → Holds new (take_out k f)
taken_stands old new f k p n h e up d =
    record { stands = taken_records old new f k p n h.stands e up d; held = IsHeld-take_out may_hold f h.stands.in_order h.held k; suited = IsSuited-take_out f k h.stands.in_order h.suited }
