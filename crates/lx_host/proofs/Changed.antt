-- What creating and taking away leave, and ways through the hosts.
use Rattle.std.proofs.Common.{ℕ, ◌≡◌, ◌≢◌, ◌<◌, ◌+◌, Bool, cond, eqb, true, false, nat_eq, List, [], ◌∷◌, length, Option, None, Some, option_map, is_some, Result, Ok, Err, Bor, refl, sym, ap, ◌∙◌, subst, arith, inl, inr}
use Rattle.std.specs.Result.{IsOk, OnOk}
use Rattle.std.specs.Option.{option_copied}
use Rattle.std.proofs.lemmas.Bool.{cases_Bool}
use Rattle.std.proofs.lemmas.Bool.Decides.{eqb_tells}
use Rattle.std.specs.HashMap.{HashMap}
use Rattle.std.specs.Map.{lookup}
use Rattle.indexmap.specs.IndexMap.{get}
use Rattle.lx_node.specs.Limits.{last_u32}
use Rattle.lx_trees.specs.Trees.{Trees, joined}
use Rattle.lx_trees.specs.NamedTrees.{total}
use Rattle.lx_trees.specs.Walks.{ancestors}
use Rattle.lx_trees.specs.Siblings.{first_of, names_without}
use Rattle.lx_trees.proofs.NamedTrees.{count-without-alone, total-without-alone, count-le-total}
use Rattle.lx_trees.proofs.Siblings.{is_named_tells, first_of-among}
use Rattle.lx_trees.proofs.Subtrees.{count-alone-le, count-alone_self, alone-without, alone-alone, alone-antisym, total-alone_child-lt}
use Rattle.lx_trees.proofs.Walks as walks
use Rattle.lx_host.specs.Hosts.{Host, Face, root_face, id_of, has, count, alone, without, one_host}
use Rattle.lx_trees.specs.Lookups.{IsOrdered, parent_of, children_of, first_child, is_within}
use Rattle.lx_trees.specs.Edits.{with_new, take_out}
use Rattle.lx_trees.specs.Records.{Record, record_at, lone}
use Rattle.lx_trees.proofs.Edits.{total-with_new, parent_of-root}
use Rattle.lx_trees.proofs.Leaves.{total-numbered, among_roots-last, is_within-leaf, without-without}
use Rattle.lx_trees.proofs.Lookups.{is_among-children_of, parent_of-take_out, children_of-take_out, has-parent_of}
use Rattle.lx_trees.proofs.Order.{IsOrdered-with_new, IsOrdered-without}
use Rattle.lx_trees.proofs.Records.{record_at-with_new, record_at-without, is_some-record_at}
use Rattle.lx_trees.proofs.Within.{is_within-self, is_within-up, is_within-top, is_within-parent}
use Rattle.lx_joints.proofs.Stands as joints
use Rattle.lx_host.specs.declared.tag.Name.{Name}
use Rattle.lx_host.specs.declared.linked.Linked.{Linked}
use Rattle.lx_host.specs.Stands.{record_of, linked_of, Stands}

pub on_ok : {T E P : Type 0} (r : Result T E) → IsOk r → OnOk r P → P
on_ok (Ok x) i p = p
on_ok (Err e) i p = cc

-- a host without links, and what it shows
abbrev pub lone_host : Face → Linked
lone_host face =
    record {
      key = face.key;
      tag = face.tag;
      attrs = face.attrs;
      text = face.text;
      ending = face.ending;
      parent = None;
      prev = None;
      next = None;
      first = None;
      last = None;
      size = 0;
    }

last_new : (id : ℕ) (face : Face) (f : Trees Host) → ((q : ℕ) → id < q + 1 → count q f ≡ 0)
    → with_new id_of (record { id = id; face = face }) f ≡ joined f (one_host id face)
unfolding with_new
last_new id face f above = among_roots-last id_of id (one_host id face) f above

-- the same test, of the other from the one
turned : (k q : ℕ) (x o : Option Linked) → cond (nat_eq k q) x o ≡ cond (eqb q k) x o
turned k q x o = ap (λ b. cond b x o) (grind (arith, eqb_tells k q, eqb_tells q k))

gone_record : (k q : ℕ) (f : Trees Host) (o : Option Linked) → IsOrdered id_of f → children_of id_of f k ≡ [] → option_map (record_of q) o ≡ record_at id_of f q
    → option_map (record_of q) (cond (nat_eq k q) None o) ≡ cond (is_within id_of f k q) None (record_at id_of f q)
gone_record k q f o h leaf e = elim (eqb_tells q k) [
  | inl here ↦ grind (arith, here, eqb_tells k q, is_within-leaf id_of f k q h leaf, is_some-record_at id_of f q, absent (record_at id_of f q))
  | inr other ↦ grind (arith, other, e, eqb_tells k q, is_within-leaf id_of f k q h leaf)
]
  where
    absent : (r : Option (Record Host)) → is_some r ≡ false → r ≡ None
    absent None z = refl
    absent (Some x) z = cc

module _ {S : Type 0} where
  pub created_stands : (old new : HashMap ℕ Linked S) (f : Trees Host) (id : ℕ) (face : Face) → Stands old f → ((q : ℕ) → id < q + 1 → count q f ≡ 0)
      → id < last_u32 → ((q : ℕ) → get nat_eq new q ≡ cond (nat_eq id q) (Some (lone_host face)) (get nat_eq old q)) → Stands new (joined f (one_host id face))
  created_stands old new f id face s above below put =
      let l : Host = record { id = id; face = face } in
      let free : has id f ≡ false = grind (arith, above id) in
      let made : Stands new (with_new id_of l f) =
      joints.new_stands id_of record_of (get nat_eq old) (get nat_eq new) f l (lone_host face) s free
      (omega (arith, total-numbered id_of id f s.in_order above, below)) refl (λ q. put q ∙ turned id q (Some (lone_host face)) (get nat_eq old q)) in
      subst (Stands new) (last_new id face f above) made

  pub gone_stands : (old new : HashMap ℕ Linked S) (f : Trees Host) (k : ℕ) → Stands old f → k ≢ 0 → parent_of id_of f k ≡ None → children_of id_of f k ≡ []
      → ((q : ℕ) → get nat_eq new q ≡ cond (nat_eq k q) None (get nat_eq old q)) → Stands new (without k f)
  gone_stands old new f k s other top leaf gone = record {
    in_order = IsOrdered-without id_of k f s.in_order other;
    same = λ q. ap (option_map (record_of q)) (gone q) ∙ gone_record k q f (get nat_eq old q) s.in_order leaf (s.same q)
        ∙ sym (record_at-without id_of k f q s.in_order top);
    small = omega (arith, total-without-alone id_of k f, s.small);
  }

  pub same_stands : (old new : HashMap ℕ Linked S) (f : Trees Host) → Stands old f → new.entries ≡ old.entries → Stands new f
  same_stands old new f s e =
      record { in_order = s.in_order; same = λ q. ap (λ es. option_map (record_of q) (lookup (nat_eq q) es)) e ∙ s.same q; small = s.small }

-- ---- a leaf that is taken out

pub taken_top : (k : ℕ) (f : Trees Host) → IsOrdered id_of f → parent_of id_of (take_out id_of k f) k ≡ None
taken_top k f h = parent_of-take_out id_of k f k h ∙ grind (arith, eqb_tells k k)

pub taken_leaf : (k : ℕ) (f : Trees Host) → IsOrdered id_of f → children_of id_of f k ≡ [] → children_of id_of (take_out id_of k f) k ≡ []
taken_leaf k f h leaf = children_of-take_out id_of k f k h ∙ ap (names_without k) leaf

-- ---- down to a leaf

pub child_up : (f : Trees Host) (q c : ℕ) → IsOrdered id_of f → first_child id_of f q ≡ Some c → parent_of id_of f c ≡ Some q
child_up f q c h e = grind (arith, first_of-among (children_of id_of f q) c e, is_among-children_of id_of f c q h, is_named_tells (parent_of id_of f c) q)

pub child_smaller : (f : Trees Host) (q c : ℕ) → IsOrdered id_of f → first_child id_of f q ≡ Some c → total (alone c f) < total (alone q f)
child_smaller f q c h e = total-alone_child-lt id_of f c q h.once (child_up f q c h e)

pub child_within : (f : Trees Host) (k q c : ℕ) → IsOrdered id_of f → is_within id_of f k q ≡ true → first_child id_of f q ≡ Some c
    → is_within id_of f k c ≡ true
child_within f k q c h inside e =
    let up : parent_of id_of f c ≡ Some q = child_up f q c h e in
    elim (eqb_tells c k) [
      | inl own ↦
          grind (arith, own, is_within-self id_of f k, inside, count-alone-le id_of q k f, above_there f c q up, count-alone_self id_of k f, is_within-parent id_of f c q h up)
      | inr other ↦ is_within-up id_of f k c q h up other.1 ∙ inside
    ]
  where
    above_there : (f : Trees Host) (c q : ℕ) → parent_of id_of f c ≡ Some q → has q f ≡ true
    above_there f c q up = has-parent_of id_of f c q up

none_first : (xs : List ℕ) → first_of xs ≡ None → xs ≡ []
none_first [] e = refl
none_first (x ∷ xs) e = cc

pub no_child : (f : Trees Host) (q : ℕ) → first_child id_of f q ≡ None → children_of id_of f q ≡ []
no_child f q e = none_first (children_of id_of f q) e

-- ---- up

pub one_up : (f : Trees Host) (q p : ℕ) → IsOrdered id_of f → parent_of id_of f q ≡ Some p → length (ancestors id_of f q) ≡ length (ancestors id_of f p) + 1
one_up f q p h e = ap length (walks.ancestors-step id_of f q p h.once e) ∙ omega arith

pub not_top : (f : Trees Host) (k q : ℕ) → IsOrdered id_of f → q ≢ k → parent_of id_of f q ≡ None → is_within id_of f k q ≡ false
not_top f k q h other top = is_within-top id_of f k q h top other

-- ---- a leaf is taken away

apart_from : (f : Trees Host) (k a : ℕ) → IsOrdered id_of f → is_within id_of f k a ≡ true → a ≢ k → count k (alone a f) ≡ 0
apart_from f k a h inside other =
    elim (cases_Bool (has k (alone a f))) [
      | inl both ↦ absurd (other (alone-antisym id_of a k f h.once (grind (arith, inside)) (grind (arith, both))))
      | inr none ↦ grind (arith, none)
    ]

pub parent_stays : (f : Trees Host) (k a p : ℕ) → IsOrdered id_of f → is_within id_of f k a ≡ true → a ≢ k → parent_of id_of f a ≡ Some p
    → is_within id_of (without a f) k p ≡ true
parent_stays f k a p h inside other up =
    let above : is_within id_of f k p ≡ true = sym (is_within-up id_of f k a p h up other) ∙ inside in
    let gone : count a (without k f) ≡ 0 = grind (arith, inside, h.once a, count-without-alone id_of a k f) in
    let left : alone k (without a f) ≡ without a (alone k f) = alone-without id_of k a f (apart_from f k a h inside other) in
    let whole : alone a (alone k f) ≡ alone a f = alone-alone id_of a k f gone in
    rw left (grind (arith, above, is_within-parent id_of f a p h up, whole, count-without-alone id_of p a (alone k f)))

-- and what is left without the whole tree stays
pub rest_stays : (f : Trees Host) (k a : ℕ) → IsOrdered id_of f → is_within id_of f k a ≡ true → without k (without a f) ≡ without k f
rest_stays f k a h inside = without-without id_of k a f (grind (arith, inside, h.once a, count-without-alone id_of a k f))

pub fewer_left : (f : Trees Host) (k a : ℕ) → is_within id_of f k a ≡ true → total (without a f) < total f
fewer_left f k a inside =
    grind (arith, inside, count-alone-le id_of a k f, count-alone_self id_of a f, total-without-alone id_of a f, count-le-total id_of a (alone a f))

pub has_within : (f : Trees Host) (k q : ℕ) → is_within id_of f k q ≡ true → has q f ≡ true
has_within f k q inside = grind (arith, inside, count-alone-le id_of q k f)

-- a host that is below another isn't host 0
pub not_root : (f : Trees Host) (q p : ℕ) → IsOrdered id_of f → parent_of id_of f q ≡ Some p → q ≢ 0
not_root f q p h up e = none_some (parent_of id_of f q) (ap (parent_of id_of f) e ∙ parent_of-root id_of f h) up where
  none_some : (o : Option ℕ) → o ≡ None → o ≡ Some p → ⊥
  none_some None a b = cc
  none_some (Some x) a b = cc

pub none_within : (f : Trees Host) (k q : ℕ) → IsOrdered id_of f → is_within id_of f k q ≡ true → q ≢ k → parent_of id_of f q ≡ None → ⊥
none_within f k q h inside other top = grind (arith, inside, not_top f k q h other top)

pub ok_was : {T E P : Type 0} (r : Result T E) (x : T) → r ≡ Ok x → OnOk r P → P
ok_was (Ok y) x e p = p
ok_was (Err z) x e p = cc

none_in : {S : Type 0} (m : HashMap ℕ Linked S) (q : ℕ) → m.entries ≡ [] → get nat_eq m q ≡ None
none_in m q e = ap (λ es. lookup (nat_eq q) es) e

pub root_linked : (key : ℕ) (attrs items : List (Name × List ℕ)) → key ≡ 0 → attrs ≡ items → items ≡ []
    → ◌≡◌ {A = Linked} (lone_host (record root_face { key = key; attrs = attrs })) (lone_host root_face)
root_linked key attrs items k a i = let e : attrs ≡ [] = a ∙ i in rw (k, e) refl

pub made_root : {S : Type 0} (old new : HashMap ℕ Linked S) (n : Linked) → n ≡ lone_host root_face → old.entries ≡ []
    → ((q : ℕ) → get nat_eq new q ≡ cond (nat_eq 0 q) (Some n) (get nat_eq old q)) → Stands new (one_host 0 root_face)
made_root old new n is empty put =
    joints.root_stands id_of record_of (get nat_eq new) (record { id = 0; face = root_face }) n refl (ap (record_of 0) is)
    (λ q. put q ∙ turned 0 q (Some n) (get nat_eq old q) ∙ ap (cond (eqb q 0) (Some n)) (none_in old q empty))
