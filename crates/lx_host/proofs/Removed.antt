-- What is kept of keys after a leaf is taken away.
use Rattle.std.proofs.Common.{ℕ, ◌≡◌, ◌+◌, ◌-◌, Bool, true, false, cond, eqb, ltb, nat_eq, [], Option, None, Some, option_map, is_some, refl, sym, ap, ◌∙◌, subst, arith, inl, inr}
use Rattle.std.proofs.lemmas.Bool.Decides.{eqb_tells, nat_tests}
use Rattle.std.specs.HashMap.{HashMap}
use Rattle.indexmap.specs.IndexMap.{get}
use Rattle.lx_trees.specs.Trees.{Trees, nil, tree}
use Rattle.lx_trees.specs.NamedTrees.{gathered}
use Rattle.lx_trees.specs.Spots.{Spot, spot, children_at}
use Rattle.lx_trees.proofs.NamedTrees.{without-absent}
use Rattle.lx_host.specs.Hosts.{Host, id_of, count, alone, without}
use Rattle.lx_trees.specs.Lookups.{IsOrdered, children_of}
use Rattle.lx_trees.proofs.Edits.{is_some-spot, key-spot}
use Rattle.lx_trees.proofs.Lookups.{alone-spot}
use Rattle.lx_host.specs.declared.keys.Shown.{Shown}
use Rattle.lx_host.specs.Shown.{without_one}
use Rattle.lx_host.specs.Weights.{weighed, shows, id_shown, shown, ids_shown, entry_by, entry_of, key_at, AreKeyed}
use Rattle.lx_host.proofs.Weights.{weighed-without-alone}

-- a leaf's weight goes
leaf_weight : (w : Host → ℕ) (f : Trees Host) (k : ℕ) (s : Spot Host) → IsOrdered id_of f → children_of id_of f k ≡ [] → spot id_of f k ≡ Some s
    → weighed w (without k f) + w s.label ≡ weighed w f
leaf_weight w f k s h leaf at =
    let kids : s.children ≡ [] = sym (ap children_at at) ∙ leaf in
    let whole : alone k f ≡ tree s.label nil nil = alone-spot id_of f k s h at ∙ ap (λ ks. tree s.label (gathered id_of f ks) nil) kids in
    omega (arith, weighed-without-alone w id_of k f, ap (weighed w) whole)

both : (n m i j : ℕ) → n ≡ m → i ≡ j → entry_by n i ≡ entry_by m j
both n m i j e f = rw (e, f) refl

entry_fewer : (n ids id : ℕ) → without_one id (entry_by (n + 1) (ids + id)) ≡ entry_by n ids
entry_fewer n ids id =
    let more : eqb (n + 1) 0 ≡ false = grind (arith, eqb_tells (n + 1) 0) in
    let less : n + 1 - 1 ≡ n = omega arith in
    let left : ids + id - id ≡ ids = omega arith in
    ap (λ b. without_one id (cond b None (Some (record { hosts = n + 1; ids = ids + id })))) more
    ∙ elim (eqb_tells n 0) [
      | inl here ↦ let two : ltb (n + 1) 2 ≡ true = grind (arith, here.1, nat_tests) in rw (two, here.0) refl
      | inr other ↦ let two : ltb (n + 1) 2 ≡ false = grind (arith, other.1, nat_tests) in rw (two, other.0, less, left) refl
    ]

none_at : (f : Trees Host) (k : ℕ) (o : Option (Spot Host)) → spot id_of f k ≡ o → None ≡ option_map (λ (s : Spot Host). s.label.face.key) o → count k f ≡ 0
none_at f k None at e = grind (arith, ap is_some at, is_some-spot id_of f k)
none_at f k (Some s) at e = cc

pub keyed_absent : {S : Type 0} (keys : HashMap ℕ Shown S) (f g : Trees Host) (k : ℕ) → g ≡ without k f → AreKeyed keys f → None ≡ key_at f k → AreKeyed keys g
keyed_absent keys f g k e keyed none = subst (AreKeyed keys) (sym (e ∙ without-absent id_of k f (none_at f k (spot id_of f k) refl none))) keyed

pub keyed_gone : {S : Type 0} (old new : HashMap ℕ Shown S) (f g : Trees Host) (key k : ℕ) → g ≡ without k f → IsOrdered id_of f → children_of id_of f k ≡ []
    → AreKeyed old f → Some key ≡ key_at f k → ((x : ℕ) → get nat_eq new x ≡ cond (nat_eq key x) (without_one k (get nat_eq old key)) (get nat_eq old x))
    → AreKeyed new g
keyed_gone old new f g key k e h leaf keyed shows_it each = subst (AreKeyed new) (sym e) (by (spot id_of f k) refl shows_it) where
  at : (s : Spot Host) → spot id_of f k ≡ Some s → s.label.face.key ≡ key → (x : ℕ) (b : Bool) → eqb key x ≡ b
      → cond (nat_eq key x) (without_one k (get nat_eq old key)) (get nat_eq old x) ≡ entry_of x (without k f)
  at s is same x true t =
      let own : key ≡ x = grind (arith, t, eqb_tells key x) in
      let it : eqb s.label.face.key x ≡ true = ap (λ y. eqb y x) same ∙ t in
      let id : id_of s.label ≡ k = key-spot id_of f k s is in
      let n : shown x f ≡ shown x (without k f) + 1 = sym (leaf_weight (shows x) f k s h leaf is) ∙ ap (λ b. shown x (without k f) + cond b 1 0) it in
      let m : ids_shown x f ≡ ids_shown x (without k f) + k =
      sym (leaf_weight (id_shown x) f k s h leaf is) ∙ ap (λ b. ids_shown x (without k f) + cond b (id_of s.label) 0) it
      ∙ ap (λ y. ids_shown x (without k f) + y) id in
      ap (λ b. cond b (without_one k (get nat_eq old key)) (get nat_eq old x)) t
      ∙ ap (without_one k) (ap (get nat_eq old) own ∙ keyed.each x ∙ both (shown x f) _ (ids_shown x f) _ n m)
      ∙ entry_fewer (shown x (without k f)) (ids_shown x (without k f)) k
  at s is same x false t =
      let it : eqb s.label.face.key x ≡ false = ap (λ y. eqb y x) same ∙ t in
      let n : shown x f ≡ shown x (without k f) = sym (leaf_weight (shows x) f k s h leaf is) ∙ ap (λ b. shown x (without k f) + cond b 1 0) it ∙ omega arith in
      let m : ids_shown x f ≡ ids_shown x (without k f) =
      sym (leaf_weight (id_shown x) f k s h leaf is) ∙ ap (λ b. ids_shown x (without k f) + cond b (id_of s.label) 0) it ∙ omega arith in
      ap (λ b. cond b (without_one k (get nat_eq old key)) (get nat_eq old x)) t
      ∙ keyed.each x ∙ both (shown x f) _ (ids_shown x f) _ n m

  by : (o : Option (Spot Host)) → spot id_of f k ≡ o → Some key ≡ option_map (λ (s : Spot Host). s.label.face.key) o → AreKeyed new (without k f)
  by None is e = cc
  by (Some s) is e = record { each = λ x. each x ∙ at s is (let e' : Some key ≡ Some s.label.face.key = e in cc) x (eqb key x) refl }
