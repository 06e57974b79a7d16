-- Each edit leaves trees in order, and trees in order are equal where their names stand alike.
use Rattle.std.proofs.Common.{◌≡◌, ◌≢◌, ℕ, suc, ◌<◌, ◌≤◌, true, false, cond, List, [], ◌∷◌, Option, refl, ap, ◌∙◌, arith, inl, inr}
use Rattle.std.specs.Prelude.{nat_lt}
use Rattle.std.proofs.lemmas.Bool.{cases_lt}
use Rattle.std.proofs.lemmas.Bool.Decides.{eqb_tells, leb_tells}
use Rattle.lx_trees.specs.Trees.{Trees, nil, tree}
use Rattle.lx_trees.specs.Siblings.{is_among, names_without}
use Rattle.lx_trees.proofs.NamedTrees.{names-joined, names-mapped, names-without, names-put_below, names-alone, alone-absent, without-absent}
use Rattle.lx_trees.proofs.Siblings.{names_without-absent_list, is_among-names_without}
use Rattle.lx_trees.proofs.Spots.{same_trees, is_among-firsts}
use Rattle.lx_trees.proofs.Subtrees.{count-alone_self}
use Rattle.lx_trees.proofs.Edits.{count-put_in, count-take_out, count-with_new, has-root, is_some-spot}
use Rattle.lx_trees.specs.NamedTrees.{count, has, names, alone, without, mapped}
use Rattle.lx_trees.specs.Spots.{spot}
use Rattle.lx_trees.specs.Lookups.{rises_from, rises, is_attached, IsOrdered}
use Rattle.lx_trees.specs.Edits.{among_roots, with_new, take_out, put_in, CanPut}
use Rattle.lx_trees.proofs.NamedTrees.{count-mapped, count-without-alone}

-- k at its place in a rising list
abbrev with_key : ℕ → List ℕ → List ℕ
with_key k [] = k ∷ []
with_key k (x ∷ xs) = cond (nat_lt k x) (k ∷ x ∷ xs) (x ∷ with_key k xs)

rises_from-lower : (low high : ℕ) (xs : List ℕ) → low ≤ high → rises_from high xs ≡ true → rises_from low xs ≡ true
rises_from-lower low high [] l e = refl
rises_from-lower low high (x ∷ xs) l e = grind (arith, leb_tells (suc low) x)

pub rises_from-absent : (low q : ℕ) (xs : List ℕ) → rises_from low xs ≡ true → q ≤ low → is_among q xs ≡ false
rises_from-absent low q [] e l = refl
rises_from-absent low q (x ∷ xs) e l = grind (arith, rises_from-absent x q xs, eqb_tells x q)

rises_from-names_without : (low k : ℕ) (xs : List ℕ) → rises_from low xs ≡ true → rises_from low (names_without k xs) ≡ true
rises_from-names_without low k [] e = refl
rises_from-names_without low k (x ∷ xs) e = grind (arith, rises_from-names_without x k xs, rises_from-names_without low k xs, rises_from-lower low x xs)

rises_from-with_key : (low k : ℕ) (xs : List ℕ) → rises_from low xs ≡ true → low < k → is_among k xs ≡ false → rises_from low (with_key k xs) ≡ true
rises_from-with_key low k [] e l n = grind arith
rises_from-with_key low k (x ∷ xs) e l n = grind (arith, rises_from-with_key x k xs, eqb_tells x k)

rises-names_without : (k : ℕ) (xs : List ℕ) → rises xs ≡ true → k ≢ 0 → rises (names_without k xs) ≡ true
rises-names_without k [] e n = absurd (grind arith)
rises-names_without k (x ∷ xs) e n = grind (arith, rises_from-names_without 0 k xs, eqb_tells x k, eqb_tells x 0)

rises-with_key : (k : ℕ) (xs : List ℕ) → rises xs ≡ true → is_among k xs ≡ false → rises (with_key k xs) ≡ true
rises-with_key k [] e n = absurd (grind arith)
rises-with_key k (x ∷ xs) e n = grind (arith, rises_from-with_key 0 k xs, eqb_tells x k, eqb_tells x 0)

with_key-zero : (xs : List ℕ) → rises_from 0 xs ≡ true → with_key 0 xs ≡ 0 ∷ xs
with_key-zero [] e = refl
with_key-zero (x ∷ xs) e = grind arith

rises-again : (k : ℕ) (xs : List ℕ) → rises xs ≡ true → rises (with_key k (names_without k xs)) ≡ true
rises-again k [] e = absurd (grind arith)
rises-again k (x ∷ xs) e =
    grind (arith, eqb_tells x k, eqb_tells x 0, eqb_tells k k, with_key-zero xs, rises_from-absent 0 0 xs, names_without-absent_list k xs, rises_from-names_without 0 k xs, rises_from-with_key 0 k (names_without k xs), is_among-names_without k k xs)

-- rising lists with the same members are equal
same_rising : (low : ℕ) (xs ys : List ℕ) → rises_from low xs ≡ true → rises_from low ys ≡ true → ((q : ℕ) → is_among q xs ≡ is_among q ys) → xs ≡ ys
same_rising low [] [] e f same = refl
same_rising low [] (y ∷ ys) e f same = absurd (grind (arith, same y, eqb_tells y y))
same_rising low (x ∷ xs) [] e f same = absurd (grind (arith, same x, eqb_tells x x))
same_rising low (x ∷ xs) (y ∷ ys) e f same =
    let firsts : x ≡ y =
    grind (arith, same x, same y, eqb_tells x x, eqb_tells y y, eqb_tells x y, eqb_tells y x, rises_from-absent x y xs, rises_from-absent y x ys) in
    let rests : xs ≡ ys =
    same_rising x xs ys (grind arith) (grind arith)
    (λ q. grind (arith, firsts, same q, eqb_tells x q, eqb_tells y q, rises_from-absent x q xs, rises_from-absent y q ys)) in
    cc

same_roots : (xs ys : List ℕ) → rises xs ≡ true → rises ys ≡ true → ((q : ℕ) → is_among q xs ≡ is_among q ys) → xs ≡ ys
same_roots [] ys e f same = absurd (grind arith)
same_roots (x ∷ xs) [] e f same = absurd (grind arith)
same_roots (x ∷ xs) (y ∷ ys) e f same =
    let firsts : x ≡ y = grind (arith, eqb_tells x 0, eqb_tells y 0) in
    let rests : xs ≡ ys =
    same_rising 0 xs ys (grind arith) (grind arith)
    (λ q. grind (arith, firsts, same q, eqb_tells x q, eqb_tells x 0, rises_from-absent 0 q xs, rises_from-absent 0 q ys)) in
    cc

module _ {A : Type 0} (name : A → ℕ) where
  roots-among_roots : (k : ℕ) (new f : Trees A) → names name new ≡ k ∷ [] → names name (among_roots name k new f) ≡ with_key k (names name f)
  roots-among_roots k new nil e = e
  roots-among_roots k new (tree l below rest) e = grind (arith, roots-among_roots k new rest e, names-joined name new (tree l below rest))

  among_roots-nil : (k : ℕ) (f : Trees A) → among_roots name k nil f ≡ f
  among_roots-nil k nil = refl
  among_roots-nil k (tree l below rest) = grind (arith, among_roots-nil k rest)

  absent_from : (f : Trees A) (q : ℕ) → IsOrdered name f → has name q f ≡ false → is_among q (names name f) ≡ false
  absent_from f q h free = grind (arith, is_among-firsts name f q h.once)

  roots_new : (l : A) (f : Trees A) → IsOrdered name f → has name (name l) f ≡ false → rises (names name (with_new name l f)) ≡ true
  unfolding with_new
  roots_new l f h free =
      rw (roots-among_roots (name l) (tree l nil nil) f refl) (rises-with_key (name l) (names name f) h.rising (absent_from f (name l) h free))

  roots_taken : (k : ℕ) (f : Trees A) → IsOrdered name f → rises (names name (take_out name k f)) ≡ true
  unfolding take_out
  roots_taken k f h =
      elim (cases_lt 0 (count name k f)) [
        | inl some ↦
            rw (roots-among_roots k (alone name k f) (without name k f) (names-alone name k f (omega (arith, h.once k))), names-without name k f)
            (rises-again k (names name f) h.rising)
        | inr none ↦
            let gone : count name k f ≡ 0 = omega arith in
            rw (alone-absent name k f gone, without-absent name k f gone, among_roots-nil k f) h.rising
      ]

  roots_put : (p : ℕ) (before : Option ℕ) (k : ℕ) (f : Trees A) → names name (put_in name p before k f) ≡ names_without k (names name f)
  unfolding put_in
  roots_put p before k f = names-put_below name p before (alone name k f) (without name k f) ∙ names-without name k f

  pub is_attached-root : (f : Trees A) → IsOrdered name f → is_attached name f 0 ≡ true
  is_attached-root f h = grind (arith, count-alone_self name 0 f, has-root name f h)

  pub IsOrdered-with_new : (l : A) (f : Trees A) → IsOrdered name f → has name (name l) f ≡ false → IsOrdered name (with_new name l f)
  IsOrdered-with_new l f h free = record {
    once = λ q. grind (arith, count-with_new name q l f, h.once q, eqb_tells (name l) q);
    rising = roots_new l f h free;
  }

  pub IsOrdered-take_out : (k : ℕ) (f : Trees A) → IsOrdered name f → IsOrdered name (take_out name k f)
  IsOrdered-take_out k f h = record {
    once = λ q. omega (arith, count-take_out name q k f, h.once q);
    rising = roots_taken k f h;
  }

  pub IsOrdered-put_in : (p : ℕ) (before : Option ℕ) (k : ℕ) (f : Trees A) → IsOrdered name f → CanPut name p k f → IsOrdered name (put_in name p before k f)
  IsOrdered-put_in p before k f h c = record {
    once = λ q. omega (arith, count-put_in name q p before k f h c.parent c.outside, h.once q);
    rising = ap rises (roots_put p before k f) ∙ rises-names_without k (names name f) h.rising c.other;
  }

  pub same_forest : (f g : Trees A) → IsOrdered name f → IsOrdered name g → ((q : ℕ) → spot name f q ≡ spot name g q) → f ≡ g
  same_forest f g h i same =
      same_trees name f g h.once i.once
      (same_roots (names name f) (names name g) h.rising i.rising
      (λ q. grind (arith, same q, is_among-firsts name f q h.once, is_among-firsts name g q i.once, is_some-spot name f q, is_some-spot name g q)))
      same

  pub IsOrdered-mapped : (g : A → A) → ((a : A) → name (g a) ≡ name a) → (f : Trees A) → IsOrdered name f → IsOrdered name (mapped g f)
  IsOrdered-mapped g keeps f h = record {
    once = λ q. omega (arith, count-mapped name g keeps q f, h.once q);
    rising = ap rises (names-mapped name g keeps f) ∙ h.rising;
  }

  pub IsOrdered-without : (k : ℕ) (f : Trees A) → IsOrdered name f → k ≢ 0 → IsOrdered name (without name k f)
  IsOrdered-without k f h other = record {
    once = λ q. omega (arith, count-without-alone name q k f, h.once q);
    rising = ap rises (names-without name k f) ∙ rises-names_without k (names name f) h.rising other;
  }
