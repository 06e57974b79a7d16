-- What each case of a step says of the two next children.
use Rattle.std.proofs.Common.{◌≡◌, ℕ, Bool, true, false, eqb, not, cond, List, Option, None, Some, ◌⊎◌, inl, inr, refl, subst, arith}
use Rattle.std.proofs.lemmas.Bool.Decides.{eqb_tells}
use Rattle.lx_trees.specs.Siblings.{is_among}
use Rattle.lx_reconcile.specs.declared.progress.Case.{Case}
use Rattle.lx_reconcile.specs.declared.progress.Case.TheVariants as case
use Rattle.lx_reconcile.specs.Underway.{case_of}

-- what is read of a case
abbrev pub Says : List ℕ → List ℕ → Option ℕ → Option ℕ → Case → Type 0
Says olds news o n (case.Same k) = (o ≡ Some k) × (n ≡ Some k)
Says olds news o n (case.Gone k) = (o ≡ Some k) × ((n ≡ None) ⊎ (is_among k news ≡ false))
Says olds news o n (case.New k) = (n ≡ Some k) × ((o ≡ None) ⊎ (is_among k olds ≡ false))
Says olds news o n (case.Settled k) =
    (x : ℕ) × (o ≡ Some x) × (n ≡ Some k) × (eqb x k ≡ false) × (is_among x news ≡ true) × (is_among k olds ≡ true)
Says olds news o n case.Neither = (o ≡ None) × (n ≡ None)

says_apart : (olds news : List ℕ) (o n : ℕ) (known old : Bool) → is_among o news ≡ known → is_among n olds ≡ old → eqb o n ≡ false →
    Says olds news (Some o) (Some n) (cond (not known) (case.Gone o) (cond (not old) (case.New n) (case.Settled n)))
says_apart olds news o n false old e f other = (refl, inr e)
says_apart olds news o n true false e f other = (refl, inr f)
says_apart olds news o n true true e f other = (o, refl, refl, other, e, f)

says_both : (olds news : List ℕ) (o n : ℕ) (same : Bool) → eqb o n ≡ same →
    Says olds news (Some o) (Some n)
    (cond same (case.Same o) (cond (not (is_among o news)) (case.Gone o) (cond (not (is_among n olds)) (case.New n) (case.Settled n))))
says_both olds news o n true e = (refl, grind (arith, e, eqb_tells o n))
says_both olds news o n false e = says_apart olds news o n (is_among o news) (is_among n olds) refl refl e

says : (olds news : List ℕ) (o n : Option ℕ) → Says olds news o n (case_of olds news o n)
says olds news None None = (refl, refl)
says olds news (Some o) None = (refl, inl refl)
says olds news None (Some n) = (refl, inl refl)
says olds news (Some o) (Some n) = says_both olds news o n (eqb o n) refl

pub said : (olds news : List ℕ) (o n : Option ℕ) (k : Case) → case_of olds news o n ≡ k → Says olds news o n k
said olds news o n k e = subst (Says olds news o n) e (says olds news o n)
