-- Marks above which all is noted.
use Rattle.std.proofs.Common.{◌≡◌, ◌∙◌, ◌⊎◌, ◌||◌, ◌&&◌, ℕ, Bool, true, false, eqb, Option, None, Some, IfSome, Result, Ok, Err, refl, sym, ap, subst, inl, inr, arith}
use Rattle.std.specs.Prelude.{is_some}
use Rattle.std.specs.Result.{OnOk}
use Rattle.std.proofs.lemmas.Bool.{cases_eq}
use Rattle.std.proofs.lemmas.Bool.Decides.{eqb_tells}
use Rattle.lx_marks.specs.Marks.{Marked, flag_in, is_touched, is_noted, with_leaf, with_marked}
use Rattle.lx_marks.proofs.Told.{touched-leaf, touched-element, noted-leaf, noted-element}
use Rattle.lx_forest.specs.Forest.{Forest}
use Rattle.lx_forest.specs.Lookups.{has, parent_of}
use Rattle.lx_forest.proofs.Lookups.{has-parent_of}
use Rattle.lx_compare.specs.Differing.{IsAffected, itself, parent_before, parent_after}
use Rattle.lx_compare.specs.Marking.{IsRaised, IsRaisedBut, AreFounded}

-- ---- over the answers of calls

pub on_ok : {X E : Type 0} (r : Result X E) {P Q : Type 0} → OnOk r P → (P → Q) → OnOk r Q
on_ok (Ok x) p then = then p
on_ok (Err e) p then = tt

pub all_ok : {X E : Type 0} (r : Result X E) {P Q R S : Type 0} → OnOk r P → OnOk r Q → OnOk r R → (P → Q → R → S) → OnOk r S
all_ok (Ok x) p q s then = then p q s
all_ok (Err e) p q s then = tt

pub where_some : (o : Option ℕ) (P : ℕ → Type 0) → ((k : ℕ) → o ≡ Some k → P k) → IfSome o P
where_some None P h = tt
where_some (Some k) P h = h k refl

-- ---- one node more

-- a node more is touched, and so it is noted
pub record Adds (k : ℕ) (m n : Marked) : Type 0 where
  pub touched : (q : ℕ) → is_touched n q ≡ (is_touched m q || eqb q k)
  pub noted : (q : ℕ) → is_noted n q ≡ (is_noted m q || eqb q k)

and_true : (b : Bool) → (b && true) ≡ b
and_true true = refl
and_true false = refl

pub adds_leaf : (k : ℕ) (m n : Marked) → n ≡ with_leaf k m → Adds k m n
adds_leaf k m n e = record {
  touched = λ q. ap (λ x. is_touched x q) e ∙ touched-leaf k m q;
  noted = λ q. ap (λ x. is_noted x q) e ∙ noted-leaf k m q;
}

pub adds_element : (k : ℕ) (m n : Marked) → n ≡ with_marked k true m → Adds k m n
adds_element k m n e = record {
  touched = λ q. ap (λ x. is_touched x q) e ∙ touched-element k true m q ∙ ap (λ b. is_touched m q || b) (and_true (eqb q k));
  noted = λ q. ap (λ x. is_noted x q) e ∙ noted-element k true m q;
}

or_left : (a b : Bool) → a ≡ true → (a || b) ≡ true
or_left a b e = grind (arith, e)

or_right : (a b : Bool) → b ≡ true → (a || b) ≡ true
or_right true b e = refl
or_right false b e = e

-- either it was there, or it is the one that was added
or_either : (a : Bool) (q k : ℕ) → (a || eqb q k) ≡ true → (a ≡ true) ⊎ (q ≡ k)
or_either true q k e = inl refl
or_either false q k e = elim (eqb_tells q k) [
  | inl same ↦ inr same.1
  | inr other ↦ absurd (let h : false ≡ true = sym other.0 ∙ e in cc)
]

pub touched_once : (k : ℕ) (m n : Marked) (q : ℕ) → Adds k m n → is_touched n q ≡ true → (is_touched m q ≡ true) ⊎ (q ≡ k)
touched_once k m n q adds e = or_either (is_touched m q) q k (sym (adds.touched q) ∙ e)

pub noted_once : (k : ℕ) (m n : Marked) (q : ℕ) → Adds k m n → is_noted n q ≡ true → (is_noted m q ≡ true) ⊎ (q ≡ k)
noted_once k m n q adds e = or_either (is_noted m q) q k (sym (adds.noted q) ∙ e)

-- ---- up

-- On the way up from a node: only what is above this one may be missing, and nothing is added but nodes of the tree.
pub record IsRising (f : Forest) (start m : Marked) (at : ℕ) : Type 0 where
  pub raised : IsRaisedBut f at m
  pub touched : (q : ℕ) → is_touched m q ≡ is_touched start q
  pub noted : (q : ℕ) → is_noted m q ≡ true → (is_noted start q ≡ true) ⊎ (has q f ≡ true)

same_parent : (f : Forest) (at q p r : ℕ) → q ≡ at → parent_of f at ≡ Some p → parent_of f q ≡ Some r → r ≡ p
same_parent f at q p r same up e = let h : Some p ≡ Some r = sym up ∙ ap (parent_of f) (sym same) ∙ e in cc

or_false : (b c : Bool) → (b || (c && false)) ≡ b
or_false true c = refl
or_false false true = refl
or_false false false = refl

pub rising_more : (f : Forest) (start m n : Marked) (at p : ℕ) → IsRising f start m at → parent_of f at ≡ Some p → n ≡ with_marked p false m
    → IsRising f start n p
rising_more f start m n at p up above is = record {
  raised = λ q r noted other e. elim (or_either (is_noted m q) q p (sym (more q) ∙ noted)) [
    | inr same ↦ absurd (other same)
    | inl was ↦ elim (cases_eq q at) [
      | inl here ↦ more r ∙ or_right (is_noted m r) (eqb r p) (grind (arith, same_parent f at q p r here above e, eqb_tells r p))
      | inr apart ↦ more r ∙ or_left (is_noted m r) (eqb r p) (up.raised q r was apart e)
    ]
  ];
  touched = λ q. ap (λ x. is_touched x q) is ∙ touched-element p false m q ∙ or_false (is_touched m q) (eqb q p) ∙ up.touched q;
  noted = λ q e. elim (or_either (is_noted m q) q p (sym (more q) ∙ e)) [
    | inl was ↦ up.noted q was
    | inr same ↦ inr (ap (λ x. has x f) same ∙ has-parent_of f at p above)
  ];
} where
  more : (q : ℕ) → is_noted n q ≡ (is_noted m q || eqb q p)
  more q = ap (λ x. is_noted x q) is ∙ noted-element p false m q

-- an element that is there is noted
pub listed_noted : (m : Marked) (q : ℕ) → is_some (flag_in m.elements q) ≡ true → is_noted m q ≡ true
listed_noted m q e = grind (arith, e)

-- ---- what is affected is marked

in_either : (old new : Forest) (q : ℕ) → (has q old ≡ true) ⊎ (has q new ≡ true) → (has q old || has q new) ≡ true
in_either old new q (inl was) = or_left (has q old) (has q new) was
in_either old new q (inr is) = or_right (has q old) (has q new) is

pub affected_there : (old new : Forest) (q : ℕ) → IsAffected old new q → (has q old || has q new) ≡ true
affected_there old new _ (itself q differs) = differs.there
affected_there old new _ (parent_before q p differs up) = in_either old new p (inl (has-parent_of old q p up))
affected_there old new _ (parent_after q p differs up) = in_either old new p (inr (has-parent_of new q p up))

module _ (old new : Forest) (k : ℕ) (m mid n : Marked) (affected : IsAffected old new k) (founded : AreFounded old new m) (adds : Adds k m mid)
    (touched : (q : ℕ) → is_touched n q ≡ is_touched mid q)
    (noted : (q : ℕ) → is_noted n q ≡ true → (is_noted mid q ≡ true) ⊎ (has q new ≡ true)) where
  pub founded_more : IsRaised new n → AreFounded old new n
  founded_more raised = record {
    raised = raised;
    known = λ q e. elim (noted q e) [
      | inr is ↦ in_either old new q (inr is)
      | inl was ↦ elim (noted_once k m mid q adds was) [
        | inl before ↦ founded.known q before
        | inr same ↦ ap (λ x. has x old || has x new) same ∙ affected_there old new k affected
      ]
    ];
    affected = λ q e. elim (touched_once k m mid q adds (sym (touched q) ∙ e)) [
      | inl before ↦ founded.affected q before
      | inr same ↦ subst (IsAffected old new) (sym same) affected
    ];
  }
