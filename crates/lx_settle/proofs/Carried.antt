-- What a step of settling owes for every node, whichever step it is.
use Rattle.std.proofs.Common.{◌≡◌, ◌∙◌, ℕ, Bool, true, false, cond, eqb, ◌||◌, ◌&&◌, [], ◌∷◌, Option, None, Some, refl, sym, arith, inl, inr, ◌⊎◌}
use Rattle.std.specs.Prelude.{is_some}
use Rattle.std.proofs.lemmas.Bool.{cases_Bool}
use Rattle.std.proofs.lemmas.Bool.Decides.{eqb_tells}
use Rattle.lx_trees.specs.Siblings.{is_among}
use Rattle.lx_marks.specs.Marks.{Marked, flag_in, is_true_flag, is_touched, is_noted}
use Rattle.lx_forest.specs.Lookups.{is_attached}
use Rattle.lx_draft.specs.Working.{Working}
use Rattle.lx_draft.specs.Covering.{IsReady, AreCovered}
use Rattle.lx_draft.proofs.Covered.{covered-then, covered-self}
use Rattle.lx_edit.specs.Homed.{IsHomed}
use Rattle.lx_settle.specs.Rested.{is_due}

-- ---- due

due_by : (a z : Bool) (o : Option Bool) → cond z (a || is_some o) (a || is_true_flag o) ≡ ((a || is_true_flag o) || (z && (a || is_some o)))
due_by a true None = grind arith
due_by a true (Some flag) = grind arith
due_by a false None = grind arith
due_by a false (Some flag) = grind arith

pub due_tells : (m : Marked) (q : ℕ) → is_due m q ≡ (is_touched m q || (eqb q 0 && is_noted m q))
due_tells m q = due_by (is_among q m.leaves) (eqb q 0) (flag_in m.elements q)

either : (a b c d z : Bool) → (a ≡ true → c ≡ true) → (b ≡ true → d ≡ true) → (a || (z && b)) ≡ true → (c || (z && d)) ≡ true
either true b c d z f g e = grind (arith, f refl)
either false true c d z f g e = grind (arith, e, g refl)
either false false c d z f g e = absurd (grind (arith, e))

pub due_of_touched : (m : Marked) (q : ℕ) → is_touched m q ≡ true → is_due m q ≡ true
due_of_touched m q e = grind (arith, e, due_tells m q)

-- ---- carried

-- What was marked and isn't handled yet stays so, and what isn't marked is as it was; and what isn't
-- marked anew doesn't come into the root's tree.
pub record IsCarried (w v : Working) : Type 0 where
  pub covered : AreCovered w v
  pub home : (q : ℕ) → is_attached v.forest q ≡ true → (is_attached w.forest q ≡ true) ⊎ (is_touched v.fresh q ≡ true)

to_one : (a : Bool) → a ≡ true → (a || false) ≡ true
to_one a e = grind (arith, e)

from_one : (a : Bool) → (a || false) ≡ true → a ≡ true
from_one a e = grind (arith, e)

-- what brings nothing else into the root's tree is carried
pub carried_homed : (w v : Working) → IsHomed (0 ∷ []) w v → IsCarried w v
carried_homed w v a = record {
  covered = a.covered;
  home = λ q e. elim (a.home q (to_one (is_attached v.forest q) e)) [ inl was ↦ inl (from_one (is_attached w.forest q) was) | inr new ↦ inr new ];
}

pub fresh_stays : (w v : Working) (q : ℕ) → IsCarried w v → is_due w.fresh q ≡ true → is_due v.fresh q ≡ true
fresh_stays w v q c e =
    due_tells v.fresh q
    ∙ either (is_touched w.fresh q) (is_noted w.fresh q) (is_touched v.fresh q) (is_noted v.fresh q) (eqb q 0) (c.covered.fresh.touched q)
    (c.covered.fresh.noted q) (sym (due_tells w.fresh q) ∙ e)

pub carried_self : (w : Working) → IsReady w → IsCarried w w
carried_self w r = record {
  covered = covered-self w r;
  home = λ q e. inl e;
}

pub carried_then : (u v w : Working) → IsCarried u v → IsCarried v w → IsCarried u w
carried_then u v w a b = record {
  covered = covered-then u v w a.covered b.covered;
  home = λ q e. elim (b.home q e) [
    | inl before ↦ elim (a.home q before) [ inl was ↦ inl was | inr new ↦ inr (b.covered.fresh.touched q new) ]
    | inr new ↦ inr new
  ];
}

-- the root is due where it is marked at all
noted_root : (m : Marked) (q : ℕ) → q ≡ 0 → is_noted m 0 ≡ true → is_due m q ≡ true
noted_root m q root e = due_tells m q ∙ grind (arith, e, root, eqb_tells q 0)

root_noted : (m : Marked) (q : ℕ) → q ≡ 0 → is_touched m q ≡ false → is_due m q ≡ true → is_noted m 0 ≡ true
root_noted m q root none e = grind (arith, e, due_tells m q, none, root, eqb_tells q 0)

other_touched : (m : Marked) (q : ℕ) → eqb q 0 ≡ false → is_due m q ≡ true → is_touched m q ≡ true
other_touched m q other e = grind (arith, e, due_tells m q, other)

-- a node that is due was due before, or it is to be handled
pub told_due : (w v : Working) (q : ℕ) → IsCarried w v → is_due v.marks q ≡ true → (is_due w.marks q ≡ true) ⊎ (is_due v.fresh q ≡ true)
told_due w v q c e =
    elim (cases_Bool (is_touched v.marks q)) [
      | inl touched ↦ told_touched touched
      | inr none ↦ elim (eqb_tells q 0) [
        | inl root ↦ elim (c.covered.noted 0 (root_noted v.marks q root.1 none e)) [
          | inl was ↦ inl (noted_root w.marks q root.1 was)
          | inr new ↦ inr (noted_root v.fresh q root.1 new)
        ]
        | inr other ↦ told_touched (other_touched v.marks q other.0 e)
      ]
    ] where
      told_touched : is_touched v.marks q ≡ true → (is_due w.marks q ≡ true) ⊎ (is_due v.fresh q ≡ true)
      told_touched touched = elim (c.covered.told q touched) [ inl was ↦ inl (due_of_touched w.marks q was) | inr new ↦ inr (due_of_touched v.fresh q new) ]
