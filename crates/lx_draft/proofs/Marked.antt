-- Marks on the way up.
use Rattle.std.proofs.Common.{◌≡◌, ℕ, false, None, Some, ap, sym, ◌∙◌}
use Rattle.lx_marks.specs.Marks.{Marked, with_marked}
use Rattle.lx_forest.specs.Forest.{Forest}
use Rattle.lx_forest.specs.Lookups.{parent_of, ancestors}
use Rattle.lx_forest.proofs.Walks.{ancestors-top, ancestors-step}
use Rattle.lx_links.specs.Stands.{Sound}
use Rattle.lx_links.proofs.Up.{in_order}
use Rattle.lx_draft.specs.Marking.{mark_above}

-- a step up marks the parent
pub mark_above-step : (f : Forest) (q p : ℕ) (m n : Marked) → Sound f → parent_of f q ≡ Some p → n ≡ with_marked p false m
    → mark_above (ancestors f p) n ≡ mark_above (ancestors f q) m
mark_above-step f q p m n s up e = ap (mark_above (ancestors f p)) e ∙ ap (λ ks. mark_above ks m) (sym (ancestors-step f q p (in_order f q p s up) up))

pub mark_above-top : (f : Forest) (q : ℕ) (m : Marked) → parent_of f q ≡ None → mark_above (ancestors f q) m ≡ m
mark_above-top f q m none = ap (λ ks. mark_above ks m) (ancestors-top f q none)
