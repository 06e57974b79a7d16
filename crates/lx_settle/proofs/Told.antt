-- What an error of settling says: that no count was left, that too much would be written, that rest wasn't reached, or
-- that memory ran out.
use Rattle.std.proofs.Common.{◌≡◌, ◌≢◌, ◌∙◌, ℕ, true, ◌&&◌, Result, Ok, Err, IfErr, sym, ap}
use Rattle.lx_trees.specs.Trees.{nil}
use Rattle.lx_node.specs.declared.cause.Cause.{Cause}
use Rattle.lx_node.specs.declared.cause.Fault.{Fault}
use Rattle.lx_node.specs.declared.cause.Fault.TheVariants as fault
use Rattle.lx_step.specs.declared.rule.SelfEdit.{SelfEdit}
use Rattle.lx_forest.specs.Forest.{Forest}
use Rattle.lx_forest.specs.Lookups.{is_attached}
use Rattle.lx_forest.specs.Views.{view_of}
use Rattle.lx_links.specs.Stands.{Sound}
use Rattle.lx_draft.specs.Working.{Working, IsWorking}
use Rattle.lx_draft.specs.Covering.{IsReady}
use Rattle.lx_edit.specs.Standing.{Does}
use Rattle.lx_edit.specs.Texts.{join_around_step}
use Rattle.lx_settle.specs.Acting.{has_work_at, act_step}
use Rattle.lx_settle.specs.Exhausted.{IsExhausted}
use Rattle.lx_settle.proofs.Rest.{there}
use Rattle.lx_settle.proofs.Exhausted.{Exhausts}
use Rattle.lx_settle.proofs.Joinable.{join_around_exhausts}
use Rattle.lx_settle.proofs.Refused.{act_exhausts}
use Rattle.lx_settle.proofs.Tests.{first_of, second_of}

-- ---- a draft with an attached node

not_failed : (f : Forest) (k : ℕ) → is_attached f k ≡ true → f ≢ nil
not_failed f k here failed = let none : is_attached nil k ≡ true = ap (λ g. is_attached g k) (sym failed) ∙ here in cc

ready_by : (k : ℕ) (w : Working) → Sound w.forest → IsWorking w → is_attached w.forest k ≡ true → IsReady w
ready_by k w sound working here = record { in_order = sound.in_order (not_failed w.forest k here); free = working.free }

-- the error of a call that takes a step which only a limit refuses
told_by : {T : Type 0} (step : Result Working Cause) (new : Working) (r : Result T Fault) → Exhausts step → Does step new r → IfErr r IsExhausted
told_by step new (Ok t) h does = tt
told_by step new (Err (fault.Cause cause)) h refused = h cause refused.told
told_by step new (Err fault.Memory) h refused = tt

-- ---- errors of one edit, and of the join step

pub act_told : {T : Type 0} (edit : SelfEdit) (k : ℕ) (w new : Working) (r : Result T Fault) → Sound w.forest → IsWorking w
    → (is_attached w.forest k && has_work_at (view_of w.forest k) edit) ≡ true → Does (act_step edit k w) new r → IfErr r IsExhausted
act_told edit k w new r sound working busy =
    let here : is_attached w.forest k ≡ true = first_of (is_attached w.forest k) (has_work_at (view_of w.forest k) edit) busy in
    let work : has_work_at (view_of w.forest k) edit ≡ true = second_of (is_attached w.forest k) (has_work_at (view_of w.forest k) edit) busy in
    told_by (act_step edit k w) new r (act_exhausts edit k w (ready_by k w sound working here) sound.held sound.suited here work)

pub join_told : {T : Type 0} (k : ℕ) (w new : Working) (r : Result T Fault) → Sound w.forest → IsWorking w → is_attached w.forest k ≡ true
    → Does (join_around_step k w) new r → IfErr r IsExhausted
join_told k w new r sound working here =
    told_by (join_around_step k w) new r (join_around_exhausts k w (ready_by k w sound working here) (there w.forest k here) here)
