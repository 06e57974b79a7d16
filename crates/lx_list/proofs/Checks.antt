-- A check mark that is set leaves a selection in the tree.
use Rattle.std.proofs.Common.{ℕ, Bool, not, Option, None, Some}
use Rattle.lx_forest.specs.Lookups.{fields_of}
use Rattle.lx_blocks.specs.Blocks.{block_of}
use Rattle.lx_blocks.specs.Ranges.{range_of}
use Rattle.lx_caret.specs.Lying.{LeavesLying}
use Rattle.lx_caret.proofs.Fit.{after_tells, Fit, Staying, stays_allowed}
use Rattle.lx_caret.proofs.Cleared.{range_lies, fit_of}
use Rattle.lx_list.specs.Making.{with_extra_changed, checked_as, check_item}
use Rattle.lx_list.specs.Checking.{item_fault, set_checked_step, toggled, is_checked, toggle_checked_step}
use Rattle.lx_list.specs.Laws.{KeepsLyingInTree}
use Rattle.lx_list.proofs.Written.{stays_change}

pub stays_check : (check : Option Bool) (item : ℕ) → Staying (check_item check item)
unfolding check_item
stays_check check item w v fit e = stays_change (with_extra_changed (checked_as check)) item w v fit e

stays_set_checked : (item : ℕ) (checked : Bool) → Staying (set_checked_step item checked)
unfolding set_checked_step
stays_set_checked item checked w v fit e =
    stays_allowed w v (item_fault w.forest item) (check_item (Some checked) item) (λ f. stays_check (Some checked) item w v fit f) e

pub lies-set_checked : (item : ℕ) (checked : Bool) → KeepsLyingInTree (set_checked_step item checked)
lies-set_checked item checked w v ready held short lying e =
    (stays_set_checked item checked w v (record { ready = ready; held = held; short = short; lying = lying }) e).fit.lying

stays_toggled : (block : Option ℕ) → Staying (toggled block)
stays_toggled None w v fit e = absurd (cc)
stays_toggled (Some block) w v fit e = stays_set_checked block (not (is_checked (fields_of w.forest block))) w v fit e

pub lies-toggle_checked : LeavesLying toggle_checked_step
unfolding toggle_checked_step
lies-toggle_checked w v ready held short e =
    let first = after_tells (range_of w) (λ range. toggled (block_of w.forest range.anchor.key) w) v e in
    let fit : Fit w = fit_of w first.0 ready held short (range_lies w first.0 first.1.0) in
    (stays_toggled (block_of w.forest first.0.anchor.key) w v fit first.1.1).fit.lying
