use Rattle.std.proofs.Common.{◌≡◌, ◌<◌, ℕ, None}
use Rattle.lx_store.specs.Pages.{slot_at}
use Rattle.lx_store.proofs.page.Page.is_empty.Given as goal

-- the slots so far have no item
abbrev pub invariant-loop-slot : goal.invariant-loop-slot
invariant-loop-slot g l = (slot : ℕ) → slot < l.slot-index → slot_at l.slot-items slot ≡ None
