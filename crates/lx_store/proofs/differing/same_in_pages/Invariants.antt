use Rattle.std.proofs.Common.{◌≤◌, ◌-◌}
use Rattle.std.specs.Option.{option_copied}
use Rattle.lx_store.specs.Differing.{item_in, AreSame}
use Rattle.lx_store.proofs.differing.same_in_pages.Given as goal

-- the slots so far have equal items
abbrev pub invariant-loop-slot : goal.invariant-loop-slot
invariant-loop-slot g l = (l.from ≤ l.slot) × (l.slot ≤ 32) × AreSame (item_in (option_copied l.fn.a)) (item_in (option_copied l.fn.b)) l.from l.slot

abbrev pub decreases-loop-slot : goal.decreases-loop-slot
decreases-loop-slot g l = 32 - l.slot
