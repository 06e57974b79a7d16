use Rattle.std.proofs.Common.{◌≤◌, ◌-◌}
use Rattle.std.specs.Option.{option_copied}
use Rattle.lx_store.specs.Differing.{item_in, AreSame}
use Rattle.lx_store.proofs.differing.same_in_chapters.Given as goal

-- the slots so far have equal items
abbrev pub invariant-loop-at : goal.invariant-loop-at
invariant-loop-at g l = (l.from ≤ l.at) × (l.at ≤ 1024) × AreSame (item_in (option_copied l.fn.a)) (item_in (option_copied l.fn.b)) l.from l.at

abbrev pub decreases-loop-at : goal.decreases-loop-at
decreases-loop-at g l = 1024 - l.at
