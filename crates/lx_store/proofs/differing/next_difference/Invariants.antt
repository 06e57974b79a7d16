use Rattle.std.proofs.Common.{◌≤◌, ◌<◌, ◌-◌, ◌+◌, ◌*◌}
use Rattle.std.specs.FinMap as map
use Rattle.lx_store.specs.Differing.{first_after, AreSame}
use Rattle.lx_store.proofs.differing.next_difference.Given as goal

-- the keys so far have equal items
abbrev pub invariant-loop-number : goal.invariant-loop-number
invariant-loop-number g l =
    (first_after l.fn.after ≤ l.number * 1024 + l.slot) × (l.slot < 1024)
    × AreSame (map.get l.a) (map.get l.b) (first_after l.fn.after) (l.number * 1024 + l.slot)

abbrev pub decreases-loop-number : goal.decreases-loop-number
decreases-loop-number g l = l.end - l.number
