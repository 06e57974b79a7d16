use Rattle.std.proofs.Common.{◌-◌, length}
use Rattle.lx_forest.specs.Lookups.{children_of}
use Rattle.lx_list.proofs.Runs.{IsGathering}
use Rattle.lx_list.proofs.parts.part_around.Given as goal

-- what was gathered follows on the beginning
abbrev pub invariant-loop-at : goal.invariant-loop-at
invariant-loop-at l = IsGathering l.draft l.fn.list l.fn.window l.number l.keys.items l.due l.is_past l.at

abbrev pub decreases-loop-at : goal.decreases-loop-at
decreases-loop-at l = length (children_of l.draft.forest l.fn.list) - length l.keys.items
