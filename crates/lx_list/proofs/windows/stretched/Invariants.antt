use Rattle.std.proofs.Common.{◌+◌, ◌-◌, length}
use Rattle.lx_trees.proofs.Positions.{place_in}
use Rattle.lx_forest.specs.Lookups.{siblings}
use Rattle.lx_list.proofs.WindowEnds.{IsReached}
use Rattle.lx_list.proofs.windows.stretched.Given as goal

-- siblings no later than the first, and no earlier than the last
abbrev pub invariant-loop-first : goal.invariant-loop-first
invariant-loop-first l = IsReached l.links l.first l.last l.before l.behind

abbrev pub decreases-loop-first : goal.decreases-loop-first
decreases-loop-first l =
    place_in (siblings l.links l.first) l.before + (length (siblings l.links l.last) - place_in (siblings l.links l.last) l.behind)
