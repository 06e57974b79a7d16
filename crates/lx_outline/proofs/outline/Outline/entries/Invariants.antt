use Rattle.std.proofs.Common.{length}
use Rattle.lx_outline.specs.Reading.{left_from}
use Rattle.lx_outline.proofs.Listed.{IsListed}
use Rattle.lx_outline.proofs.outline.Outline.entries.Given as goal

abbrev pub invariant-loop-at : goal.invariant-loop-at
invariant-loop-at l = IsListed l.self.headings l.state.links l.entries.items l.at

abbrev pub decreases-loop-at : goal.decreases-loop-at
decreases-loop-at l = length (left_from l.state.links l.at)
