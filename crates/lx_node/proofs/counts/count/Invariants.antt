use Rattle.std.specs.Prelude.{◌<◌, ◌^◌}
use Rattle.lx_node.specs.Counted.{AreCounted}
use Rattle.lx_node.specs.Units.{units}
use Rattle.lx_node.proofs.counts.count.Given as goal

-- as long as the numbers fit
abbrev pub invariant-loop-character : goal.invariant-loop-character
invariant-loop-character l = units l.yielded < 2 ^ 64 → AreCounted l.counts l.yielded
