use Rattle.std.proofs.Common.{length}
use denote.Text.{Utf8}
use denote.Shadow.{shadow}
use Rattle.lx_text.specs.Passing.{IsPassed}
use Rattle.lx_text.proofs.blocks.passed_blocks.Given as goal

abbrev pub invariant-loop-behind : goal.invariant-loop-behind
invariant-loop-behind l = shadow (Utf8 l.rest) × IsPassed l.text l.offset l.left l.rest

abbrev pub decreases-loop-behind : goal.decreases-loop-behind
decreases-loop-behind l = length l.rest
