use Rattle.lx_host.proofs.Attributes.{IsPassed}
use Rattle.lx_host.proofs.op.place_of.Given as goal

abbrev pub invariant-loop-at : goal.invariant-loop-at
invariant-loop-at l = IsPassed l.name l.attributes l.at
