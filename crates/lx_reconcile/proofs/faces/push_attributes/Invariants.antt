use Rattle.std.proofs.Common.{◌+◌, ◌-◌, length}
use Rattle.lx_reconcile.proofs.Written.{IsWritingAt}
use Rattle.lx_reconcile.proofs.faces.push_attributes.Given as goal

abbrev pub invariant-loop-order : goal.invariant-loop-order
invariant-loop-order l = IsWritingAt l.host l.old l.new l.i l.j l.initial.ops.items l.ops.items

abbrev pub decreases-loop-order : goal.decreases-loop-order
decreases-loop-order l = (length l.old - l.i) + (length l.new - l.j)
