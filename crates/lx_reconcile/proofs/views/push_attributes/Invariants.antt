use Rattle.std.proofs.Common.{◌≡◌, ◌++◌}
use Rattle.lx_reconcile.specs.Created.{attribute_ops}
use Rattle.lx_reconcile.proofs.views.push_attributes.Given as goal

abbrev pub invariant-loop-name : goal.invariant-loop-name
invariant-loop-name l = l.ops.items ≡ l.initial.ops.items ++ attribute_ops 0 l.yielded
