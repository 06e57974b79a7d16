use Rattle.std.proofs.Common.{◌≡◌, ◌++◌, drop}
use Rattle.lx_script.proofs.Sent.{ops_left}
use Rattle.lx_script.proofs.ops.put_ops.Given as goal

abbrev pub invariant-ops : goal.invariant-ops
invariant-ops l =
    (l.writer.before ≡ l.initial.writer.before)
    × (l.writer.tokens ++ ops_left (drop l.op-index l.ops) ≡ l.initial.writer.tokens ++ ops_left l.ops)
