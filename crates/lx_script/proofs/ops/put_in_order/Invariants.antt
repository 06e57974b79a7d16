use Rattle.std.proofs.Common.{◌≡◌, ◌++◌, drop}
use Rattle.lx_script.proofs.Sent.{attributes_left}
use Rattle.lx_script.proofs.ops.put_in_order.Given as goal

abbrev pub invariant-attributes : goal.invariant-attributes
invariant-attributes l =
    (l.writer.before ≡ l.initial.writer.before)
    × (l.writer.tokens ++ attributes_left (drop l.name-index l.attributes) ≡ l.initial.writer.tokens ++ attributes_left l.attributes)
