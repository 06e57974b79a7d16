use Rattle.std.proofs.Common.{◌≡◌, ◌++◌}
use Rattle.lx_outline.proofs.keys.Keys.to_vec.Given as goal

abbrev pub invariant-loop-key : goal.invariant-loop-key
invariant-loop-key l = l.keys.items ++ l.key-iterator ≡ l.self
