-- What a machine counts of scalar values, where it is no more than an update may write, is how many there are.
use Rattle.std.proofs.Common.{◌≡◌, ℕ, ◌≤◌, arith}
use Rattle.lx_node.specs.Strings.{capped}
use Rattle.lx_node.specs.Limits.{most_written}

pub exactly : (told n : ℕ) → told ≡ capped n → told ≤ most_written → told ≡ n
unfolding capped
exactly told n is few = omega (arith, is, few)
