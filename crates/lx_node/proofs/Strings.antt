-- Numbers of characters as a machine counts them.
use Rattle.std.proofs.Common.{◌≡◌, ℕ, ◌+◌, ◌-◌, ◌^◌, ◌<◌, min, arith}
use Rattle.lx_node.specs.Strings.{capped}

-- a number that a machine counts stands for itself
pub capped_small : (n : ℕ) → n < 2 ^ 64 → n ≡ capped n
unfolding capped
capped_small n h = omega arith

pub capped_zero : 0 ≡ capped 0
capped_zero = capped_small 0 (omega arith)

-- a sum may be capped early
pub capped_add : (a b : ℕ) → min (capped a + capped b) (2 ^ 64 - 1) ≡ capped (a + b)
unfolding capped
capped_add a b = omega arith
