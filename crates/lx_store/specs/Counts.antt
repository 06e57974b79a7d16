-- Counts that stand still at the last number of a u64.
use Rattle.std.specs.Prelude.{ℕ, ◌+◌, cond, nat_lt}
use Rattle.lx_node.specs.Limits.{last_u64}

-- the count after one more, which stands still at the last number of a u64
abbrev pub next_count : ℕ → ℕ
next_count count = cond (nat_lt count last_u64) (count + 1) count
