-- The front of a list that was copied to the front of another.
use Rattle.std.proofs.Common.{◌≡◌, ℕ, ◌≤◌, List, ◌++◌, length, take, drop, arith}
use Rattle.std.proofs.lemmas.Grind.{common_steps}

-- what was copied, and after it what was not
pub front_then_rest : (xs front behind : List ℕ) (n : ℕ) → front ≡ take n xs → n ≤ length xs → xs ≡ take n (front ++ behind) ++ drop n xs
front_then_rest xs front behind n copied within = grind (arith, common_steps)
