use Rattle.std.proofs.Common.{◌≡◌, ℕ, ◌<◌, ◌≤◌, arith}
use Rattle.std.proofs.lemmas.Bool.Decides.{nat_tests}
use Rattle.lx_node.specs.Units.{units_of}
use Rattle.lx_node.proofs.CodeUnits.{counted-one}
use Rattle.lx_node.proofs.counts.one.Goals as goal

-- one code unit, or two
told : (c n : ℕ) → (c < 65536 → n ≡ 1) → (65536 ≤ c → n ≡ 2) → n ≡ units_of c
unfolding units_of
told c n few many = grind (arith, nat_tests, few, many)

pub returns : goal.returns
returns c =
    counted-one c.args.character c.len_utf16.result (told c.args.character c.len_utf16.result c.len_utf16.ensures.bmp c.len_utf16.ensures.surrogate_pair)
