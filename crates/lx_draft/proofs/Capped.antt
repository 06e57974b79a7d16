-- Sums of numbers as a machine counts them, against limits.
use Rattle.std.proofs.Common.{◌≡◌, ℕ, ◌+◌, ◌-◌, ◌^◌, ◌≤◌, Some, min, ap, sym, subst, ◌∙◌, arith}
use Rattle.std.specs.Option.{option_or}
use Rattle.lx_node.specs.Strings.{capped}
use Rattle.lx_node.specs.declared.cause.Cause.{Cause}
use Rattle.lx_node.specs.declared.cause.Limit.TheVariants.{Written}
use Rattle.lx_node.specs.Limits.{most_written}
use Rattle.lx_draft.specs.Working.{Working}
use Rattle.lx_draft.specs.Faults.{over_at, over_limits, over_counts, IsAdmitted}

-- a sum that stands still at the end is the capped sum
pub capped_sum : (a b : ℕ) → min (a + b) (2 ^ 64 - 1) ≡ capped (b + a)
unfolding capped
capped_sum a b = omega arith

capped_twice : (a b : ℕ) → capped (a + capped b) ≡ capped (a + b)
unfolding capped
capped_twice a b = omega arith

-- what is to be written may be capped before it is compared with the limit
over_limits-capped : (n : ℕ) (w : Working) → over_limits (capped n) w ≡ over_limits n w
over_limits-capped n w = ap (λ r. option_or (over_counts w) (over_at Written most_written r)) (capped_twice w.written n)

capped_within : (a n : ℕ) → a + capped n ≤ most_written → capped n ≡ n
unfolding capped
capped_within a n h = omega (arith, h)

pub admitted_capped : (n more characters : ℕ) (w : Working) → more ≡ capped characters → IsAdmitted n more w → IsAdmitted n characters w
admitted_capped n more characters w e h =
    let told : w.written + capped characters ≤ most_written = subst (λ m. w.written + m ≤ most_written) e h.written in
    let same : more ≡ characters = e ∙ capped_within w.written characters told in
    subst (λ m. IsAdmitted n m w) same h

pub refused_capped : (more characters : ℕ) (cause : Cause) (w : Working) → more ≡ capped characters → over_limits more w ≡ Some cause
    → over_limits characters w ≡ Some cause
refused_capped more characters cause w e h = sym (ap (λ m. over_limits m w) e ∙ over_limits-capped characters w) ∙ h
