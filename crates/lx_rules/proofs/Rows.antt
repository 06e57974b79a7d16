-- The set of one row has the kinds whose type is that row's, and no others.
use Rattle.std.proofs.Common.{◌≡◌, ◌∙◌, ℕ, ◌^◌, ◌/◌, ◌%◌, ◌*◌, ◌==◌, ◌<◌, ◌≤◌, one-mul, Bool, true, false, nat_lt, if◌then◌else◌, refl, sym, ap, arith}
use Rattle.std.proofs.Math.Pow.{shl_exact}
use Rattle.std.proofs.lemmas.Bool.Decides.{Decides-eqb, nat_tests}
use Rattle.std.proofs.lemmas.Nat.Bits.{bit_at-zero, bit_at-pow_same, bit_at-pow_other}
use Rattle.lx_node.specs.declared.kind.Kind.{Kind}
use Rattle.lx_node.specs.declared.kind.Kind.TheVariants.{Root}
use Rattle.lx_step.specs.Types.{row_of}
use Rattle.lx_rules.specs.Types.{is_on, set_of_row}

one_bit : (row k : ℕ) (b : Bool) → (row == k) ≡ b → ((2 ^ row / 2 ^ k) % 2 == 1) ≡ b
one_bit row k true e = ap (λ n. (2 ^ n / 2 ^ k) % 2 == 1) ((Decides-eqb row k).0 e) ∙ ap (λ n. n == 1) (bit_at-pow_same k)
one_bit row k false e = ap (λ n. n == 1) (bit_at-pow_other row k (λ same. absurd (cc (e, (Decides-eqb row k).1 (sym same)))))

no_bit : (row k : ℕ) → (row < 15 → ⊥) → k < 15 → ((0 / 2 ^ k) % 2 == 1) ≡ (row == k)
no_bit row k beyond within = ap (λ n. n == 1) (bit_at-zero k) ∙ grind (arith, nat_tests, beyond)

pub row_within : (kind : Kind) → row_of kind < 15
unfolding row_of
row_within kind = elim kind as (λ k. row_of k < 15) [ Root ↦ omega arith | _ ↦ omega arith ]

of_row : (row : ℕ) (kind : Kind) (b : Bool) → nat_lt row 15 ≡ b → is_on (if b then 2 ^ row else 0) kind ≡ (row == row_of kind)
of_row row kind true e = one_bit row (row_of kind) _ refl
of_row row kind false e = no_bit row (row_of kind) (grind (arith, nat_tests, e)) (row_within kind)

pub one_row_told : (row bits : ℕ) (kind : Kind) → bits ≡ set_of_row row → is_on bits kind ≡ (row == row_of kind)
one_row_told row bits kind e = ap (λ n. is_on n kind) e ∙ of_row row kind _ refl

pub shifted : (row : ℕ) → row < 15 → 1 * 2 ^ row % 4294967296 ≡ set_of_row row
shifted row within = let small : nat_lt row 15 ≡ true =
    grind (arith, nat_tests) in rw small (shl_exact 1 row 32 (omega arith) (omega arith) ∙ one-mul (2 ^ row))

pub none : (row : ℕ) → 15 ≤ row → 0 ≡ set_of_row row
none row beyond = let large : nat_lt row 15 ≡ false = grind (arith, nat_tests) in rw large refl
