-- A bit that is switched in a format, and switched again.
use Rattle.lx_caret.specs.Formatting.{excluded, has_bit, switched, without_bit}
use Rattle.lx_caret_laws.specs.Formats.{turned}
use Rattle.std.proofs.Common.{Bool, ap, arith, false, inl, inr, not, refl, suc, sym, true, zero, ℕ, ◌%◌, ◌*◌, ◌+◌, ◌-◌, ◌/◌, ◌<◌, ◌^◌, ◌∙◌, ◌≡◌, ◌≢◌, ◌≤◌}
use Rattle.std.proofs.Math.Nat.{suc-mul}
use Rattle.std.proofs.lemmas.Bool.Decides.{eqb_tells}
use Rattle.std.proofs.lemmas.Nat.Bits.{and_pow}
use Rattle.std.proofs.lemmas.Nat.{and_le_l, and_le_r, and_or_apart, and_or_self, div-add-mod', div-mul-add, or_disjoint, pow_pos}
use Rattle.std.specs.Int.RustNames.{bit_and, bit_or}
use Rattle.std.specs.Int.{bit_at}

lacks : (b f : ℕ) → has_bit b f ≡ false → bit_and f b ≡ 0
lacks b f e = grind (arith, e, eqb_tells (bit_and f b) 0)

none_lacks : (b f : ℕ) → bit_and f b ≡ 0 → has_bit b f ≡ false
none_lacks b f e = grind (arith, e, eqb_tells (bit_and f b) 0)

has_some : (b f : ℕ) → bit_and f b ≡ b → 0 < b → has_bit b f ≡ true
has_some b f e some = grind (arith, e, some, eqb_tells (bit_and f b) 0)

and_none : (f : ℕ) → bit_and f 0 ≡ 0
and_none f = omega (arith, and_le_r f 0)

-- the bit at a place
remainder : (f p : ℕ) → 0 < p → f % p < p
remainder f p some = omega (arith, some)

has_all : (i f : ℕ) → has_bit (2 ^ i) f ≡ true → (bit_and f (2 ^ i) ≡ 2 ^ i) × (bit_at f i ≡ 1)
has_all i f e =
    let some : bit_and f (2 ^ i) ≢ 0 = λ none. absurd (grind (arith, e, none, eqb_tells (bit_and f (2 ^ i)) 0)) in
    by_bit (bit_at f i) refl (remainder (f / 2 ^ i) 2 (omega arith)) some where
      by_bit : (n : ℕ) → bit_at f i ≡ n → n < 2 → bit_and f (2 ^ i) ≢ 0 → (bit_and f (2 ^ i) ≡ 2 ^ i) × (bit_at f i ≡ 1)
      by_bit zero is less some = absurd (some (and_pow f i ∙ ap (λ n. n * 2 ^ i) is ∙ omega arith))
      by_bit (suc zero) is less some = (and_pow f i ∙ ap (λ n. n * 2 ^ i) is ∙ omega arith, is)
      by_bit (suc (suc n)) is less some = absurd (omega (arith, less))

-- a bit that is taken away is gone
cleared : (i f : ℕ) → bit_at f i ≡ 1 → bit_and (f - 2 ^ i) (2 ^ i) ≡ 0
cleared i f one = by_quotient (f / 2 ^ i) refl where
  by_quotient : (d : ℕ) → f / 2 ^ i ≡ d → bit_and (f - 2 ^ i) (2 ^ i) ≡ 0
  by_quotient zero is = let bad : 0 % 2 ≡ 1 = sym (ap (λ n. n % 2) is) ∙ one in absurd (omega (arith, bad))
  by_quotient (suc d) is =
      let p : ℕ = 2 ^ i in
      let r : ℕ = f % p in
      let small : r < p = remainder f p (pow_pos i) in
      let whole : suc d * p + r ≡ f = ap (λ n. n * p + r) (sym is) ∙ div-add-mod' f p in
      let times : suc d * p ≡ d * p + p = suc-mul d p in
      let rest : f - p ≡ d * p + r = omega (arith, whole, times) in
      let quotient : (f - p) / p ≡ d = ap (λ n. n / p) rest ∙ div-mul-add d p r small in
      let even : bit_at (f - p) i ≡ 0 =
      ap (λ n. n % 2) quotient ∙ omega (arith, sym (ap (λ n. n % 2) is) ∙ one) in
      and_pow (f - p) i ∙ ap (λ n. n * p) even ∙ omega arith

-- the bit that one excludes is another
apart : (b : ℕ) → bit_and b (excluded b) ≡ 0
apart b = elim (eqb_tells b 32) [
  | inl own ↦ rw own.0 (ap (λ n. bit_and n 64) own.1)
  | inr far ↦ rw far.0 (elim (eqb_tells b 64) [
    | inl own ↦ rw own.0 (ap (λ n. bit_and n 32) own.1)
    | inr other ↦ rw other.0 (and_none b)
  ])
]

kept : (e f : ℕ) → bit_and f e ≡ 0 → without_bit e f ≡ f
kept e f none = ap (λ n. f - n) none ∙ omega arith

-- ---- the laws

pub told-has_it : (i f : ℕ) → has_bit (2 ^ i) (turned (2 ^ i) f) ≡ not (has_bit (2 ^ i) f)
told-has_it i f = by_test (has_bit (2 ^ i) f) refl where
  by_test : (t : Bool) → has_bit (2 ^ i) f ≡ t → has_bit (2 ^ i) (switched (not t) (2 ^ i) f) ≡ not t
  by_test false is = has_some (2 ^ i) (bit_or (without_bit (excluded (2 ^ i)) f) (2 ^ i))
      (and_or_self (2 ^ i) (without_bit (excluded (2 ^ i)) f)) (pow_pos i)
  by_test true is =
      let all = has_all i f is in
      none_lacks (2 ^ i) (f - bit_and f (2 ^ i)) (ap (λ n. bit_and (f - n) (2 ^ i)) all.0 ∙ cleared i f all.1)

pub told-back : (i f : ℕ) → has_bit (excluded (2 ^ i)) f ≡ false → turned (2 ^ i) (turned (2 ^ i) f) ≡ f
told-back i f free = by_test (has_bit (2 ^ i) f) refl where
  again : (g : ℕ) (t : Bool) → has_bit (2 ^ i) g ≡ t → turned (2 ^ i) g ≡ switched (not t) (2 ^ i) g
  again g t e = ap (λ x. switched (not x) (2 ^ i) g) e

  by_test : (t : Bool) → has_bit (2 ^ i) f ≡ t → turned (2 ^ i) (turned (2 ^ i) f) ≡ f
  by_test false is =
      let p : ℕ = 2 ^ i in
      let clear : bit_and f p ≡ 0 = lacks p f is in
      let once : turned p f ≡ f + p =
      again f false is ∙ ap (λ n. bit_or n p) (kept (excluded p) f (lacks (excluded p) f free)) ∙ or_disjoint f p clear in
      let has_now : has_bit p (turned p f) ≡ true = told-has_it i f ∙ ap not is in
      let all : bit_and (turned p f) p ≡ p = (has_all i (turned p f) has_now).0 in
      again (turned p f) true has_now ∙ ap (λ n. turned p f - n) all ∙ ap (λ n. n - p) once ∙ omega arith
  by_test true is =
      let p : ℕ = 2 ^ i in
      let all = has_all i f is in
      let less : p ≤ f = omega (arith, all.0, and_le_l f p) in
      let g : ℕ = f - p in
      let once : turned p f ≡ g = again f true is ∙ ap (λ n. f - n) all.0 in
      let clear : bit_and g p ≡ 0 = cleared i f all.1 in
      let whole : bit_or g p ≡ f = or_disjoint g p clear ∙ omega (arith, less) in
      let free_now : bit_and g (excluded p) ≡ 0 =
      sym (and_or_apart (excluded p) g p (apart p)) ∙ ap (λ n. bit_and n (excluded p)) whole ∙ lacks (excluded p) f free in
      ap (turned p) once ∙ again g false (none_lacks p g clear) ∙ ap (λ n. bit_or n p) (kept (excluded p) g free_now) ∙ whole
