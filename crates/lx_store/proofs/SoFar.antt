-- What is the same so far, and what is the same in one part more.
use Rattle.std.proofs.Common.{◌≡◌, ◌≢◌, ℕ, true, false, ◌<◌, ◌≤◌, ◌+◌, ◌-◌, nat_lt, Option, refl, sym, ap, ◌∙◌, arith}
use Rattle.lx_store.specs.Differing.{AreSame}

module _ {X : Type 0} (f g p r : ℕ → Option X) (from base width low high : ℕ) where
  -- two parts of `width` slots, which begin at a base
  pub same_more : ((slot : ℕ) → slot < width → p slot ≡ f (base + slot)) → ((slot : ℕ) → slot < width → r slot ≡ g (base + slot)) → high ≤ width
      → AreSame f g from (base + low) → AreSame p r low high → AreSame f g from (base + high)
  same_more first second fits before here slot up under =
      elim (nat_lt slot (base + low)) as (λ b. nat_lt slot (base + low) ≡ b → f slot ≡ g slot) [
        | true ↦ λ e. before slot up (grind (arith, e))
        | false ↦ λ e.
            let later : base + low ≤ slot = grind (arith, e) in
            let place : base + (slot - base) ≡ slot = omega (arith, later) in
            ap f (sym place) ∙ sym (first (slot - base) (omega (arith, under, later, fits)))
            ∙ here (slot - base) (omega (arith, later)) (omega (arith, under, later))
            ∙ second (slot - base) (omega (arith, under, later, fits)) ∙ ap g place
      ] refl

-- what differs in a part differs in the whole
module _ {X : Type 0} (f g p r : ℕ → Option X) (base width at : ℕ) where
  pub still_other : ((slot : ℕ) → slot < width → p slot ≡ f (base + slot)) → ((slot : ℕ) → slot < width → r slot ≡ g (base + slot)) → at < width
      → p at ≢ r at → f (base + at) ≢ g (base + at)
  still_other first second within other same = other (first at within ∙ same ∙ sym (second at within))
