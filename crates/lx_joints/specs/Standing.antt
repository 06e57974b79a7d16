-- What something stands for, where it stands for one thing at most: a ghost field carries that, and a model reads it.
use Rattle.std.specs.Prelude.{◌≡◌}
use Rattle.std.proofs.Common.{ap, subst}

-- a thing for which something stands
pub record Standing {X : Type 0} (Stands : X → Type 0) : Type 0 where
  pub value : X
  pub stands : Stands value

module _ {X : Type 0} (Stands : X → Type 0) where
  same_standing : ((x : X) → IsProp (Stands x)) → (s : Standing Stands) (x : X) (h : Stands x) → s.value ≡ x → s ≡ record { value = x; stands = h }
  same_standing prop s x h e = let P : X → Type 0 = λ y. (k : Stands y) → s ≡ record { value = y; stands = k } in
      subst P e (λ k. ap (λ k. record { value = s.value; stands = k }) (prop s.value s.stands k)) h

  -- where it stands for one thing at most, and in one way, that is known in one way
  pub Standing-prop : ((x : X) → IsProp (Stands x)) → ((x y : X) → Stands x → Stands y → x ≡ y) → IsProp (Standing Stands)
  Standing-prop prop unique s t = same_standing prop s t.value t.stands (unique s.value t.value s.stands t.stands)
