-- Up to where two stores, or two pages, have equal items.
use Rattle.std.specs.Prelude.{◌≡◌, ◌≢◌, ℕ, ◌<◌, ◌≤◌, ◌+◌, List}
use Rattle.std.specs.declared.option.Option.{Option}
use Rattle.std.specs.declared.option.Option.TheVariants.{None, Some}
use Rattle.lx_store.specs.Pages.{slot_at}

-- the first number after one, or the first of all
abbrev pub first_after : Option ℕ → ℕ
first_after None = 0
first_after (Some key) = key + 1

module _ {X : Type 0} where
  -- the item in a slot: no slot has one where there is no page
  abbrev pub item_in : Option (List (Option X)) → ℕ → Option X
  item_in None slot = None
  item_in (Some slots) slot = slot_at slots slot

  -- equal items from one number on, up to another
  abbrev pub AreSame : (ℕ → Option X) → (ℕ → Option X) → ℕ → ℕ → Type 0
  AreSame f g from to = (slot : ℕ) → from ≤ slot → slot < to → f slot ≡ g slot

  -- equal items from one number on, up to the first under which they differ, or to the end
  abbrev pub AreSameTo : (ℕ → Option X) → (ℕ → Option X) → ℕ → Option ℕ → Type 0
  AreSameTo f g from None = (slot : ℕ) → from ≤ slot → f slot ≡ g slot
  AreSameTo f g from (Some to) = (from ≤ to) × AreSame f g from to × (f to ≢ g to)
