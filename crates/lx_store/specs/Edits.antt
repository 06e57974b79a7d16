-- What an edit of the item under one key makes of a map.
use Rattle.std.specs.Prelude.{ℕ, Option, None, Some, option_map}
use Rattle.std.specs.Ordering.{nat_cmp}
use Rattle.std.specs.FinMap.{FinMap, get, insert}

module _ {X : Type 0} where
  -- the map with this item under the key, or as it was where there is none
  abbrev pub with_item : FinMap nat_cmp X → ℕ → Option X → FinMap nat_cmp X
  with_item m key None = m
  with_item m key (Some item) = insert m key item

  -- the map whose item under the key was edited, where there is one
  abbrev pub with_edit : (X → X) → ℕ → FinMap nat_cmp X → FinMap nat_cmp X
  with_edit edited key m = with_item m key (option_map edited (get m key))
