-- Items in chapters of 1,024 slots: the item under key k is in slot k mod 1024 of chapter k div 1024.
use Rattle.std.specs.Prelude.{◌≡◌, ℕ, ◌+◌, ◌*◌, ◌<◌, ◌≤◌, length, List, [], ◌∷◌, ◌++◌, take, slice_index_or}
use Rattle.std.specs.declared.option.Option.{Option}
use Rattle.std.specs.declared.option.Option.TheVariants.{None, Some}
use Rattle.std.specs.declared.rc.Rc.{Rc}
use Rattle.std.specs.Ordering.{nat_cmp}
use Rattle.std.specs.List.{AllByRecursion}
use Rattle.std.specs.List.Sorted.{IsStrictlySortedBy}
use Rattle.std.specs.Map.{keys_of}

module _ {X : Type 0} where
  -- the items of slots that follow one another, with their keys, where `key` is that of the first slot
  abbrev pub keyed : ℕ → List (Option X) → List (ℕ × X)
  keyed key [] = []
  keyed key (None ∷ slots) = keyed (key + 1) slots
  keyed key (Some item ∷ slots) = (key, item) ∷ keyed (key + 1) slots

  -- the slots of a chapter that tables share
  abbrev pub slots_of : {Z : Type 0} → Rc (List (Option X)) Z → List (Option X)
  slots_of chapter = take 1024 chapter.value

  module _ {P : Type 0} (slots : P → List (Option X)) where
    -- the items of chapters that are under their numbers, with their keys
    abbrev pub items_of : List (ℕ × P) → List (ℕ × X)
    items_of [] = []
    items_of (chapter ∷ chapters) = keyed (chapter.0 * 1024) (slots chapter.1) ++ items_of chapters

-- chapters in the order of their numbers, whose keys fit 32 bits
abbrev pub IsTable : {P : Type 0} → List (ℕ × P) → Type 0
IsTable chapters = IsStrictlySortedBy nat_cmp (keys_of chapters) × AllByRecursion (λ number. number < 4194304) (keys_of chapters)

-- the number of the chapter at a place
abbrev pub number_at : {P : Type 0} → List (ℕ × P) → ℕ → ℕ × P → ℕ
number_at chapters place none = let chapter = slice_index_or chapters place none in chapter.0

-- the chapter with the number is at the place
pub record StandsAt {P : Type 0} (chapters : List (ℕ × P)) (number place : ℕ) : Type 0 where
  pub fits : place < length chapters
  pub same : (none : ℕ × P) → number_at chapters place none ≡ number

-- no chapter has the number, and one with it would go to the place
pub record GoesAt {P : Type 0} (chapters : List (ℕ × P)) (number place : ℕ) : Type 0 where
  pub fits : place ≤ length chapters
  pub below : (none : ℕ × P) (i : ℕ) → i < place → number_at chapters i none < number
  pub above : (none : ℕ × P) (i : ℕ) → place ≤ i → i < length chapters → number < number_at chapters i none
