-- Slots in pages of 32, and pages one after another.
use Rattle.std.specs.Prelude.{ℕ, List, [], ◌∷◌, ◌++◌, take, replicate, slice_set, slice_index_or}
use Rattle.std.specs.declared.option.Option.{Option}
use Rattle.std.specs.declared.option.Option.TheVariants.{None, Some}
use Rattle.std.specs.declared.rc.Rc.{Rc}

module _ {X : Type 0} where
  -- the item in a slot
  abbrev pub slot_at : List (Option X) → ℕ → Option X
  slot_at slots slot = slice_index_or slots slot None

  -- the slots after one was written
  abbrev pub written : List (Option X) → ℕ → Option X → List (Option X)
  written slots slot item = slice_set slots slot item

  -- the slots of a page, or no slots where there is no page
  abbrev pub slots_held : {Z : Type 0} → Option (Rc (List (Option X)) Z) → List (Option X)
  slots_held None = []
  slots_held (Some page) = page.value

  -- 32 slots: those of a page, or empty ones where there is no page
  abbrev pub fitted : List (Option X) → List (Option X)
  fitted slots = take 32 (slots ++ replicate 32 None)

  -- the slots of a chapter: those of its pages, one page's after another's
  abbrev pub joined : List (List (Option X)) → List (Option X)
  joined [] = []
  joined (page ∷ pages) = fitted page ++ joined pages

  -- the slots of the page at a place, or no slots past the last
  abbrev pub page_at : List (List (Option X)) → ℕ → List (Option X)
  page_at pages place = slice_index_or pages place []
