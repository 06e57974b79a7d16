-- The part of a list whose items may not have their numbers, and the others around it, which have them.
use Rattle.std.specs.Prelude.{ℕ, ◌+◌, ◌<◌, ◌^◌, ◌≡◌, ◌==◌, ◌++◌, Bool, not, if◌then◌else◌, true, false, is_none, length, sum_by, List, [], ◌∷◌, Option, None, Some, Result}
use Rattle.std.specs.List.{count_by}
use Rattle.lx_trees.specs.Siblings.{is_among, first_of, last_of}
use Rattle.lx_node.specs.declared.cause.Cause.{Cause}
use Rattle.lx_marks.specs.Marks.{Marked, is_touched}
use Rattle.lx_forest.specs.Forest.{Forest}
use Rattle.lx_forest.specs.Lookups.{fields_of, children_of}
use Rattle.lx_forest.specs.Weights.{own_weight}
use Rattle.lx_links.specs.Sums.{items_in, item_characters_in}
use Rattle.lx_draft.specs.Working.{Working}
use Rattle.lx_list.specs.declared.parts.Part.{Part}
use Rattle.lx_list.specs.Nesting.{is_nesting}
use Rattle.lx_list.specs.Numbering.{list_start, numbered_from}
use Rattle.lx_list.specs.Numbered.{item_number}

-- none of these nodes is marked itself
abbrev pub AreUntouched : Marked → List ℕ → Type 0
AreUntouched m ks = (q : ℕ) → is_among q ks ≡ true → is_touched m q ≡ false

-- the children of a list from the first that is marked itself up to the last
pub record IsMarkedWindow (f : Forest) (m : Marked) (list first last : ℕ) : Type 0 where
  pub front : List ℕ
  pub within : List ℕ
  pub behind : List ℕ
  pub children : children_of f list ≡ front ++ within ++ behind
  pub first_is : first_of within ≡ Some first
  pub last_is : last_of within ≡ Some last
  pub front_untouched : AreUntouched m front
  pub behind_untouched : AreUntouched m behind

-- the number of the item behind these, of which the first is to have this one
abbrev pub number_behind : Forest → ℕ → List ℕ → ℕ
number_behind f n items = n + count_by (λ item. not (is_nesting f item)) items

-- items have their numbers, the first of them this one
abbrev pub HaveNumbers : Forest → ℕ → List ℕ → Type 0
HaveNumbers f n [] = Unit {0}
HaveNumbers f n (item ∷ items) = (item_number (fields_of f item) ≡ Some n) × HaveNumbers f (if is_nesting f item then n else n + 1) items

-- these items of a list, of which the first is to have this number, are all that may not have theirs
pub record IsUnnumberedPart (f : Forest) (list number : ℕ) (items : List ℕ) : Type 0 where
  pub front : List ℕ
  pub behind : List ℕ
  pub children : children_of f list ≡ front ++ items ++ behind
  pub number_is : number ≡ number_behind f (list_start (fields_of f list)) front
  pub front_numbered : HaveNumbers f (list_start (fields_of f list)) front
  pub behind_numbered : HaveNumbers f (number_behind f number items) behind

-- each of these lists has one of these parts
abbrev pub AreParts : Forest → List ℕ → List Part → Type 0
AreParts f [] [] = Unit {0}
AreParts f (list ∷ lists) (part ∷ parts) = IsUnnumberedPart f list part.number part.keys.items × AreParts f lists parts
AreParts f lists parts = ⊥

-- the items of a part get their numbers
abbrev pub part_numbered : Part → Working → Result Working Cause
part_numbered part = numbered_from part.number part.keys.items

-- how many items a part has
abbrev pub items_of : Forest → Part → ℕ
items_of f part = sum_by (own_weight items_in f) part.keys.items

-- how many scalar values are in their strings
abbrev pub part_characters : Forest → Part → ℕ
part_characters f part = sum_by (own_weight item_characters_in f) part.keys.items

-- the numbers that a part may give are those of a machine
abbrev pub IsPartSmall : Part → Type 0
IsPartSmall part = part.number + length part.keys.items < 2 ^ 32

-- the same of each of some parts
abbrev pub AreSmall : List Part → Type 0
AreSmall [] = Unit {0}
AreSmall (part ∷ parts) = IsPartSmall part × AreSmall parts

-- ---- on the way along a list

-- whether this is the last item of a window
abbrev pub is_end : Option (ℕ × ℕ) → ℕ → Bool
is_end None item = false
is_end (Some ends) item = item == ends.1

-- of these items, none that is behind the last of a window is marked itself
abbrev pub UntouchedBehind : Marked → Option (ℕ × ℕ) → List ℕ → Type 0
UntouchedBehind m window [] = Unit {0}
UntouchedBehind m window (item ∷ items) =
    (is_end window item ≡ true → AreUntouched m items) × (is_end window item ≡ false → UntouchedBehind m window items)

-- the same of all of them, where the last of the window was passed
abbrev pub AreLeft : Marked → Option (ℕ × ℕ) → Bool → List ℕ → Type 0
AreLeft m window true items = AreUntouched m items
AreLeft m window false items = UntouchedBehind m window items

-- this is the number behind an item
abbrev pub IsBehind : Forest → ℕ → ℕ → Type 0
IsBehind f item next = (n : ℕ) × (item_number (fields_of f item) ≡ Some n) × (next ≡ if is_nesting f item then n else n + 1)

-- the items of a list before this one have their numbers, and it is to have this number
pub record IsBeginning (w : Working) (list : ℕ) (window : Option (ℕ × ℕ)) (from : Option ℕ) (number : ℕ) : Type 0 where
  pub front : List ℕ
  pub left : List ℕ
  pub children : children_of w.forest list ≡ front ++ left
  pub from_is : from ≡ first_of left
  pub number_is : number ≡ number_behind w.forest (list_start (fields_of w.forest list)) front
  pub front_numbered : HaveNumbers w.forest (list_start (fields_of w.forest list)) front
  pub ends : AreLeft w.marks window (is_none window) left
