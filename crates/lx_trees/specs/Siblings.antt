-- A list of names, such as that of the children of one parent: who is beside whom, and what leaving and coming do.
use Rattle.std.specs.Prelude.{ℕ, ◌+◌, ◌<◌, ◌≡◌, ◌==◌, ◌++◌, Bool, true, false, if◌then◌else◌, List, [], ◌∷◌, Option, None, Some, option_map}
use Rattle.std.specs.List.{list_any}

-- whether this is the name, if one is given
abbrev pub is_named : Option ℕ → ℕ → Bool
is_named None q = false
is_named (Some before) q = q == before

-- whether the name is in the list
abbrev pub is_among : ℕ → List ℕ → Bool
is_among q xs = list_any (λ x. x == q) xs

-- no name occurs twice
abbrev pub NoRepeats : List ℕ → Type 0
NoRepeats [] = Unit {0}
NoRepeats (x ∷ xs) = (is_among x xs ≡ false) × NoRepeats xs

-- the first name, if there is one
abbrev pub first_of : List ℕ → Option ℕ
first_of [] = None
first_of (x ∷ xs) = Some x

-- the last name, or this one where there is none
abbrev pub last_from : Option ℕ → List ℕ → Option ℕ
last_from before [] = before
last_from before (x ∷ xs) = last_from (Some x) xs

-- the last name, if there is one
abbrev pub last_of : List ℕ → Option ℕ
last_of xs = last_from None xs

-- the name right after q
abbrev pub next_in : List ℕ → ℕ → Option ℕ
next_in [] q = None
next_in (x ∷ xs) q = if x == q then first_of xs else next_in xs q

-- the name right before q, or this one where q is the first
abbrev pub previous_from : Option ℕ → List ℕ → ℕ → Option ℕ
previous_from before [] q = None
previous_from before (x ∷ xs) q = if x == q then before else previous_from (Some x) xs q

-- the name right before q
abbrev pub previous_in : List ℕ → ℕ → Option ℕ
previous_in xs q = previous_from None xs q

-- how many names come before q
abbrev pub index_in : List ℕ → ℕ → Option ℕ
index_in [] q = None
index_in (x ∷ xs) q = if x == q then Some 0 else option_map (λ i. i + 1) (index_in xs q)

-- x comes before y
pub record ComesBefore (xs : List ℕ) (x y : ℕ) : Type 0 where
  pub first : ℕ
  pub second : ℕ
  pub first_is : index_in xs x ≡ Some first
  pub second_is : index_in xs y ≡ Some second
  pub before : first < second

-- the names without k
abbrev pub names_without : ℕ → List ℕ → List ℕ
names_without k [] = []
names_without k (x ∷ xs) = if x == k then names_without k xs else x ∷ names_without k xs

-- the names with new ones before that one, or after all where none is named or it isn't there
abbrev pub names_with : Option ℕ → List ℕ → List ℕ → List ℕ
names_with before new [] = new
names_with before new (x ∷ xs) = if is_named before x then new ++ x ∷ xs else x ∷ names_with before new xs

-- whether a name may come before this one: it is in the list, or none is named
abbrev pub is_place : Option ℕ → List ℕ → Bool
is_place None xs = true
is_place (Some before) xs = is_among before xs

-- the name after which a name comes that comes before this one, or at the end
abbrev pub place_behind : Option ℕ → List ℕ → Option ℕ
place_behind None xs = last_of xs
place_behind (Some before) xs = previous_in xs before

-- the names from this one on: none where none is named
abbrev pub from_name : Option ℕ → List ℕ → List ℕ
from_name None xs = []
from_name (Some k) [] = []
from_name (Some k) (x ∷ xs) = if x == k then x ∷ xs else from_name (Some k) xs

-- the names up to this one: none where none is named
abbrev pub up_to_name : Option ℕ → List ℕ → List ℕ
up_to_name None xs = []
up_to_name (Some k) [] = []
up_to_name (Some k) (x ∷ xs) = if x == k then x ∷ [] else x ∷ up_to_name (Some k) xs
