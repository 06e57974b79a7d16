-- What is asked of a JSON value.
use Rattle.std.specs.Prelude.{◌==◌, ℕ, ◌+◌, List, [], ◌∷◌, Bool, false, ◌&&◌, leb, chars, is_some, if◌then◌else◌, Option, None, Some, option_map, option_and_then}
use Rattle.std.specs.Option.{option_zip}
use Rattle.std.specs.Str.{bytes_eq}
use Rattle.serde_json.specs.Data.{Data, null, object, no_members, member, Items, no_items, item}
use Rattle.serde_json.specs.Events.{members_len}
use Rattle.serde_json.specs.Find.{get, as_str, as_array, as_number, as_u64}

-- ---- words

-- what a word stands for in a table of words
abbrev pub word_in : {A : Type 0} → List (List ℕ × A) → List ℕ → Option A
word_in [] text = None
word_in (row ∷ rows) text = if bytes_eq row.0 text then Some row.1 else word_in rows text

-- what a string stands for in a table of words
abbrev pub named : {A : Type 0} → List (List ℕ × A) → Data → Option A
named rows d = option_and_then (word_in rows) (as_str d)

-- what the first word of a table that is a member's name stands for
abbrev pub first_member : {A : Type 0} → List (List ℕ × A) → Data → Option A
first_member [] d = None
first_member (row ∷ rows) d = if is_some (get row.0 d) then Some row.1 else first_member rows d

-- ---- texts and numbers

-- the characters of a string
abbrev pub string_of : Data → Option (List ℕ)
string_of d = option_map chars (as_str d)

-- a whole number from 0 to 18,446,744,073,709,551,615
abbrev pub whole_of : Data → Option ℕ
whole_of d = option_and_then as_u64 (as_number d)

-- a whole number within these bounds
abbrev pub number_within : ℕ → ℕ → Data → Option ℕ
number_within least most d = option_and_then (λ n. if leb least n && leb n most then Some n else None) (whole_of d)

-- a value that is read, or null for none
abbrev pub or_null_of : {A : Type 0} → (Data → Option A) → Data → Option (Option A)
or_null_of reads null = Some None
or_null_of reads d = option_map (λ a. Some a) (reads d)

-- ---- members

-- how many of the names are those of members
abbrev pub present : List (List ℕ) → Data → ℕ
present [] d = 0
present (name ∷ names) d = (if is_some (get name d) then 1 else 0) + present names d

-- whether an object has no members but those of these names, which all differ
abbrev pub has_only : List (List ℕ) → Data → Bool
has_only names (object members) = members_len members == present names (object members)
has_only names d = false

-- what is read of a member that has to be there
abbrev pub required : {A : Type 0} → (Data → Option A) → List ℕ → Data → Option A
required reads name d = option_and_then reads (get name d)

-- what is read of a value that may be missing
abbrev pub optional_in : {A : Type 0} → (Data → Option A) → Option Data → Option (Option A)
optional_in reads None = Some None
optional_in reads (Some d) = option_map (λ a. Some a) (reads d)

-- what is read of a member that may be missing
abbrev pub optional : {A : Type 0} → (Data → Option A) → List ℕ → Data → Option (Option A)
optional reads name d = optional_in reads (get name d)

-- what the name of an object's only member stands for in a table of words, and the member's value
abbrev pub only_member : {A : Type 0} → List (List ℕ × A) → Data → Option (A × Data)
only_member rows (object (member name d no_members)) = option_map (λ word. (word, d)) (word_in rows name)
only_member rows d = None

-- ---- lists

-- what is read of items, where each of them can be read
abbrev pub all_of : {A : Type 0} → (Data → Option A) → Items → Option (List A)
all_of reads no_items = Some []
all_of reads (item d ds) = option_map (λ p. p.0 ∷ p.1) (option_zip (reads d) (all_of reads ds))

-- what is read of a list, where each of its items can be read
abbrev pub list_of : {A : Type 0} → (Data → Option A) → Data → Option (List A)
list_of reads d = option_and_then (all_of reads) (as_array d)
