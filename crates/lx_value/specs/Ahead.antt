-- What tokens begin with, and what comes after it; for private clauses.
use Rattle.std.specs.Prelude.{◌≡◌, ℕ, zero, suc, List, length, Option, Some, None, option_map, Result, Ok, Err}
use Rattle.json.specs.Token.{Token}
use Rattle.json.specs.Json as json
use Rattle.serde_json.specs.Data.{Data, null, boolean, number, string, Items, Members, no_members}
use Rattle.serde_json.specs.Read.{number_of, of_json, of_items, of_members, converted}
use Rattle.lx_value.specs.declared.reading.Unread.{Unread}
use Rattle.lx_value.specs.declared.reading.Unread.TheVariants.{NoJson, Memory}

-- the value that one token is
abbrev pub scalar_of : Token → Option Data
scalar_of (Token.string s) = Some (string s)
scalar_of (Token.number s) = option_map number (number_of s)
scalar_of (Token.boolean b) = Some (boolean b)
scalar_of Token.null = Some null
scalar_of other = None

-- a value in which others nest so deep, and the tokens after it
abbrev pub value_ahead : ℕ → List Token → Option (Data × List Token)
value_ahead depth ts = converted of_json (json.value depth ts)

-- the items up to the bracket that closes their array, in each of which others nest so deep
abbrev pub items_from : ℕ → List Token → Option (Items × List Token)
items_from depth ts = converted of_items (json.items (json.value depth) (length ts) ts)

-- the members up to the brace that closes their object, put to those that were found
abbrev pub members_from : ℕ → Members → List Token → Option (Members × List Token)
members_from depth found ts = converted (λ ms. of_members ms found) (json.members (json.value depth) (length ts) ts)

-- the items of an array that may nest so deep, after the bracket that opens it
abbrev pub items_ahead : ℕ → List Token → Option (Items × List Token)
items_ahead zero ts = None
items_ahead (suc depth) ts = items_from depth ts

-- the members of an object that may nest so deep, after the brace that opens it
abbrev pub members_ahead : ℕ → List Token → Option (Members × List Token)
members_ahead zero ts = None
members_ahead (suc depth) ts = members_from depth no_members ts

-- there is nothing to read, unless memory ran out
abbrev pub Refuses : {B : Type 0} → Option B → Unread → Type 0
Refuses told NoJson = told ≡ None
Refuses told Memory = Unit {0}

-- an outcome gives what there is to read, as it is seen, or refuses
abbrev pub Gives : {A B : Type 0} → (A → B) → Option B → Result A Unread → Type 0
Gives seen told (Ok found) = told ≡ Some (seen found)
Gives seen told (Err unread) = Refuses told unread
