-- What a writer of JSON has taken; for private clauses.
use Rattle.std.specs.Prelude.{◌≡◌, ℕ, Bool, List, [], ◌∷◌, ◌++◌, codes, encode_utf8_all, Option, None, Some}
use Rattle.json.specs.Token.{Token, key, string, boolean}
use Rattle.json.specs.Tree.{json_tokens}
use Rattle.json.specs.Written.{Written}
use Rattle.serde_json.specs.Data.{Data, Members, no_members, member}
use Rattle.serde_json.specs.Written.{outline}
use Rattle.lx_host.specs.Words.{name_word}
use Rattle.lx_host.specs.declared.tag.Name.{Name}
use Rattle.lx_fields.specs.Parts.{text_data}

-- a writer has taken these tokens, after those that it had
abbrev pub Sends : List Token → Written → Written → Type 0
Sends ts old new = (new.before ≡ old.before) × (new.tokens ≡ old.tokens ++ ts)

-- a writer has taken this value, after what it had
abbrev pub Tells : Data → Written → Written → Type 0
Tells d old new = Sends (json_tokens (outline d)) old new

-- the tokens of a member that says whether a command was handled, where one was dispatched
abbrev pub handled_tokens : Option Bool → List Token
handled_tokens None = []
handled_tokens (Some handled) = key (codes "handled") ∷ boolean handled ∷ []

-- the tokens of a member with the view, where replies include it
abbrev pub view_tokens : Option (List ℕ) → List Token
view_tokens None = []
view_tokens (Some html) = key (codes "view") ∷ string (encode_utf8_all html) ∷ []

-- attributes as members, in the order in which they are
abbrev pub members_in_order : List (Name × List ℕ) → Members
members_in_order [] = no_members
members_in_order (a ∷ rest) = member (name_word a.0) (text_data a.1) (members_in_order rest)
