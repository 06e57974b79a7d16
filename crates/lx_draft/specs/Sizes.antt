-- How much text the nodes of a forest have.
use Rattle.std.specs.Prelude.{ℕ, ◌≤◌, ◌+◌, ◌*◌, sum_by, Option, None, Some}
use Rattle.lx_node.specs.Limits.{most_characters}
use Rattle.lx_node.specs.Strings.{characters_of}
use Rattle.lx_node.specs.declared.fields.Fields.{Fields}
use Rattle.lx_text.specs.Texts.{text_length}
use Rattle.lx_forest.specs.Forest.{Forest}
use Rattle.lx_forest.specs.Lookups.{fields_of, preorder}
use Rattle.lx_draft.specs.Selecting.{text_of}

-- how many scalar values are in all strings of fields, if there are fields
abbrev pub characters_of_found : Option Fields → ℕ
characters_of_found None = 0
characters_of_found (Some fields) = characters_of fields

-- how many scalar values are in all strings of a node
abbrev pub characters_at : Forest → ℕ → ℕ
characters_at f k = characters_of_found (fields_of f k)

-- how many scalar values are in all strings of the root's tree
abbrev pub tree_characters : Forest → ℕ
tree_characters f = sum_by (characters_at f) (preorder f)

-- no text is longer than one made of a committed state's scalar values and so many written since, so that a u32 holds
-- its length, as a scalar value has two code units at most
pub record AreShort (f : Forest) (written : ℕ) : Type 0 where
  pub each : (q : ℕ) → text_length (text_of (fields_of f q)) ≤ 2 * (most_characters + written)
