-- What list commands make: new nodes, and fields of which one thing is changed.
use Rattle.std.specs.Prelude.{ℕ, Bool, false, Option, None, Some, Result, Ok}
use Rattle.lx_node.specs.Plain.{element_with}
use Rattle.lx_node.specs.declared.kind.Kind.{Kind}
use Rattle.lx_node.specs.declared.kind.ListType.{ListType}
use Rattle.lx_node.specs.declared.kind.ListType.TheVariants.{Check}
use Rattle.lx_node.specs.declared.fields.Fields.{Fields}
use Rattle.lx_node.specs.declared.fields.Fields.TheVariants as fields
use Rattle.lx_node.specs.declared.fields.ElementFields.{ElementFields}
use Rattle.lx_node.specs.declared.fields.Extra.{Extra}
use Rattle.lx_node.specs.declared.fields.Extra.TheVariants as extra
use Rattle.lx_node.specs.declared.cause.Cause.{Cause}
use Rattle.lx_forest.specs.Forest.{Label}
use Rattle.lx_forest.specs.Lookups.{fields_of}
use Rattle.lx_draft.specs.Working.{Working}
use Rattle.lx_draft.specs.Faults.{after}
use Rattle.lx_draft.specs.Steps.{new_step, set_step}
use Rattle.lx_blocks.specs.Making.{new_like}

-- ---- new nodes

-- a new node, and then a step with its key
abbrev pub with_new_node : Kind → Fields → (ℕ → Working → Result Working Cause) → Working → Result Working Cause
with_new_node kind fields next w = after (new_step kind fields w) (next w.next_key)

-- a new node like another, and then a step with its key
abbrev pub with_like : Option Label → (ℕ → Working → Result Working Cause) → Working → Result Working Cause
with_like l next w = after (new_like l w) (next w.next_key)

-- the fields of a list that begins with 1
abbrev pub list_fields : Fields
list_fields = fields.Element (element_with (extra.List 1))

-- the fields of an item with the number 1 and this check mark
abbrev pub item_fields : Option Bool → Fields
item_fields checked = fields.Element (element_with (extra.Item 1 checked))

-- the check mark of a new item in a list of this type: one that isn't set, or none
abbrev pub unchecked : ListType → Option Bool
unchecked Check = Some false
unchecked other = None

-- ---- the check mark of an item

-- the check mark that an item has of its own kind: set or not, or none
abbrev pub check_in : Extra → Option Bool
check_in (extra.Item value checked) = checked
check_in other = None

-- the check mark in fields
abbrev pub check_at : Option Fields → Option Bool
check_at (Some (fields.Element element)) = check_in element.extra
check_at other = None

-- ---- fields changed

-- fields changed, if they are an element's
abbrev pub element_fields_changed : (ElementFields → ElementFields) → Fields → Fields
element_fields_changed change (fields.Element element) = fields.Element (change element)
element_fields_changed change other = other

-- an element with its indent changed
abbrev pub with_indent : (ℕ → ℕ) → ElementFields → ElementFields
with_indent change e = record e { indent = change e.indent }

-- an element with what it has of its own kind changed
abbrev pub with_extra_changed : (Extra → Extra) → ElementFields → ElementFields
with_extra_changed change e = record e { extra = change e.extra }

-- an item with this number
abbrev pub with_number : ℕ → Extra → Extra
with_number n (extra.Item value checked) = extra.Item n checked
with_number n other = other

-- an item with this check mark, or with none
abbrev pub checked_as : Option Bool → Extra → Extra
checked_as check (extra.Item value checked) = extra.Item value check
checked_as check other = other

-- these fields of a node set to what they become, also where that is what they were
abbrev pub set_changed : (ElementFields → ElementFields) → ℕ → Option Fields → Working → Result Working Cause
set_changed change k None w = Ok w
set_changed change k (Some fields) w = set_step k (element_fields_changed change fields) w

-- a node's fields set to what they become, also where that is what they were
unfoldable pub change_step : (ElementFields → ElementFields) → ℕ → Working → Result Working Cause
change_step change k w = set_changed change k (fields_of w.forest k) w

-- an item gets a number
unfoldable pub number_item : ℕ → ℕ → Working → Result Working Cause
number_item n = change_step (with_extra_changed (with_number n))

-- an item gets a check mark, or loses it
unfoldable pub check_item : Option Bool → ℕ → Working → Result Working Cause
check_item check = change_step (with_extra_changed (checked_as check))
