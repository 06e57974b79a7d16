-- What a view shows before its fields and its children are looked at.
use Rattle.std.specs.Prelude.{Bool, true, false, List, [], ◌∷◌, Option, None, Some}
use Rattle.lx_node.specs.declared.kind.Kind.{Kind}
use Rattle.lx_node.specs.declared.fields.TextFields.{TextFields}
use Rattle.lx_node.specs.declared.fields.Fields.{Fields}
use Rattle.lx_node.specs.declared.fields.Fields.TheVariants as fields
use Rattle.lx_node.specs.declared.node.View.{View}
use Rattle.lx_rules.specs.declared.glance.Glance.{Glance}

-- whether there are no kinds, which are those of children
abbrev pub has_no_kinds : List Kind → Bool
has_no_kinds [] = true
has_no_kinds (kind ∷ kinds) = false

-- the fields of a text or a tab, if they are such
abbrev pub text_fields_in : Fields → Option TextFields
text_fields_in (fields.Text own) = Some own
text_fields_in other = None

-- a view at a glance: the kinds around the node and its own, and whether it has children
abbrev pub glance_of : View → Glance
glance_of v =
    record { kind = v.kind; parent = v.parent; prev = v.prev; next = v.next; is_childless = has_no_kinds v.children }
