-- The fields of new nodes are of their kinds.
use Rattle.std.proofs.Common.{◌≡◌, ◌≢◌, true, Bool, Option, refl}
use Rattle.lx_node.specs.Kinds.{is_possible, is_list}
use Rattle.lx_node.specs.OfKind.{IsOfKind, is_of_kind, fits_kind, is_element_of, is_extra_of, is_item_extra, is_list_extra}
use Rattle.lx_node.specs.declared.kind.Kind.{Kind}
use Rattle.lx_node.specs.declared.kind.Kind.TheVariants.{Root, Item, List as ListKind}
use Rattle.lx_node.specs.declared.kind.ListType.{ListType}
use Rattle.lx_node.specs.declared.fields.Fields.{Fields}
use Rattle.lx_list.specs.Making.{list_fields, item_fields}

pub item_suits : (checked : Option Bool) → IsOfKind Item (item_fields checked)
unfolding is_of_kind fits_kind is_element_of is_extra_of is_item_extra is_possible
item_suits checked = refl

pub list_suits : (type : ListType) → IsOfKind (ListKind type) list_fields
unfolding is_of_kind fits_kind is_element_of is_extra_of is_list_extra is_possible
list_suits type = refl

-- fields of one list are those of a list of any type
pub any_list_suits : (type : ListType) (kind : Kind) (o : Fields) → is_list kind ≡ true → IsOfKind kind o → IsOfKind (ListKind type) o
unfolding is_list is_of_kind fits_kind is_element_of is_extra_of is_possible
any_list_suits type (ListKind other) o is h = h
any_list_suits type kind o is h = absurd (cc)

-- a list is no root
pub no_root : (kind : Kind) → is_list kind ≡ true → kind ≢ Root
unfolding is_list
no_root (ListKind type) is e = cc
no_root kind is e = absurd (cc)
