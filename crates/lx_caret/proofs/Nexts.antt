-- The fields of new blocks.
use Rattle.std.proofs.Common.{◌≡◌, ◌+◌, ◌-◌, ℕ, Bool, true, false, cond, Option, Some, refl, arith}
use Rattle.lx_node.specs.Kinds.{is_possible}
use Rattle.lx_node.specs.OfKind.{IsOfKind, is_of_kind, fits_kind, is_element_of, is_extra_of, is_plain, is_item_extra}
use Rattle.lx_node.specs.Plain.{plain_element}
use Rattle.lx_node.specs.declared.kind.Kind.TheVariants.{Paragraph, Quote, Item}
use Rattle.lx_node.specs.declared.fields.Fields.{Fields}
use Rattle.lx_node.specs.declared.fields.Fields.TheVariants as fields
use Rattle.lx_node.specs.declared.fields.Extra.{Extra}
use Rattle.lx_node.specs.declared.fields.Extra.TheVariants as extra
use Rattle.lx_blocks.proofs.Labelled.{paragraph_suits}
use Rattle.lx_caret.specs.Paragraphs.{item_extra, item_like}

-- fields that are those of a new block's kind
pub quote_suits : IsOfKind Quote plain_element
unfolding is_of_kind fits_kind is_element_of is_extra_of is_plain is_possible
quote_suits = refl

pub plain_suits : (inline : Bool) → IsOfKind (cond inline Paragraph Quote) plain_element
plain_suits true = paragraph_suits
plain_suits false = quote_suits

extra_suits : (x : Extra) → is_item_extra (item_extra x) ≡ true
unfolding is_item_extra
extra_suits (extra.Item value (Some checked)) = refl
extra_suits other = refl

pub item_suits : (o : Option Fields) → IsOfKind Item (item_like o)
unfolding is_of_kind fits_kind is_element_of is_extra_of is_possible
item_suits (Some (fields.Element element)) = extra_suits element.extra
item_suits other = extra_suits extra.Plain

-- the node made last has the key before the next
pub newest_is : (key next : ℕ) → key + 1 ≡ next → next - 1 ≡ key
newest_is key next e = omega (arith, e)
