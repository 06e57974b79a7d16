-- The numbers of a list's items are small.
use Rattle.std.proofs.Common.{◌≡◌, ℕ, ◌+◌, ◌<◌, ◌≤◌, ◌^◌, Bool, true, false, ◌&&◌, length, List, Option, None, Some, sym, ap, subst, arith}
use Rattle.std.specs.Prelude.{option_map}
use Rattle.std.proofs.lemmas.Bool.Decides.{nat_tests}
use Rattle.lx_trees.specs.NamedTrees.{total}
use Rattle.lx_node.specs.OfKind.{is_of_kind, fits_kind, is_element_of, is_text_of, are_embed_fields, are_bare, is_extra_of, is_list_extra, is_item_extra, is_link_extra, is_cell_extra, is_plain}
use Rattle.lx_node.specs.Kinds.{is_possible}
use Rattle.lx_node.specs.declared.kind.Kind.TheVariants.{List as ListKind, Text, Tab, Break, Rule, Embed}
use Rattle.lx_node.specs.declared.kind.Kind.{Kind}
use Rattle.lx_node.specs.declared.fields.Fields.{Fields}
use Rattle.lx_node.specs.declared.fields.Fields.TheVariants as fields
use Rattle.lx_node.specs.declared.fields.Extra.{Extra}
use Rattle.lx_node.specs.declared.fields.Extra.TheVariants as extra
use Rattle.lx_forest.specs.Forest.{Label}
use Rattle.lx_forest.specs.Lookups.{label_of, fields_of, children_of}
use Rattle.lx_forest.proofs.Bounds.{size_of-le}
use Rattle.lx_forest.specs.Suited.{is_suited, IsSuited}
use Rattle.lx_draft.specs.Working.{Working, IsWorking}
use Rattle.lx_list.specs.Numbering.{start_of_list, list_start}

start_of_extra : (kind : Kind) (e : Extra) → is_extra_of kind e ≡ true → start_of_list e ≤ 1000000
unfolding is_extra_of is_list_extra is_item_extra is_link_extra is_cell_extra is_plain
start_of_extra (ListKind type) (extra.List start) h = grind (arith, nat_tests, h)
start_of_extra kind (extra.List start) h = absurd (cc)
start_of_extra kind e h = omega arith

second : (a b : Bool) → (a && b) ≡ true → b ≡ true
second true b h = h
second false b h = absurd (cc)

start_of_fields : (kind : Kind) (o : Fields) → is_of_kind kind o ≡ true → list_start (Some o) ≤ 1000000
unfolding is_of_kind fits_kind is_element_of is_text_of are_embed_fields are_bare is_possible
start_of_fields Text (fields.Element element) h = absurd (cc)
start_of_fields Tab (fields.Element element) h = absurd (cc)
start_of_fields Break (fields.Element element) h = absurd (cc)
start_of_fields Rule (fields.Element element) h = absurd (cc)
start_of_fields Embed (fields.Element element) h = absurd (cc)
start_of_fields kind (fields.Element element) h = start_of_extra kind element.extra (second (is_possible kind) (is_extra_of kind element.extra) h)
start_of_fields kind (fields.Text text) h = omega arith
start_of_fields kind (fields.Embed source) h = omega arith
start_of_fields kind fields.Bare h = omega arith

start_of_label : (o : Option Label) → is_suited o ≡ true → list_start (option_map (λ (l : Label). l.fields) o) ≤ 1000000
start_of_label None h = omega arith
start_of_label (Some l) h = start_of_fields l.kind l.fields h

-- so many more than the number with which a list begins fit a machine's number
pub numbers_small : (w : Working) (list : ℕ) (first : ℕ) (items : List ℕ) → IsWorking w → IsSuited w.forest → first ≡ list_start (fields_of w.forest list)
    → items ≡ children_of w.forest list
    → first + length items < 2 ^ 32
numbers_small w list first items h suited is own =
    let low : list_start (fields_of w.forest list) ≤ 1000000 = start_of_label (label_of w.forest list) (suited.each list) in
    let few : length items ≤ total w.forest = subst (λ n. n ≤ total w.forest) (ap length (sym own)) (size_of-le w.forest list) in
    omega (arith, few, h.few, h.counted, low, is)
