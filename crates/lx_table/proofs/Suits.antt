-- Spans and headers of fields that are of their kind.
use Rattle.std.proofs.Common.{◌≡◌, ◌∙◌, ℕ, ◌≤◌, Bool, true, false, ◌&&◌, Option, None, Some, refl, sym, arith}
use Rattle.std.proofs.lemmas.Bool.Decides.{nat_tests}
use Rattle.lx_node.specs.OfKind.{IsOfKind, is_of_kind, fits_kind, is_element_of, is_text_of, are_embed_fields, are_bare, is_extra_of, is_plain, is_list_extra, is_item_extra, is_link_extra, is_cell_extra, is_span}
use Rattle.lx_node.specs.Kinds.{is_possible}
use Rattle.lx_node.specs.declared.kind.Kind.{Kind}
use Rattle.lx_node.specs.declared.kind.Kind.TheVariants.{List as ListKind, Item, Link, Table, Row, Cell, Text, Tab, Break, Rule, Embed}
use Rattle.lx_node.specs.declared.fields.Extra.{Extra}
use Rattle.lx_node.specs.declared.fields.Extra.TheVariants as extra
use Rattle.lx_node.specs.declared.fields.ElementFields.{ElementFields}
use Rattle.lx_node.specs.declared.fields.Fields.{Fields}
use Rattle.lx_node.specs.declared.fields.Fields.TheVariants as fields
use Rattle.lx_node.specs.Plain.{plain_element}
use Rattle.std.specs.Prelude.{nat_lt}
use Rattle.std.specs.Option.{option_or}
use Rattle.lx_node.specs.declared.cause.Cause.{Cause}
use Rattle.lx_node.specs.declared.cause.Cause.TheVariants.{BadPlace}
use Rattle.lx_table.specs.Making.{cell_fields}
use Rattle.lx_table.specs.Spans.{rows_in, columns_in, header_in, read_by, over_span}

record AreWithin (x : Extra) : Type 0 where
  pub some_rows : 1 ≤ rows_in x
  pub rows : rows_in x ≤ 1000
  pub some_columns : 1 ≤ columns_in x
  pub columns : columns_in x ≤ 1000
  pub header : header_in x ≤ 3

cell_within : (x : Extra) → is_cell_extra x ≡ true → AreWithin x
unfolding is_cell_extra is_span
cell_within (extra.Cell header rows columns background) e = record {
  some_rows = grind (arith, nat_tests, e);
  rows = grind (arith, nat_tests, e);
  some_columns = grind (arith, nat_tests, e);
  columns = grind (arith, nat_tests, e);
  header = grind (arith, nat_tests, e);
}
cell_within _ e = absurd (cc)

plain_within : (x : Extra) → is_plain x ≡ true → AreWithin x
unfolding is_plain
plain_within extra.Plain e = record { some_rows = omega arith; rows = omega arith; some_columns = omega arith; columns = omega arith; header = omega arith }
plain_within _ e = absurd (cc)

list_within : (x : Extra) → is_list_extra x ≡ true → AreWithin x
unfolding is_list_extra
list_within (extra.List start) e =
    record { some_rows = omega arith; rows = omega arith; some_columns = omega arith; columns = omega arith; header = omega arith }
list_within _ e = absurd (cc)

item_within : (x : Extra) → is_item_extra x ≡ true → AreWithin x
unfolding is_item_extra
item_within (extra.Item value checked) e =
    record { some_rows = omega arith; rows = omega arith; some_columns = omega arith; columns = omega arith; header = omega arith }
item_within _ e = absurd (cc)

link_within : (x : Extra) → is_link_extra x ≡ true → AreWithin x
unfolding is_link_extra
link_within (extra.Link rel target title url) e =
    record { some_rows = omega arith; rows = omega arith; some_columns = omega arith; columns = omega arith; header = omega arith }
link_within _ e = absurd (cc)

extra_within : (kind : Kind) (x : Extra) → is_extra_of kind x ≡ true → AreWithin x
unfolding is_extra_of
extra_within (ListKind type) x e = list_within x e
extra_within Item x e = item_within x e
extra_within Link x e = link_within x e
extra_within Cell x e = cell_within x e
extra_within _ x e = plain_within x e

element_within : (kind : Kind) (e : ElementFields) → fits_kind kind (fields.Element e) ≡ true → AreWithin e.extra
unfolding fits_kind is_element_of is_text_of are_embed_fields are_bare
element_within Text e h = absurd (cc)
element_within Tab e h = absurd (cc)
element_within Break e h = absurd (cc)
element_within Rule e h = absurd (cc)
element_within Embed e h = absurd (cc)
element_within kind e h = extra_within kind e.extra h

second : (a b : Bool) → (a && b) ≡ true → b ≡ true
second true b e = e
second false b e = absurd (cc)

fits : (kind : Kind) (fs : Fields) → IsOfKind kind fs → fits_kind kind fs ≡ true
unfolding is_of_kind
fits kind fs of = second (is_possible kind) (fits_kind kind fs) of

-- the numbers of a cell's fields are within their limits
pub record Within (fs : Fields) : Type 0 where
  pub some_rows : 1 ≤ read_by rows_in 1 (Some fs)
  pub rows : read_by rows_in 1 (Some fs) ≤ 1000
  pub some_columns : 1 ≤ read_by columns_in 1 (Some fs)
  pub columns : read_by columns_in 1 (Some fs) ≤ 1000
  pub header : read_by header_in 0 (Some fs) ≤ 3

pub within : (kind : Kind) (fs : Fields) → IsOfKind kind fs → Within fs
within kind (fields.Element e) of =
    let w = element_within kind e (fits kind (fields.Element e) of) in
    record { some_rows = w.some_rows; rows = w.rows; some_columns = w.some_columns; columns = w.columns; header = w.header }
within kind _ of = record { some_rows = omega arith; rows = omega arith; some_columns = omega arith; columns = omega arith; header = omega arith }

-- a span that isn't above the greatest
span_small : (n : ℕ) → over_span n ≡ None → n ≤ 1000
span_small n e = by_test (nat_lt 1000 n) refl where
  by_test : (t : Bool) → nat_lt 1000 n ≡ t → n ≤ 1000
  by_test true h = let above : over_span n ≡ Some (BadPlace 1001) = rw h refl in let refused : None ≡ Some (BadPlace 1001) = sym e ∙ above in absurd (cc)
  by_test false h = grind (arith, nat_tests, h)

first_none : (a b : Option Cause) → option_or a b ≡ None → a ≡ None
first_none None b e = refl
first_none (Some c) b e = absurd (cc)

second_none : (a b : Option Cause) → option_or a b ≡ None → b ≡ None
second_none None b e = e
second_none (Some c) b e = absurd (cc)

pub rows_small : (rows columns : ℕ) → option_or (over_span rows) (over_span columns) ≡ None → rows ≤ 1000
rows_small rows columns e = span_small rows (first_none (over_span rows) (over_span columns) e)

pub columns_small : (rows columns : ℕ) → option_or (over_span rows) (over_span columns) ≡ None → columns ≤ 1000
columns_small rows columns e = span_small columns (second_none (over_span rows) (over_span columns) e)

-- ---- new nodes

pub row_suits : IsOfKind Row plain_element
unfolding is_of_kind fits_kind is_element_of is_extra_of is_plain is_possible
row_suits = refl

pub table_suits : IsOfKind Table plain_element
unfolding is_of_kind fits_kind is_element_of is_extra_of is_plain is_possible
table_suits = refl

pub cell_suits : (header : ℕ) → header ≤ 3 → IsOfKind Cell (cell_fields header)
unfolding is_of_kind fits_kind is_element_of is_extra_of is_cell_extra is_span is_possible
cell_suits header within = grind (arith, nat_tests, within)
