-- Members within their ranges keep fields those of their kind.
use Rattle.std.proofs.Common.{refl, List, [], ◌∷◌, Bool, true, false, ◌&&◌, leb, IsTrue, All, arith}
use Rattle.std.proofs.lemmas.List.Elements.{All-tail}
use Rattle.std.specs.List.{list_all}
use Rattle.lx_node.specs.declared.kind.Kind.{Kind}
use Rattle.lx_node.specs.declared.kind.Kind.TheVariants as kind
use Rattle.lx_node.specs.declared.fields.Extra.{Extra}
use Rattle.lx_node.specs.declared.fields.Extra.TheVariants as extra
use Rattle.lx_node.specs.declared.fields.TextFields.{TextFields}
use Rattle.lx_node.specs.declared.fields.ElementFields.{ElementFields}
use Rattle.lx_node.specs.declared.fields.Fields.{Fields}
use Rattle.lx_node.specs.declared.fields.Fields.TheVariants as fields
use Rattle.lx_node.specs.Kinds.{is_possible, is_text}
use Rattle.lx_node.specs.OfKind.{IsOfKind, is_of_kind, fits_kind, is_element_of, is_text_of, are_text_fields, are_tab_fields, are_embed_fields, are_bare, is_extra_of, is_plain, is_list_extra, is_item_extra, is_link_extra, is_cell_extra, is_span}
use Rattle.lx_step.specs.declared.member.Member.{Member}
use Rattle.lx_step.specs.declared.member.Member.TheVariants.{Direction, Align, Indent, TextFormat, TextStyle, Start, Checked, Rel, HeaderState, ColSpan, RowSpan, Text, Detail, Mode}
use Rattle.lx_step.specs.Patches.{has, with_extra, element_with_member, text_with_member, with_member, with_members, is_in_range, IsInRange}

-- ---- an element

plain_kept : (member : Member) (old : Extra) → IsTrue (is_plain old) → IsTrue (is_plain (with_extra member old))
unfolding is_plain with_extra
plain_kept (Start start) extra.Plain of = of
plain_kept member extra.Plain of = of
plain_kept member (extra.List start) of = absurd (cc)
plain_kept member (extra.Item value checked) of = absurd (cc)
plain_kept member (extra.Link rel target title url) of = absurd (cc)
plain_kept member (extra.Cell header row_span col_span background) of = absurd (cc)

list_kept : (member : Member) (old : Extra) → IsInRange member → IsTrue (is_list_extra old) → IsTrue (is_list_extra (with_extra member old))
unfolding is_list_extra with_extra is_in_range
list_kept (Start start) (extra.List old) ranged of = ranged
list_kept member (extra.List old) ranged of = of
list_kept member _ ranged of = absurd (cc)

item_kept : (member : Member) (old : Extra) → IsTrue (is_item_extra old) → IsTrue (is_item_extra (with_extra member old))
unfolding is_item_extra with_extra
item_kept (Checked checked) (extra.Item value old) of = of
item_kept member (extra.Item value old) of = of
item_kept member _ of = absurd (cc)

link_kept : (member : Member) (old : Extra) → IsTrue (is_link_extra old) → IsTrue (is_link_extra (with_extra member old))
unfolding is_link_extra with_extra
link_kept (Rel rel) (extra.Link old target title url) of = of
link_kept member (extra.Link rel target title url) of = of
link_kept member _ of = absurd (cc)

both : (a b : Bool) → IsTrue (a && b) → IsTrue a × IsTrue b
both true b of = (refl, of)
both false b of = absurd (cc)

and : (a b : Bool) → IsTrue a → IsTrue b → IsTrue (a && b)
and true b of_a of_b = of_b
and false b of_a of_b = absurd (cc)

cell_kept : (member : Member) (old : Extra) → IsInRange member → IsTrue (is_cell_extra old) → IsTrue (is_cell_extra (with_extra member old))
unfolding is_cell_extra with_extra is_in_range
cell_kept (HeaderState header) (extra.Cell old row_span col_span background) ranged of =
    and (leb header 3) _ ranged (both (leb old 3) _ of).1
cell_kept (RowSpan row_span) (extra.Cell header old col_span background) ranged of =
    let parts = both (leb header 3) (is_span old && is_span col_span) of in
    and (leb header 3) _ parts.0 (and (is_span row_span) _ ranged (both (is_span old) (is_span col_span) parts.1).1)
cell_kept (ColSpan col_span) (extra.Cell header row_span old background) ranged of =
    let parts = both (leb header 3) (is_span row_span && is_span old) of in
    and (leb header 3) _ parts.0 (and (is_span row_span) _ (both (is_span row_span) (is_span old) parts.1).0 ranged)
cell_kept member (extra.Cell header row_span col_span background) ranged of = of
cell_kept member _ ranged of = absurd (cc)

extra_kept : (kind : Kind) (member : Member) (old : Extra) → IsInRange member → IsTrue (is_extra_of kind old)
    → IsTrue (is_extra_of kind (with_extra member old))
unfolding is_extra_of
extra_kept (kind.List type) member old ranged of = list_kept member old ranged of
extra_kept kind.Item member old ranged of = item_kept member old of
extra_kept kind.Link member old ranged of = link_kept member old of
extra_kept kind.Cell member old ranged of = cell_kept member old ranged of
extra_kept _ member old ranged of = plain_kept member old of

element_kept : (kind : Kind) (member : Member) (old : ElementFields) → IsInRange member → IsTrue (is_extra_of kind old.extra)
    → IsTrue (is_extra_of kind (element_with_member member old).extra)
unfolding element_with_member
element_kept kind (Direction direction) old ranged of = of
element_kept kind (Align align) old ranged of = of
element_kept kind (Indent indent) old ranged of = of
element_kept kind (TextFormat format) old ranged of = of
element_kept kind (TextStyle style) old ranged of = of
element_kept kind member old ranged of = extra_kept kind member old.extra ranged of

-- ---- a text, and a tab, whose text, detail and mode are its own

text_kept : (member : Member) (old : TextFields) → IsInRange member → IsTrue (are_text_fields old) → IsTrue (are_text_fields (text_with_member member old))
unfolding are_text_fields text_with_member is_in_range
text_kept (Detail detail) old ranged of = ranged
text_kept member old ranged of = of

tab_kept : (member : Member) (old : TextFields) → IsTrue (has kind.Tab member) → IsTrue (are_tab_fields old)
    → IsTrue (are_tab_fields (text_with_member member old))
unfolding are_tab_fields text_with_member has is_text
tab_kept (Text text) old may of = absurd (cc)
tab_kept (Detail detail) old may of = absurd (cc)
tab_kept (Mode mode) old may of = absurd (cc)
tab_kept member old may of = of

-- ---- fields

fitting : (kind : Kind) (member : Member) (old : Fields) → IsInRange member → IsTrue (has kind member) → IsTrue (fits_kind kind old)
    → IsTrue (fits_kind kind (with_member member old))
unfolding fits_kind is_element_of is_text_of are_embed_fields are_bare with_member
fitting kind.Text member (fields.Text old) ranged may of = text_kept member old ranged of
fitting kind.Tab member (fields.Text old) ranged may of = tab_kept member old may of
fitting kind.Text member _ ranged may of = absurd (cc)
fitting kind.Tab member _ ranged may of = absurd (cc)
fitting kind.Break member fields.Bare ranged may of = of
fitting kind.Rule member fields.Bare ranged may of = of
fitting kind.Break member _ ranged may of = absurd (cc)
fitting kind.Rule member _ ranged may of = absurd (cc)
fitting kind.Embed member (fields.Embed source) ranged may of = of
fitting kind.Embed member _ ranged may of = absurd (cc)
fitting kind member (fields.Element old) ranged may of = element_kept kind member old ranged of
fitting kind member (fields.Text old) ranged may of = absurd (cc)
fitting kind member (fields.Embed old) ranged may of = absurd (cc)
fitting kind member fields.Bare ranged may of = absurd (cc)

pub keeps_kind_with : (kind : Kind) (member : Member) (old : Fields) → IsInRange member → IsTrue (has kind member) → IsOfKind kind old
    → IsOfKind kind (with_member member old)
unfolding is_of_kind
keeps_kind_with kind member old ranged may of =
    let parts = both (is_possible kind) (fits_kind kind old) of in
    and (is_possible kind) _ parts.0 (fitting kind member old ranged may parts.1)

pub keeps_kind : (kind : Kind) (members : List Member) (old : Fields) → IsOfKind kind old → IsTrue (list_all (has kind) members) → All IsInRange members
    → IsOfKind kind (with_members members old)
keeps_kind kind [] old of may ranged = of
keeps_kind kind (member ∷ members) old of may ranged =
    let parts = both (has kind member) (list_all (has kind) members) may in
    keeps_kind kind members (with_member member old) (keeps_kind_with kind member old (ranged 0 member (omega arith)) parts.0 of) parts.1
    (All-tail IsInRange member members ranged)
