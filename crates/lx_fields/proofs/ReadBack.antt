-- The object that is written for a node gives the fields that it was written for.
use Rattle.std.proofs.Common.{◌≡◌, ◌∙◌, refl, sym, ap, ℕ, List, [], ◌∷◌, true, false, if◌then◌else◌, ◌&&◌, eqb, leb, IsTrue, Option, None, Some, Result, Ok, eqb-true}
use Rattle.serde_json.specs.Data.{Data, Items}
use Rattle.serde_json.specs.Find.{get}
use Rattle.lx_node.specs.Kinds.{is_element, is_possible, is_text, is_heading, is_list, is_item, is_link, is_cell, is_embed, has_characters}
use Rattle.lx_node.specs.OfKind.{IsOfKind, is_of_kind, fits_kind, is_element_of, is_text_of, are_text_fields, are_tab_fields, is_tab_text, is_normal, are_embed_fields, are_bare, is_extra_of, is_plain, is_list_extra, is_item_extra, is_link_extra, is_cell_extra, is_span}
use Rattle.lx_node.specs.declared.kind.Kind.{Kind}
use Rattle.lx_node.specs.declared.kind.Kind.TheVariants as kind
use Rattle.lx_node.specs.declared.fields.Mode.{Mode}
use Rattle.lx_node.specs.declared.fields.Mode.TheVariants as mode
use Rattle.lx_node.specs.declared.fields.ElementFields.{ElementFields}
use Rattle.lx_node.specs.declared.fields.TextFields.{TextFields}
use Rattle.lx_node.specs.declared.fields.Extra.{Extra}
use Rattle.lx_node.specs.declared.fields.Extra.TheVariants as extra
use Rattle.lx_node.specs.declared.fields.Fields.{Fields}
use Rattle.lx_node.specs.declared.fields.Fields.TheVariants as fields
use Rattle.lx_fields.specs.declared.words.Name.{Name}
use Rattle.lx_fields.specs.Documents.{fields_given, document_fields, default_fields, default_extra, fields_with, given_by, or_bad, takes}
use Rattle.lx_fields.specs.Words.{names}
use Rattle.lx_fields.specs.Exporting.{node_data, field_members, kind_members, node_members}
use Rattle.lx_fields.specs.Storable.{IsElementStorable, IsTextStorable, IsStorable}
use Rattle.lx_fields.proofs.Written.{found, first_true, second_true}
use Rattle.lx_fields.proofs.Exported.{told_of}
use Rattle.lx_fields.proofs.Back.{Gives, told, direction_given, align_given, indent_given, text_format_given, text_style_given, tag_given, list_type_given, start_given, checked_given, value_given, rel_given, target_given, title_given, url_given, background_given, columns_given, header_given, rows_given, detail_given, format_given, mode_given, style_given, text_given, source_given}

-- ---- the members that a kind has

-- those of these rows that the kind has
abbrev taken : Kind → List (List ℕ × Name) → List (List ℕ × Name)
taken kind [] = []
taken kind (row ∷ rows) = if takes kind row.1 then row ∷ taken kind rows else taken kind rows

-- the fields with what all of these members give
abbrev read_in : Kind → (List ℕ → Option Data) → List (List ℕ × Name) → Fields → Result Fields (List ℕ)
read_in kind find [] old = Ok old
read_in kind find (row ∷ rows) old = or_bad row.0 (read_in kind find rows) (given_by kind row.1 (find row.0) old)

or_bad_alike : (text : List ℕ) (f g : Fields → Result Fields (List ℕ)) → ((x : Fields) → f x ≡ g x) → (o : Option Fields) → or_bad text f o ≡ or_bad text g o
or_bad_alike text f g alike None = refl
or_bad_alike text f g alike (Some x) = alike x

-- of an object what is found counts alone, and of the rows those that the kind has
reads_alike : (kind : Kind) (find other : List ℕ → Option Data) → ((name : List ℕ) → find name ≡ other name) → (rows : List (List ℕ × Name)) (old : Fields)
    → fields_with kind rows find old ≡ read_in kind other (taken kind rows) old
reads_alike kind find other same [] old = refl
reads_alike kind find other same (row ∷ rows) old =
    let go_on = fields_with kind rows find in
    let rest = taken kind rows in
    elim (takes kind row.1) as
    (λ has. (if has then or_bad row.0 go_on (given_by kind row.1 (find row.0) old) else go_on old)
    ≡ read_in kind other (if has then row ∷ rest else rest) old) [
      | true ↦ ap (λ o. or_bad row.0 go_on (given_by kind row.1 o old)) (same row.0)
          ∙ or_bad_alike row.0 go_on (read_in kind other rest) (reads_alike kind find other same rows) (given_by kind row.1 (other row.0) old)
      | false ↦ reads_alike kind find other same rows old
    ]

-- ---- reading on

-- what these rows give leads from the one fields to the other
record Reads (kind : Kind) (find : List ℕ → Option Data) (rows : List (List ℕ × Name)) (old new : Fields) : Type 0 where
  same : read_in kind find rows old ≡ Ok new

infixr 20 ◌▸◌
◌▸◌ : {kind : Kind} {find : List ℕ → Option Data} {text : List ℕ} {known : Name} {rows : List (List ℕ × Name)} {old mid new : Fields}
    → Gives kind known (find text) old mid → Reads kind find rows mid new → Reads kind find ((text, known) ∷ rows) old new
◌▸◌ {kind = kind} {find = find} {text = text} {rows = rows} given rest = record { same = ap (or_bad text (read_in kind find rows)) given.same ∙ rest.same }

end : {kind : Kind} {find : List ℕ → Option Data} {new : Fields} → Reads kind find [] new new
end = record { same = refl }

-- what a node's members are by their names
abbrev named_in : Kind → Fields → Items → List ℕ → Option Data
named_in kind f below name = found name (node_members kind f below) (found name (kind_members kind) (found name (field_members kind f) None))

-- fields are read from what is written for them
abbrev ReadsBack : Kind → Fields → Items → Type 0
ReadsBack kind f below = Reads kind (named_in kind f below) (taken kind names) (default_fields kind) f

never : {A : Type 0} → false ≡ true → A
never is = absurd (cc)

-- ---- elements

element_back : (kind : Kind) (e : ElementFields) (x : Extra) (below : Items) → IsTrue (is_possible kind) → is_element kind ≡ true
    → IsTrue (is_extra_of kind x) → IsElementStorable (record e { extra = x })
    → ReadsBack kind (fields.Element (record e { extra = x })) below
unfolding takes is_element is_text is_heading is_list is_item is_link is_cell is_embed has_characters default_fields default_extra is_possible is_extra_of
    is_plain is_list_extra is_item_extra is_link_extra is_cell_extra
element_back kind.Text e x below possible element of stored = never element
element_back kind.Tab e x below possible element of stored = never element
element_back kind.Break e x below possible element of stored = never element
element_back kind.Rule e x below possible element of stored = never element
element_back kind.Embed e x below possible element of stored = never element
element_back (kind.Heading level) e extra.Plain below possible element of stored =
    direction_given e.direction refl ▸ align_given e.format refl ▸ indent_given e.indent refl stored.indent ▸ tag_given level possible
    ▸ text_format_given e.text_format refl stored.text_format ▸ text_style_given e.text_style refl stored.text_style ▸ end
element_back (kind.List type) e (extra.List start) below possible element of stored =
    direction_given e.direction refl ▸ align_given e.format refl ▸ indent_given e.indent refl stored.indent ▸ list_type_given type ▸ start_given start of
    ▸ text_format_given e.text_format refl stored.text_format ▸ text_style_given e.text_style refl stored.text_style ▸ end
element_back kind.Item e (extra.Item value checked) below possible element of stored =
    checked_given checked ▸ direction_given e.direction refl ▸ align_given e.format refl ▸ indent_given e.indent refl stored.indent
    ▸ text_format_given e.text_format refl stored.text_format ▸ text_style_given e.text_style refl stored.text_style ▸ value_given value of ▸ end
element_back kind.Link e (extra.Link rel target title url) below possible element of stored =
    direction_given e.direction refl ▸ align_given e.format refl ▸ indent_given e.indent refl stored.indent ▸ rel_given rel stored.extra.of_rel
    ▸ target_given target stored.extra.of_target
    ▸ text_format_given e.text_format refl stored.text_format ▸ text_style_given e.text_style refl stored.text_style
    ▸ title_given title stored.extra.of_title ▸ url_given url stored.extra.of_url ▸ end
element_back kind.Cell e (extra.Cell header rows columns background) below possible element of stored =
    let spans = second_true (leb header 3) (is_span rows && is_span columns) of in
    background_given background stored.extra ▸ columns_given columns (second_true (is_span rows) (is_span columns) spans) ▸ direction_given e.direction refl
    ▸ align_given e.format refl
    ▸ header_given header (first_true (leb header 3) (is_span rows && is_span columns) of) ▸ indent_given e.indent refl stored.indent
    ▸ rows_given rows (first_true (is_span rows) (is_span columns) spans)
    ▸ text_format_given e.text_format refl stored.text_format ▸ text_style_given e.text_style refl stored.text_style ▸ end
element_back (kind.List type) e x below possible element of stored = absurd (cc)
element_back kind.Item e x below possible element of stored = absurd (cc)
element_back kind.Link e x below possible element of stored = absurd (cc)
element_back kind.Cell e x below possible element of stored = absurd (cc)
element_back _ e extra.Plain below possible element of stored =
    direction_given e.direction refl ▸ align_given e.format refl ▸ indent_given e.indent refl stored.indent
    ▸ text_format_given e.text_format refl stored.text_format ▸ text_style_given e.text_style refl stored.text_style ▸ end
element_back _ e x below possible element of stored = absurd (cc)

-- ---- texts, tabs and leaves

text_back : (t : TextFields) (below : Items) → IsTrue (leb t.detail 3) → IsTextStorable t → ReadsBack kind.Text (fields.Text t) below
unfolding takes is_element is_text is_heading is_list is_item is_link is_cell is_embed has_characters default_fields
text_back t below range stored =
    detail_given t.detail range ▸ format_given t.format refl stored.format ▸ mode_given t.mode ▸ style_given t.style refl stored.style
    ▸ text_given t.text stored.text ▸ end

tab_reads : (t : TextFields) (below : Items) → IsTextStorable t
    → Reads kind.Tab (named_in kind.Tab (fields.Text t) below) (taken kind.Tab names) (default_fields kind.Tab) (told (9 ∷ []) t.format 2 mode.Normal t.style)
unfolding takes is_element is_text is_heading is_list is_item is_link is_cell is_embed has_characters default_fields
tab_reads t below stored = format_given t.format refl stored.format ▸ style_given t.style refl stored.style ▸ end

-- a tab has its own text, detail and mode
tab_told : (text : List ℕ) (format detail : ℕ) (m : Mode) (style : List ℕ) → IsTrue (is_tab_text text) → IsTrue (eqb detail 2) → IsTrue (is_normal m)
    → told (9 ∷ []) format 2 mode.Normal style ≡ told text format detail m style
unfolding is_tab_text is_normal
tab_told [] format detail m style of_text of_detail of_mode = absurd (cc)
tab_told (c ∷ d ∷ text) format detail m style of_text of_detail of_mode = absurd (cc)
tab_told (c ∷ []) format detail mode.Token style of_text of_detail of_mode = absurd (cc)
tab_told (c ∷ []) format detail mode.Segmented style of_text of_detail of_mode = absurd (cc)
tab_told (c ∷ []) format detail mode.Normal style of_text of_detail of_mode =
    ap (λ c. told (c ∷ []) format 2 mode.Normal style) (sym (eqb-true c 9 of_text))
    ∙ ap (λ n. told (c ∷ []) format n mode.Normal style) (sym (eqb-true detail 2 of_detail))

tab_back : (t : TextFields) (below : Items) → IsTrue (are_tab_fields t) → IsTextStorable t → ReadsBack kind.Tab (fields.Text t) below
unfolding are_tab_fields
tab_back t below of stored =
    let rest = second_true (is_tab_text t.text) (eqb t.detail 2 && is_normal t.mode) of in
    let is = tab_told t.text t.format t.detail t.mode t.style (first_true (is_tab_text t.text) (eqb t.detail 2 && is_normal t.mode) of)
    (first_true (eqb t.detail 2) (is_normal t.mode) rest) (second_true (eqb t.detail 2) (is_normal t.mode) rest) in
    record { same = (tab_reads t below stored).same ∙ ap (λ f. Ok f) is }

-- ---- all kinds

fitting_back : (kind : Kind) (f : Fields) (below : Items) → IsTrue (is_possible kind) → IsTrue (fits_kind kind f) → IsStorable f → ReadsBack kind f below
unfolding fits_kind is_element_of is_text_of are_text_fields are_embed_fields are_bare is_element takes is_text is_heading is_list is_item is_link is_cell
    is_embed has_characters default_fields
fitting_back kind.Text (fields.Text t) below possible of stored = text_back t below of stored
fitting_back kind.Text f below possible of stored = absurd (cc)
fitting_back kind.Tab (fields.Text t) below possible of stored = tab_back t below of stored
fitting_back kind.Tab f below possible of stored = absurd (cc)
fitting_back kind.Break fields.Bare below possible of stored = end
fitting_back kind.Break f below possible of stored = absurd (cc)
fitting_back kind.Rule fields.Bare below possible of stored = end
fitting_back kind.Rule f below possible of stored = absurd (cc)
fitting_back kind.Embed (fields.Embed source) below possible of stored = source_given source stored ▸ end
fitting_back kind.Embed f below possible of stored = absurd (cc)
fitting_back kind (fields.Element e) below possible of stored = element_back kind e e.extra below possible refl of stored
fitting_back kind f below possible of stored = absurd (cc)

-- what is written for fields of a kind gives those fields
pub reads_back : (kind : Kind) (f : Fields) (below : Items) → IsOfKind kind f → IsStorable f → document_fields kind (node_data kind f below) ≡ Ok f
unfolding document_fields fields_given is_of_kind
reads_back kind f below of stored =
    let read = fitting_back kind f below (first_true (is_possible kind) (fits_kind kind f) of) (second_true (is_possible kind) (fits_kind kind f) of) stored in
    reads_alike kind (λ name. get name (node_data kind f below)) (named_in kind f below) (λ name. told_of name kind f below) names (default_fields kind)
    ∙ read.same

-- the same of any data that is what is written
pub reads_back_from : (kind : Kind) (f : Fields) (below : Items) (d : Data) → d ≡ node_data kind f below → IsOfKind kind f → IsStorable f
    → document_fields kind d ≡ Ok f
reads_back_from kind f below d is of stored = ap (document_fields kind) is ∙ reads_back kind f below of stored
