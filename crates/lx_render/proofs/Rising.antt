-- The attributes that show a node rise by their names. Each list of them is gathered from a list of all the names that
-- may be there, in which each name comes before all those after it.
use Rattle.std.proofs.Common.{◌≡◌, ℕ, ◌+◌, ◌≤◌, ◌++◌, Bool, true, false, ◌&&◌, List, [], ◌∷◌, length, Option, None, Some, refl, subst, append_assoc, arith, codes, decimal, nat_lt}
use Rattle.std.proofs.lemmas.List.{append-nil}
use Rattle.std.specs.Cmp.Lexicographic.{slice_cmp}
use Rattle.std.specs.Ordering.{nat_cmp, is_lt}
use Rattle.lx_node.specs.declared.fields.ElementFields.{ElementFields}
use Rattle.lx_node.specs.declared.fields.Extra.{Extra}
use Rattle.lx_node.specs.declared.fields.Extra.TheVariants as extra
use Rattle.lx_node.specs.declared.fields.Fields.{Fields}
use Rattle.lx_node.specs.declared.fields.Fields.TheVariants as fields
use Rattle.lx_node.specs.declared.fields.TextFields.{TextFields}
use Rattle.lx_node.specs.declared.kind.Kind.{Kind}
use Rattle.lx_node.specs.declared.kind.Kind.TheVariants as kind
use Rattle.lx_host.specs.Words.{name_word, names_rise, AreAttributes}
use Rattle.lx_host.specs.declared.tag.Name.{Name}
use Rattle.lx_host.specs.declared.tag.Name.TheVariants.{AriaChecked, Class, ColSpan, DataAlign, DataBg, DataIndent, DataLexicalDecorator, DataLexicalText, DataSrc, Dir, Href, Rel, Role, RowSpan, Start, Style, Target, Title, Value}
use Rattle.lx_render.specs.Render.{given, first_attributes, middle_attributes, last_attributes, element_attributes, text_attributes, attributes_of, decorated, when, start_word, checked_word, role_word, span_word, align_word, direction_word, not_empty, spaced, classes_of}

-- whether a name is before another one in byte order
unfoldable is_before : Name → Name → Bool
is_before a b = is_lt (slice_cmp nat_cmp (name_word a) (name_word b))

-- names with a value or none
abbrev Entries : Type 0
Entries = List (Name × Option (List ℕ))

abbrev gathered : Entries → List (Name × List ℕ)
gathered [] = []
gathered (entry ∷ entries) = given entry.0 entry.1 ++ gathered entries

-- whether the name is before each of these
abbrev is_before_all : Name → Entries → Bool
is_before_all name [] = true
is_before_all name (entry ∷ entries) = is_before name entry.0 && is_before_all name entries

-- whether each name is before all those after it
abbrev in_order : Entries → Bool
in_order [] = true
in_order (entry ∷ entries) = is_before_all entry.0 entries && in_order entries

-- whether the name is before the first of these
abbrev is_before_first : Name → List (Name × List ℕ) → Bool
is_before_first name [] = true
is_before_first name (a ∷ attributes) = is_before name a.0

each_of : (a b : Bool) → (a && b) ≡ true → (a ≡ true) × (b ≡ true)
each_of true b h = (refl, h)
each_of false b h = absurd (grind (arith, h))

-- ---- what is gathered rises

first-given : (n m : Name) (value : Option (List ℕ)) (rest : List (Name × List ℕ)) → is_before n m ≡ true → is_before_first n rest ≡ true
    → is_before_first n (given m value ++ rest) ≡ true
first-given n m None rest before first = first
first-given n m (Some value) rest before first = before

first-gathered : (n : Name) (entries : Entries) → is_before_all n entries ≡ true → is_before_first n (gathered entries) ≡ true
first-gathered n [] all = refl
first-gathered n (entry ∷ entries) all =
    let each = each_of (is_before n entry.0) (is_before_all n entries) all in
    first-given n entry.0 entry.1 (gathered entries) each.0 (first-gathered n entries each.1)

rise-cons : (n : Name) (value : List ℕ) (rest : List (Name × List ℕ)) → is_before_first n rest ≡ true → names_rise rest ≡ true
    → names_rise ((n, value) ∷ rest) ≡ true
unfolding is_before
rise-cons n value [] first rise = refl
rise-cons n value (a ∷ rest) first rise = rw first rise

rise-given : (n : Name) (value : Option (List ℕ)) (rest : List (Name × List ℕ)) → is_before_first n rest ≡ true → names_rise rest ≡ true
    → names_rise (given n value ++ rest) ≡ true
rise-given n None rest first rise = rise
rise-given n (Some value) rest first rise = rise-cons n value rest first rise

rise-gathered : (entries : Entries) → in_order entries ≡ true → names_rise (gathered entries) ≡ true
rise-gathered [] order = refl
rise-gathered (entry ∷ entries) order =
    let each = each_of (is_before_all entry.0 entries) (in_order entries) order in
    rise-given entry.0 entry.1 (gathered entries) (first-gathered entry.0 entries each.0) (rise-gathered entries each.1)

length-given : (n : Name) (value : Option (List ℕ)) (rest : List (Name × List ℕ)) → length (given n value ++ rest) ≤ length rest + 1
length-given n None rest = omega arith
length-given n (Some value) rest = omega arith

length-gathered : (entries : Entries) → length (gathered entries) ≤ length entries
length-gathered [] = omega arith
length-gathered (entry ∷ entries) = omega (arith, length-given entry.0 entry.1 (gathered entries), length-gathered entries)

are-gathered : (entries : Entries) → in_order entries ≡ true → length entries ≤ 10 → AreAttributes (gathered entries)
are-gathered entries order few =
    record { rise = rise-gathered entries order; few = omega (arith, length-gathered entries) }

-- ---- of elements

-- Lists one after another, as an element's attributes are put together.
regroup : {X : Type 0} (a b c d e f : List X) → a ++ (b ++ (c ++ (d ++ (e ++ f)))) ≡ a ++ b ++ c ++ d ++ e ++ f
regroup a b c d e f = simp append_assoc

elements : (k : Kind) (x : Extra) (align indent direction : Option (List ℕ))
    → AreAttributes
    (first_attributes x ++ (given DataAlign align ++ (middle_attributes x ++ (given DataIndent indent ++ (given Dir direction ++ last_attributes k x)))))
unfolding is_before name_word
elements k extra.Plain align indent direction =
    are-gathered ((DataAlign, align) ∷ (DataIndent, indent) ∷ (Dir, direction) ∷ []) refl (omega arith)
elements k (extra.List start) align indent direction =
    simp append-nil at (are-gathered ((DataAlign, align) ∷ (DataIndent, indent) ∷ (Dir, direction) ∷ (Start, start_word k start) ∷ []) refl (omega arith))
elements k (extra.Item value checked) align indent direction =
    are-gathered
    ((AriaChecked, checked_word checked) ∷ (DataAlign, align) ∷ (DataIndent, indent) ∷ (Dir, direction) ∷ (Role, role_word checked)
    ∷ (Value, Some (decimal value)) ∷ []) refl (omega arith)
elements k (extra.Link rel target title url) align indent direction =
    simp append_assoc
    (simp append-nil at
    (are-gathered ((DataAlign, align) ∷ (DataIndent, indent) ∷ (Dir, direction) ∷ (Href, Some url) ∷ (Rel, rel) ∷ (Target, target) ∷ (Title, title) ∷ [])
    refl (omega arith)))
elements k (extra.Cell header row_span col_span background) align indent direction =
    simp append-nil at
    (are-gathered
    ((ColSpan, span_word col_span) ∷ (DataAlign, align) ∷ (DataBg, background) ∷ (DataIndent, indent) ∷ (Dir, direction) ∷ (RowSpan, span_word row_span)
    ∷ []) refl (omega arith))

elements_are : (k : Kind) (e : ElementFields) → AreAttributes (element_attributes k e)
elements_are k e =
    subst (λ list. AreAttributes list)
    (regroup (first_attributes e.extra) (given DataAlign (align_word e.format)) (middle_attributes e.extra)
    (given DataIndent (when (nat_lt 0 e.indent) (decimal e.indent))) (given Dir (direction_word e.direction)) (last_attributes k e.extra))
    (elements k e.extra (align_word e.format) (when (nat_lt 0 e.indent) (decimal e.indent)) (direction_word e.direction))

-- ---- of any node

of_text : (class style : Option (List ℕ)) → AreAttributes (given Class class ++ given DataLexicalText (Some (codes "true")) ++ given Style style)
unfolding is_before name_word
of_text class style =
    simp append_assoc (simp append-nil at (are-gathered ((Class, class) ∷ (DataLexicalText, Some (codes "true")) ∷ (Style, style) ∷ []) refl (omega arith)))

texts_are : (t : TextFields) → AreAttributes (text_attributes t)
texts_are t = of_text (not_empty (spaced (classes_of t.format))) (not_empty t.style)

decorated_are : AreAttributes decorated
unfolding is_before name_word
decorated_are = are-gathered ((DataLexicalDecorator, Some (codes "true")) ∷ []) refl (omega arith)

none_are : AreAttributes []
none_are = are-gathered [] refl (omega arith)

embeds_are : (source : List ℕ) → AreAttributes (decorated ++ given DataSrc (Some source))
unfolding is_before name_word
embeds_are source =
    are-gathered ((DataLexicalDecorator, Some (codes "true")) ∷ (DataSrc, Some source) ∷ []) refl (omega arith)

-- what shows a node is in order, whatever the node is
pub attributes_are : (k : Kind) (f : Fields) → AreAttributes (attributes_of k f)
attributes_are k (fields.Element e) = elements_are k e
attributes_are k (fields.Text t) = texts_are t
attributes_are k (fields.Embed source) = embeds_are source
attributes_are kind.Rule fields.Bare = decorated_are
attributes_are other fields.Bare = none_are
