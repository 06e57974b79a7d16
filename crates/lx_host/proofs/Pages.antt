-- What a page holds after pieces were written one after another.
use Rattle.std.proofs.Common.{◌≡◌, ℕ, Option, None, Some, List, [], ◌∷◌, ◌++◌, refl, sym, ap, ◌∙◌, append_assoc}
use Rattle.std.proofs.lemmas.Bool.{ne_eqb}
use Rattle.std.proofs.lemmas.List.{append-nil}
use Rattle.std.proofs.lemmas.Str.{chars-nil, chars_past_char, IsUtf8-encode}
use Rattle.std.specs.Char.{IsScalar}
use Rattle.std.specs.Str.{chars}
use Rattle.std.proofs.Math.Utf8.{encode}
use Rattle.lx_host.specs.Html.{escaped, start_tag, end_tag}
use Rattle.lx_host.specs.Pieces.{opening, closing}
use Rattle.lx_host.specs.Words.{inner_word, outer_word, tag_word, name_word}
use Rattle.lx_host.specs.declared.tag.Inner.{Inner}
use Rattle.lx_host.specs.declared.tag.Inner.TheVariants.{Strong, Em, Span}
use Rattle.lx_host.specs.declared.tag.Outer.{Outer}
use Rattle.lx_host.specs.declared.tag.Outer.TheVariants.{Code, Mark, Sub, Sup}
use Rattle.lx_host.specs.declared.tag.Name.{Name}
use Rattle.lx_host.specs.declared.tag.Name.TheVariants.{AriaChecked, Class, ColSpan, DataAlign, DataBg, DataIndent, DataLexicalDecorator, DataLexicalText, DataSrc, Dir, Href, Rel, Role, RowSpan, Start, Style, Target, Title, Value}
use Rattle.lx_host.specs.declared.tag.Tag.{Tag}
use Rattle.lx_host.specs.declared.tag.Tag.TheVariants.{Div, P, H1, H2, H3, H4, H5, H6, Blockquote, Ul, Ol, Li, A, Table, Tr, Th, Td, Br, Hr, Inline}

-- ---- words are ASCII

pub chars-inner_word : (inner : Inner) → chars (inner_word inner) ≡ inner_word inner
unfolding chars
chars-inner_word Strong = refl
chars-inner_word Em = refl
chars-inner_word Span = refl

pub chars-outer_word : (outer : Outer) → chars (outer_word outer) ≡ outer_word outer
unfolding chars
chars-outer_word Code = refl
chars-outer_word Mark = refl
chars-outer_word Sub = refl
chars-outer_word Sup = refl

pub chars-name_word : (name : Name) → chars (name_word name) ≡ name_word name
unfolding chars name_word
chars-name_word AriaChecked = refl
chars-name_word Class = refl
chars-name_word ColSpan = refl
chars-name_word DataAlign = refl
chars-name_word DataBg = refl
chars-name_word DataIndent = refl
chars-name_word DataLexicalDecorator = refl
chars-name_word DataLexicalText = refl
chars-name_word DataSrc = refl
chars-name_word Dir = refl
chars-name_word Href = refl
chars-name_word Rel = refl
chars-name_word Role = refl
chars-name_word RowSpan = refl
chars-name_word Start = refl
chars-name_word Style = refl
chars-name_word Target = refl
chars-name_word Title = refl
chars-name_word Value = refl

-- ---- characters

pub escaped_other : (c : ℕ) → (c ≡ 38 → ⊥) → (c ≡ 60 → ⊥) → (c ≡ 62 → ⊥) → (c ≡ 34 → ⊥) → escaped c ≡ c ∷ []
escaped_other c and less greater quote =
    rw (ne_eqb c 38 and, ne_eqb c 60 less, ne_eqb c 62 greater, ne_eqb c 34 quote) refl

pub chars_of_one : (c : ℕ) → IsScalar c → chars (encode c) ≡ c ∷ []
chars_of_one c is =
    chars_past_char (encode c) [] c (IsUtf8-encode c is) (sym (append-nil (encode c))) ∙ ap (λ rest. c ∷ rest) chars-nil

-- ---- pieces, one after another

pub behind : {q r : List ℕ} (p a b : List ℕ) → q ≡ p ++ a → r ≡ q ++ b → r ≡ p ++ (a ++ b)
behind p a b first second = second ∙ ap (λ page. page ++ b) first ∙ append_assoc p a b

-- ---- a host of one element

chars-tag_word : (tag : Tag) → chars (tag_word tag) ≡ tag_word tag
unfolding chars tag_word
chars-tag_word (Inline None Strong) = refl
chars-tag_word (Inline None Em) = refl
chars-tag_word (Inline None Span) = refl
chars-tag_word (Inline (Some Code) Strong) = refl
chars-tag_word (Inline (Some Code) Em) = refl
chars-tag_word (Inline (Some Code) Span) = refl
chars-tag_word (Inline (Some Mark) Strong) = refl
chars-tag_word (Inline (Some Mark) Em) = refl
chars-tag_word (Inline (Some Mark) Span) = refl
chars-tag_word (Inline (Some Sub) Strong) = refl
chars-tag_word (Inline (Some Sub) Em) = refl
chars-tag_word (Inline (Some Sub) Span) = refl
chars-tag_word (Inline (Some Sup) Strong) = refl
chars-tag_word (Inline (Some Sup) Em) = refl
chars-tag_word (Inline (Some Sup) Span) = refl
chars-tag_word Div = refl
chars-tag_word P = refl
chars-tag_word H1 = refl
chars-tag_word H2 = refl
chars-tag_word H3 = refl
chars-tag_word H4 = refl
chars-tag_word H5 = refl
chars-tag_word H6 = refl
chars-tag_word Blockquote = refl
chars-tag_word Ul = refl
chars-tag_word Ol = refl
chars-tag_word Li = refl
chars-tag_word A = refl
chars-tag_word Table = refl
chars-tag_word Tr = refl
chars-tag_word Th = refl
chars-tag_word Td = refl
chars-tag_word Br = refl
chars-tag_word Hr = refl

pub opening_one : (tag : Tag) (attributes : List (Name × List ℕ)) → ((outer : Option Outer) (inner : Inner) → tag ≡ Inline outer inner → ⊥)
    → start_tag (chars (tag_word tag)) attributes ≡ opening tag attributes
unfolding opening
opening_one (Inline outer inner) attributes one = absurd (one outer inner refl)
opening_one Div attributes one = ap (λ w. start_tag w attributes) (chars-tag_word Div)
opening_one P attributes one = ap (λ w. start_tag w attributes) (chars-tag_word P)
opening_one H1 attributes one = ap (λ w. start_tag w attributes) (chars-tag_word H1)
opening_one H2 attributes one = ap (λ w. start_tag w attributes) (chars-tag_word H2)
opening_one H3 attributes one = ap (λ w. start_tag w attributes) (chars-tag_word H3)
opening_one H4 attributes one = ap (λ w. start_tag w attributes) (chars-tag_word H4)
opening_one H5 attributes one = ap (λ w. start_tag w attributes) (chars-tag_word H5)
opening_one H6 attributes one = ap (λ w. start_tag w attributes) (chars-tag_word H6)
opening_one Blockquote attributes one = ap (λ w. start_tag w attributes) (chars-tag_word Blockquote)
opening_one Ul attributes one = ap (λ w. start_tag w attributes) (chars-tag_word Ul)
opening_one Ol attributes one = ap (λ w. start_tag w attributes) (chars-tag_word Ol)
opening_one Li attributes one = ap (λ w. start_tag w attributes) (chars-tag_word Li)
opening_one A attributes one = ap (λ w. start_tag w attributes) (chars-tag_word A)
opening_one Table attributes one = ap (λ w. start_tag w attributes) (chars-tag_word Table)
opening_one Tr attributes one = ap (λ w. start_tag w attributes) (chars-tag_word Tr)
opening_one Th attributes one = ap (λ w. start_tag w attributes) (chars-tag_word Th)
opening_one Td attributes one = ap (λ w. start_tag w attributes) (chars-tag_word Td)
opening_one Br attributes one = ap (λ w. start_tag w attributes) (chars-tag_word Br)
opening_one Hr attributes one = ap (λ w. start_tag w attributes) (chars-tag_word Hr)

pub closing_one : (tag : Tag) → ((outer : Option Outer) (inner : Inner) → tag ≡ Inline outer inner → ⊥) → end_tag (chars (tag_word tag)) ≡ closing tag
unfolding closing
closing_one (Inline outer inner) one = absurd (one outer inner refl)
closing_one Div one = ap end_tag (chars-tag_word Div)
closing_one P one = ap end_tag (chars-tag_word P)
closing_one H1 one = ap end_tag (chars-tag_word H1)
closing_one H2 one = ap end_tag (chars-tag_word H2)
closing_one H3 one = ap end_tag (chars-tag_word H3)
closing_one H4 one = ap end_tag (chars-tag_word H4)
closing_one H5 one = ap end_tag (chars-tag_word H5)
closing_one H6 one = ap end_tag (chars-tag_word H6)
closing_one Blockquote one = ap end_tag (chars-tag_word Blockquote)
closing_one Ul one = ap end_tag (chars-tag_word Ul)
closing_one Ol one = ap end_tag (chars-tag_word Ol)
closing_one Li one = ap end_tag (chars-tag_word Li)
closing_one A one = ap end_tag (chars-tag_word A)
closing_one Table one = ap end_tag (chars-tag_word Table)
closing_one Tr one = ap end_tag (chars-tag_word Tr)
closing_one Th one = ap end_tag (chars-tag_word Th)
closing_one Td one = ap end_tag (chars-tag_word Td)
closing_one Br one = ap end_tag (chars-tag_word Br)
closing_one Hr one = ap end_tag (chars-tag_word Hr)
