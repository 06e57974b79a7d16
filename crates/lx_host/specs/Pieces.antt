-- The pieces in which the HTML of a host is written: how it begins, and how it ends.
use Rattle.std.specs.Prelude.{ℕ, ◌++◌, Bool, true, false, List, [], Option, None, Some}
use Rattle.lx_host.specs.Html.{start_tag, end_tag}
use Rattle.lx_host.specs.Words.{inner_word, outer_word, tag_word}
use Rattle.lx_host.specs.declared.tag.Inner.{Inner}
use Rattle.lx_host.specs.declared.tag.Outer.{Outer}
use Rattle.lx_host.specs.declared.tag.Name.{Name}
use Rattle.lx_host.specs.declared.tag.Tag.{Tag}
use Rattle.lx_host.specs.declared.tag.Tag.TheVariants.{Br, Hr, Inline}

-- how one element begins, or two, one in the other
abbrev pub inline_opening : Option Outer → Inner → List (Name × List ℕ) → List ℕ
inline_opening None inner attributes = start_tag (inner_word inner) attributes
inline_opening (Some outer) inner attributes = start_tag (outer_word outer) attributes ++ start_tag (inner_word inner) []

-- how one element ends, or two, one in the other: the inner one first
abbrev pub inline_closing : Option Outer → Inner → List ℕ
inline_closing None inner = end_tag (inner_word inner)
inline_closing (Some outer) inner = end_tag (inner_word inner) ++ end_tag (outer_word outer)

-- what comes before what is inside a host
unfoldable pub opening : Tag → List (Name × List ℕ) → List ℕ
opening (Inline outer inner) attributes = inline_opening outer inner attributes
opening tag attributes = start_tag (tag_word tag) attributes

-- what comes after what is inside a host
unfoldable pub closing : Tag → List ℕ
closing (Inline outer inner) = inline_closing outer inner
closing tag = end_tag (tag_word tag)

-- whether there is nothing inside, and no end
abbrev pub is_void : Tag → Bool
is_void Br = true
is_void Hr = true
is_void tag = false
