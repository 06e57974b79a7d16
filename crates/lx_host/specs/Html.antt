-- The HTML of what hosts show, in Unicode scalar values. The words of tags and of names are ASCII, so their bytes are
-- their characters.
use Rattle.std.specs.Prelude.{ℕ, ◌==◌, ◌++◌, Bool, if◌then◌else◌, List, [], ◌∷◌, flat_map, codes, Option, None, Some}
use Rattle.lx_trees.specs.Trees.{Trees, nil, tree}
use Rattle.lx_host.specs.Hosts.{Face}
use Rattle.lx_host.specs.Words.{inner_word, outer_word, tag_word, name_word}
use Rattle.lx_host.specs.declared.tag.Name.{Name}
use Rattle.lx_host.specs.declared.tag.Tag.{Tag}
use Rattle.lx_host.specs.declared.tag.Tag.TheVariants.{Br, Hr, Inline}

-- ---- characters and attributes

-- a character of a text or of a value: `&`, `<`, `>` and `"` are written by their names
abbrev pub escaped : ℕ → List ℕ
escaped c =
    if c == 38 then codes "&amp;" else (if c == 60 then codes "&lt;" else
    (if c == 62 then codes "&gt;" else (if c == 34 then codes "&quot;" else c ∷ [])))

-- a text, with those characters written by their names
abbrev pub text_html : List ℕ → List ℕ
text_html text = flat_map escaped text

-- a space, the name, and the value between quotes
abbrev pub attribute_html : Name × List ℕ → List ℕ
attribute_html attribute = codes " " ++ name_word attribute.0 ++ codes "=\"" ++ text_html attribute.1 ++ codes "\""

-- several attributes, one after another
abbrev pub attributes_html : List (Name × List ℕ) → List ℕ
attributes_html attributes = flat_map attribute_html attributes

-- ---- elements

-- how an element begins, with its attributes
abbrev pub start_tag : List ℕ → List (Name × List ℕ) → List ℕ
start_tag word attributes = codes "<" ++ word ++ attributes_html attributes ++ codes ">"

-- how an element ends
abbrev pub end_tag : List ℕ → List ℕ
end_tag word = codes "</" ++ word ++ codes ">"

-- an element: its start and its end around what is inside
abbrev pub element_html : List ℕ → List (Name × List ℕ) → List ℕ → List ℕ
element_html word attributes inside = start_tag word attributes ++ inside ++ end_tag word

-- a host with this inside: `br` and `hr` are their start alone, and of two elements, one in the other, the outer one
-- has the attributes
unfoldable pub host_html : Tag → List (Name × List ℕ) → List ℕ → List ℕ
host_html Br attributes inside = start_tag (codes "br") attributes
host_html Hr attributes inside = start_tag (codes "hr") attributes
host_html (Inline (Some outer) inner) attributes inside =
    element_html (outer_word outer) attributes (element_html (inner_word inner) [] inside)
host_html tag attributes inside = element_html (tag_word tag) attributes inside

-- what is inside: the text, or else the children
abbrev pub inside_html : Option (List ℕ) → List ℕ → List ℕ
inside_html None children = children
inside_html (Some text) children = text_html text

-- a line break, if one ends the host
abbrev pub ending_html : Bool → List ℕ
ending_html ending = if ending then codes "<br>" else []

-- ---- hosts

-- the HTML of shapes: of each its text or its children, with a line break after them where one ends it
unfoldable pub html_of : Trees Face → List ℕ
html_of nil = []
html_of (tree face below rest) =
    host_html face.tag face.attrs (inside_html face.text (html_of below) ++ ending_html face.ending) ++ html_of rest

-- the first tree alone, which is host 0's in a host tree
abbrev pub first_tree : {A : Type 0} → Trees A → Trees A
first_tree nil = nil
first_tree (tree a below rest) = tree a below nil
