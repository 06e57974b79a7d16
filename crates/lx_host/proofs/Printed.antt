-- The HTML of hosts, one after another.
use Rattle.std.proofs.Common.{None, Some, ◌≡◌, ℕ, true, false, List, [], ◌++◌, refl, sym, ap, ◌∙◌, append_assoc}
use Rattle.std.proofs.lemmas.List.{append-nil}
use Rattle.lx_trees.specs.Trees.{Trees, nil, tree, joined}
use Rattle.lx_host.specs.declared.tag.Name.{Name}
use Rattle.lx_host.specs.declared.tag.Tag.{Tag}
use Rattle.lx_host.specs.declared.tag.Tag.TheVariants.{Div, P, H1, H2, H3, H4, H5, H6, Blockquote, Ul, Ol, Li, A, Table, Tr, Th, Td, Br, Hr, Inline}
use Rattle.lx_host.specs.Hosts.{Host, Face, shape_of}
use Rattle.lx_host.specs.Html.{start_tag, end_tag, host_html, inside_html, ending_html, html_of}
use Rattle.lx_host.specs.Pieces.{is_void, opening, closing}
use Rattle.lx_host.specs.Words.{inner_word, outer_word, tag_word}
use Rattle.lx_host.proofs.Pages.{behind}

pub html_of-joined : (s t : Trees Host) → html_of (shape_of (joined s t)) ≡ html_of (shape_of s) ++ html_of (shape_of t)
unfolding html_of
html_of-joined nil t = refl
html_of-joined (tree host below rest) t =
    let first = host_html host.face.tag host.face.attrs (inside_html host.face.text (html_of (shape_of below)) ++ ending_html host.face.ending) in
    ap (λ html. first ++ html) (html_of-joined rest t) ∙ sym (append_assoc first (html_of (shape_of rest)) (html_of (shape_of t)))

-- ---- the pieces of a host

void_html : (tag : Tag) (attributes : List (Name × List ℕ)) (inside : List ℕ) → is_void tag ≡ true → opening tag attributes ≡ host_html tag attributes inside
unfolding opening host_html tag_word
void_html Br attributes inside void = refl
void_html Hr attributes inside void = refl
void_html (Inline outer inner) attributes inside void = cc
void_html Div attributes inside void = cc
void_html P attributes inside void = cc
void_html H1 attributes inside void = cc
void_html H2 attributes inside void = cc
void_html H3 attributes inside void = cc
void_html H4 attributes inside void = cc
void_html H5 attributes inside void = cc
void_html H6 attributes inside void = cc
void_html Blockquote attributes inside void = cc
void_html Ul attributes inside void = cc
void_html Ol attributes inside void = cc
void_html Li attributes inside void = cc
void_html A attributes inside void = cc
void_html Table attributes inside void = cc
void_html Tr attributes inside void = cc
void_html Th attributes inside void = cc
void_html Td attributes inside void = cc

nested : (a b inside c d : List ℕ) → a ++ b ++ inside ++ (c ++ d) ≡ a ++ (b ++ inside ++ c) ++ d
nested a b inside c d = simp append_assoc

full_html : (tag : Tag) (attributes : List (Name × List ℕ)) (inside : List ℕ) → is_void tag ≡ false
    → opening tag attributes ++ inside ++ closing tag ≡ host_html tag attributes inside
unfolding opening closing host_html tag_word
full_html Br attributes inside full = cc
full_html Hr attributes inside full = cc
full_html (Inline None inner) attributes inside full = refl
full_html (Inline (Some outer) inner) attributes inside full =
    nested (start_tag (outer_word outer) attributes) (start_tag (inner_word inner) []) inside (end_tag (inner_word inner)) (end_tag (outer_word outer))
full_html Div attributes inside full = refl
full_html P attributes inside full = refl
full_html H1 attributes inside full = refl
full_html H2 attributes inside full = refl
full_html H3 attributes inside full = refl
full_html H4 attributes inside full = refl
full_html H5 attributes inside full = refl
full_html H6 attributes inside full = refl
full_html Blockquote attributes inside full = refl
full_html Ul attributes inside full = refl
full_html Ol attributes inside full = refl
full_html Li attributes inside full = refl
full_html A attributes inside full = refl
full_html Table attributes inside full = refl
full_html Tr attributes inside full = refl
full_html Th attributes inside full = refl
full_html Td attributes inside full = refl

-- ---- one host

html_of_one : (face : Face) (inside : Trees Face)
    → host_html face.tag face.attrs (inside_html face.text (html_of inside) ++ ending_html face.ending) ≡ html_of (tree face inside nil)
unfolding html_of
html_of_one face inside =
    sym (append-nil (host_html face.tag face.attrs (inside_html face.text (html_of inside) ++ ending_html face.ending)))

-- the trees t are one host, which shows this face, with these trees below
pub record IsOne (face : Face) (below t : Trees Host) : Type 0 where
  pub shape : shape_of t ≡ tree face (shape_of below) nil

-- the HTML of one host, however what is inside was found
module _ (page : List ℕ) {face : Face} {below t : Trees Host} (one : IsOne face below t) where
  printed : (html : List ℕ) → html ≡ host_html face.tag face.attrs (inside_html face.text (html_of (shape_of below)) ++ ending_html face.ending)
      → page ++ html ≡ page ++ html_of (shape_of t)
  printed html e = ap (λ end. page ++ end) (e ∙ html_of_one face (shape_of below) ∙ sym (ap html_of one.shape))

  -- a start alone
  pub void_printed : {opened : List ℕ} → is_void face.tag ≡ true → opened ≡ page ++ opening face.tag face.attrs → opened ≡ page ++ html_of (shape_of t)
  void_printed void start = start ∙ printed (opening face.tag face.attrs) (void_html face.tag face.attrs _ void)

  -- a start, what is inside, a line break if there is one, and an end
  pub full_printed : {opened filled ended closed : List ℕ} → is_void face.tag ≡ false → opened ≡ page ++ opening face.tag face.attrs
      → filled ≡ opened ++ inside_html face.text (html_of (shape_of below)) → ended ≡ filled ++ ending_html face.ending → closed ≡ ended ++ closing face.tag
      → closed ≡ page ++ html_of (shape_of t)
  full_printed full start inside ending end =
      let A = opening face.tag face.attrs in
      let I = inside_html face.text (html_of (shape_of below)) in
      let E = ending_html face.ending in
      let C = closing face.tag in
      behind page (A ++ (I ++ E)) C (behind page A (I ++ E) start (behind _ I E inside ending)) end
      ∙ printed (A ++ (I ++ E) ++ C) (full_html face.tag face.attrs (I ++ E) full)
