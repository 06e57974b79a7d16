-- Why an edit is refused before it begins, the first cause in the order in which they are looked for.
use Rattle.std.specs.Prelude.{ℕ, ◌==◌, ◌&&◌, Bool, true, false, nat_lt, if◌then◌else◌, List, [], ◌∷◌, Option, None, Some, option_and_then}
use Rattle.std.specs.Option.{option_or}
use Rattle.lx_node.specs.Kinds.{is_element, is_text}
use Rattle.lx_node.specs.declared.kind.Kind.{Kind}
use Rattle.lx_node.specs.declared.fields.TextFields.{TextFields}
use Rattle.lx_node.specs.declared.cause.Cause.{Cause}
use Rattle.lx_node.specs.declared.cause.Cause.TheVariants.{BadPlace}
use Rattle.lx_forest.specs.Forest.{Forest}
use Rattle.lx_forest.specs.Lookups.{label_of, kind_of, parent_of, next_of, children_of, is_within}
use Rattle.lx_links.specs.Faults.{unknown, not_below, bound_to, misfit}
use Rattle.lx_text.specs.Texts.{length_told, is_offset}
use Rattle.lx_draft.specs.Selecting.{unlike}
use Rattle.lx_draft.specs.Faults.{text_in}

-- the kind of what a node is below
abbrev pub kind_above : Forest → ℕ → Option Kind
kind_above f k = option_and_then (kind_of f) (parent_of f k)

-- `WrongKind`, of the first of these nodes that such a parent may not hold
abbrev pub misfit_among : Forest → Option Kind → List ℕ → Option Cause
misfit_among f outer [] = None
misfit_among f outer (k ∷ ks) = option_or (misfit outer (kind_of f k)) (misfit_among f outer ks)

-- `BadPlace`, where the one has the other in its tree
abbrev pub inside : Forest → ℕ → ℕ → Option Cause
inside f k other = if is_within f k other then Some (BadPlace other) else None

-- ---- children

-- why the children of a node can't go to another, the first cause
abbrev pub children_fault : ℕ → ℕ → Forest → Option Cause
children_fault from to f =
    option_or (unknown f from) (option_or (unknown f to)
    (option_or (unlike is_element (kind_of f from)) (option_or (unlike is_element (kind_of f to))
    (option_or (inside f from to) (misfit_among f (kind_of f to) (children_of f from))))))

-- ---- one node for another

-- the second can't have the children of the first, if it is to have them
abbrev pub keep_fault : Bool → ℕ → ℕ → Forest → Option Cause
keep_fault false k with f = None
keep_fault true k with f =
    option_or (unlike is_element (kind_of f k)) (option_or (unlike is_element (kind_of f with))
    (misfit_among f (kind_of f with) (children_of f k)))

-- the second can't be where the first is
abbrev pub instead_fault : ℕ → ℕ → Forest → Option Cause
instead_fault k with f =
    option_or (unknown f k) (option_or (unknown f with)
    (option_or (not_below f k) (option_or (bound_to f k with) (misfit (kind_above f k) (kind_of f with)))))

-- why a node can't be replaced by another, the first cause
abbrev pub replace_fault : ℕ → ℕ → Bool → Forest → Option Cause
replace_fault k with keep f = option_or (instead_fault k with f) (keep_fault keep k with f)

-- why a node can't be wrapped in another, the first cause
abbrev pub wrap_fault : ℕ → ℕ → Forest → Option Cause
wrap_fault k outer f = option_or (instead_fault k outer f) (misfit (kind_of f outer) (kind_of f k))

-- why a node can't be unwrapped, the first cause
abbrev pub unwrap_fault : ℕ → Forest → Option Cause
unwrap_fault k f =
    option_or (unknown f k) (option_or (unlike is_element (kind_of f k))
    (option_or (not_below f k) (misfit_among f (kind_above f k) (children_of f k))))

-- ---- texts

-- how long the text of a node is, if it is a text
abbrev pub length_in : Option TextFields → ℕ
length_in None = 0
length_in (Some text) = length_told text.text

-- how long the text of a node is: 0 where it is no text
abbrev pub length_at : Forest → ℕ → ℕ
length_at f k = length_in (text_in (label_of f k))

-- the characters of a text: none where there is no text
abbrev pub text_or_none : Option TextFields → List ℕ
text_or_none None = []
text_or_none (Some text) = text.text

-- a place within a text: before its end, and not inside a surrogate pair
abbrev pub is_inside : ℕ → List ℕ → Bool
is_inside o text = nat_lt o (length_told text) && is_offset o text

-- the first of these offsets that isn't above the one before it and a place within the text
abbrev pub bad_offset : ℕ → List ℕ → List ℕ → Option Cause
bad_offset low text [] = None
bad_offset low text (o ∷ rest) = if nat_lt low o && is_inside o text then bad_offset o text rest else Some (BadPlace o)

-- why a text can't be cut at these offsets, the first cause
abbrev pub split_fault : ℕ → List ℕ → Forest → Option Cause
split_fault k offsets f =
    option_or (unknown f k) (option_or (unlike is_text (kind_of f k))
    (option_or (not_below f k) (bad_offset 0 (text_or_none (text_in (label_of f k))) offsets)))

-- there is a key, and it is this one
abbrev pub is_key : Option ℕ → ℕ → Bool
is_key None k = false
is_key (Some found) k = found == k

-- `BadPlace`, where the second doesn't come right after the first
abbrev pub no_next : Forest → ℕ → ℕ → Option Cause
no_next f first second = if is_key (next_of f first) second then None else Some (BadPlace second)

-- why two texts can't be joined, the first cause
abbrev pub join_fault : ℕ → ℕ → Forest → Option Cause
join_fault first second f =
    option_or (unknown f first) (option_or (unknown f second)
    (option_or (unlike is_text (kind_of f first)) (option_or (unlike is_text (kind_of f second)) (no_next f first second))))
