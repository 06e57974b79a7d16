-- Edits of texts that are made of others: a text cut in pieces, two texts joined, and a text joined with what is around
-- it.
use Rattle.std.specs.Prelude.{ℕ, ◌+◌, ◌-◌, ◌==◌, ◌&&◌, Bool, true, false, nat_lt, if◌then◌else◌, List, [], ◌∷◌, zero, suc, Option, None, Some, Result, Ok}
use Rattle.lx_node.specs.declared.kind.Kind.TheVariants.{Text}
use Rattle.lx_node.specs.declared.fields.Fields.{Fields}
use Rattle.lx_node.specs.declared.fields.Fields.TheVariants as fields
use Rattle.lx_node.specs.declared.fields.TextFields.{TextFields}
use Rattle.lx_node.specs.Same.{same_text}
use Rattle.lx_node.specs.OfKind.{is_normal}
use Rattle.lx_node.specs.declared.cause.Cause.{Cause}
use Rattle.lx_text.specs.Texts.{slice_of}
use Rattle.lx_select.specs.Rules.{split_moves, join_moves}
use Rattle.lx_forest.specs.Forest.{Forest}
use Rattle.lx_forest.specs.Lookups.{label_of, previous_of, next_of}
use Rattle.lx_links.specs.Faults.{unknown}
use Rattle.lx_node.specs.Limits.{most_counts}
use Rattle.lx_draft.specs.Working.{Working}
use Rattle.lx_draft.specs.Selecting.{length_told}
use Rattle.lx_draft.specs.Faults.{answer, after, text_in, splice_fault}
use Rattle.lx_draft.specs.Steps.{text_replaced, new_step, splice_step, take_step}
use Rattle.lx_draft.specs.Beside.{put_behind_step}
use Rattle.lx_edit.specs.declared.around.Found.{Found}
use Rattle.lx_edit.specs.declared.around.Found.TheVariants.{Nothing, Empty, Alike}
pub use Rattle.lx_edit.specs.Conditions.{text_or_none}
use Rattle.lx_edit.specs.Conditions.{length_at, split_fault, join_fault}
use Rattle.lx_edit.specs.Edits.{pointed, remove_step}

-- ---- split

-- the fields of a text, with what comes after an offset
abbrev pub tail_in : Option TextFields → ℕ → Fields
tail_in None offset = fields.Bare
tail_in (Some text) offset = text_replaced text (slice_of offset (length_told text.text) text.text)

-- the fields of a node's text, with what comes after an offset
abbrev pub tail_of : Forest → ℕ → ℕ → Fields
tail_of f k offset = tail_in (text_in (label_of f k)) offset

-- a new text gets what comes after an offset, and the points there
unfoldable pub tail_made : ℕ → ℕ → Working → Result Working Cause
tail_made k offset w =
    after (answer (splice_fault k offset (length_at w.forest k) w.forest) w) (λ v.
    after (new_step Text (tail_of v.forest k offset) v) (λ made. Ok (pointed (split_moves k offset v.next_key) made)))

-- the text after an offset is cut off, and a new text with it is put right after
unfoldable pub cut_in_two : ℕ → ℕ → Working → Result Working Cause
cut_in_two k offset w =
    after (tail_made k offset w) (λ made.
    after (splice_step k offset (length_at w.forest k) [] made) (put_behind_step w.next_key k))

-- the last piece so far, which begins at an offset of the whole, is cut at each of the others
abbrev pub cut_at : ℕ → ℕ → List ℕ → Working → Result Working Cause
cut_at piece start [] w = Ok w
cut_at piece start (o ∷ rest) w = after (cut_in_two piece (o - start) w) (cut_at w.next_key o rest)

-- a text cut at these offsets, unless that is refused
unfoldable pub split_step : ℕ → List ℕ → Working → Result Working Cause
split_step k offsets w = after (answer (split_fault k offsets w.forest) w) (cut_at k 0 offsets)

-- so many keys from this one on
abbrev pub keys_from : ℕ → ℕ → List ℕ
keys_from k zero = []
keys_from k (suc n) = k ∷ keys_from (k + 1) n

-- ---- join

-- the second's text goes after the first's, with the points there, and the second is taken out
abbrev pub texts_joined : ℕ → ℕ → Working → Result Working Cause
texts_joined first second w =
    let end : ℕ = length_at w.forest first in
    after (splice_step first end end (text_or_none (text_in (label_of w.forest second))) w)
    (λ v. take_step second (pointed (join_moves first end second) v))

-- two texts joined, unless that is refused
unfoldable pub join_step : ℕ → ℕ → Working → Result Working Cause
join_step first second w = after (answer (join_fault first second w.forest) w) (texts_joined first second)

-- ---- the join step

-- a text that may be joined with one like it: of normal mode, and not unmergeable
abbrev pub is_simple : TextFields → Bool
is_simple text = is_normal text.mode && nat_lt text.detail 2

-- the text, if it is such a one
abbrev pub if_simple : Option TextFields → Option TextFields
if_simple None = None
if_simple (Some text) = if is_simple text then Some text else None

-- the fields of a node, if it is such a text
abbrev pub simple_at : Forest → ℕ → Option TextFields
simple_at f k = if_simple (text_in (label_of f k))

-- there are no characters
abbrev pub has_no_text : List ℕ → Bool
has_no_text [] = true
has_no_text (c ∷ text) = false

-- what a simple text finds in another node: a simple text that is empty, one of its format and style, or neither
abbrev pub found_in : ℕ → TextFields → Option TextFields → Found
found_in other own None = Nothing
found_in other own (Some text) =
    if has_no_text text.text then Empty other
    else if own.format == text.format && same_text own.style text.style then Alike other
    else Nothing

-- what the one node finds in the other, where either may be missing
abbrev pub found_by : Forest → Option ℕ → Option TextFields → Found
found_by f (Some other) (Some own) = found_in other own (simple_at f other)
found_by f _ _ = Nothing

-- what a text finds in the node right before it
abbrev pub found_before : Forest → ℕ → Found
found_before f k = found_by f (previous_of f k) (simple_at f k)

-- what a text finds in the node right after it
abbrev pub found_behind : Forest → ℕ → Found
found_behind f k = found_by f (next_of f k) (simple_at f k)

-- each removal and each joining takes a count, so that there are never so many
abbrev pub enough : ℕ
enough = suc most_counts

-- again and again: an empty text right after is removed, and one like this is joined to it
abbrev pub joined_behind : Found → ℕ → (Working → Result Working Cause) → Working → Result Working Cause
joined_behind Nothing k again w = Ok w
joined_behind (Empty other) k again w = after (remove_step other w) again
joined_behind (Alike other) k again w = after (join_step k other w) again

-- a text joined with what comes after it, at most so many times
unfoldable pub join_on : ℕ → ℕ → Working → Result Working Cause
join_on zero k w = Ok w
join_on (suc n) k w = joined_behind (found_behind w.forest k) k (join_on n k) w

-- again and again: an empty text right before is removed, one like this joined to it, of which the earlier goes on;
-- then what comes after
abbrev pub joined_before : Found → ℕ → (ℕ → Working → Result Working Cause) → (Working → Result Working Cause) → Working → Result Working Cause
joined_before Nothing k again last w = last w
joined_before (Empty other) k again last w = after (remove_step other w) (again k)
joined_before (Alike other) k again last w = after (join_step other k w) (again other)

-- a text joined with what comes before it, at most so many times, and then with what comes after
unfoldable pub join_back : ℕ → ℕ → Working → Result Working Cause
join_back zero k w = Ok w
join_back (suc n) k w = joined_before (found_before w.forest k) k (join_back n) (join_on enough k) w

-- whether a simple text is empty, if it is one
abbrev pub emptiness : Option TextFields → Option Bool
emptiness None = None
emptiness (Some text) = Some (has_no_text text.text)

-- a simple text that is empty is removed, another is joined with what is around it, and any other node stays
abbrev pub join_simple : Option Bool → ℕ → Working → Result Working Cause
join_simple None k w = Ok w
join_simple (Some true) k w = remove_step k w
join_simple (Some false) k w = join_back enough k w

-- a simple text joined with what comes before it and then with what comes after, or removed where it is empty
abbrev pub joined_around : ℕ → Working → Result Working Cause
joined_around k w = join_simple (emptiness (simple_at w.forest k)) k w

-- any node that is there joined with what is around it, if it is a simple text
unfoldable pub join_around_step : ℕ → Working → Result Working Cause
join_around_step k w = after (answer (unknown w.forest k) w) (joined_around k)
