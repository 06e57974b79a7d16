-- The laws of lengths, offsets and pieces. What an offset counts isn't looked at here.
use Rattle.std.proofs.Common.{◌≡◌, ◌∙◌, ℕ, ◌+◌, ◌-◌, ◌<◌, ◌≤◌, true, false, eqb, List, [], ◌++◌, None, refl, sym, ap, arith, append_assoc, append-nil}
use Rattle.std.proofs.lemmas.Bool.Decides.{nat_tests, eqb_tells}
use Rattle.lx_node.specs.Limits.{last_u32}
use Rattle.lx_text.specs.Texts.{text_length, front_of, rest_of, within, is_offset, length_told, slice_of, spliced_text, slice_fault}
use Rattle.lx_text.proofs.Places.{length-none, length-append, parts, front-length, front-start, rest-start, front-behind, rest-behind, rest-end, offset_by, offset_is, within_is}

-- ---- where a text is cut in two

pub front_at : (o : ℕ) (front back text : List ℕ) → text ≡ front ++ back → text_length front ≡ o → front_of o text ≡ front
front_at o front back text is e =
    let start : o ≡ text_length front + 0 = omega (arith, e) in
    ap (front_of o) is ∙ ap (λ n. front_of n (front ++ back)) start ∙ front-behind 0 front back ∙ ap (λ cs. front ++ cs) (front-start back) ∙ append-nil front

pub rest_at : (o : ℕ) (front back text : List ℕ) → text ≡ front ++ back → text_length front ≡ o → rest_of o text ≡ back
rest_at o front back text is e =
    let start : o ≡ text_length front + 0 = omega (arith, e) in
    ap (rest_of o) is ∙ ap (λ n. rest_of n (front ++ back)) start ∙ rest-behind 0 front back ∙ rest-start back

pub offset_at : (o : ℕ) (front back text : List ℕ) → text ≡ front ++ back → text_length front ≡ o → is_offset o text ≡ true
offset_at o front back text is e = offset_by o text (ap text_length (front_at o front back text is e) ∙ e)

pub front-joined : (front back : List ℕ) → front_of (text_length front) (front ++ back) ≡ front
front-joined front back = front_at (text_length front) front back (front ++ back) refl refl

pub rest-joined : (front back : List ℕ) → rest_of (text_length front) (front ++ back) ≡ back
rest-joined front back = rest_at (text_length front) front back (front ++ back) refl refl

-- ---- both ends

pub front-end : (o : ℕ) (text : List ℕ) → text_length text ≤ o → front_of o text ≡ text
front-end o text past = sym (append-nil (front_of o text)) ∙ ap (λ cs. front_of o text ++ cs) (sym (rest-end o text past)) ∙ parts o text

pub offset_start : (text : List ℕ) → is_offset 0 text ≡ true
offset_start text = offset_by 0 text (ap text_length (front-start text) ∙ length-none)

pub offset_end : (text : List ℕ) → is_offset (text_length text) text ≡ true
offset_end text = offset_by (text_length text) text (ap text_length (front-end (text_length text) text (omega arith)))

pub lengths : (o : ℕ) (text : List ℕ) → text_length (front_of o text) + text_length (rest_of o text) ≡ text_length text
lengths o text = sym (length-append (front_of o text) (rest_of o text)) ∙ ap text_length (parts o text)

pub offset_within : (offset : ℕ) (text : List ℕ) → is_offset offset text ≡ true → offset ≤ text_length text
offset_within offset text e = omega (arith, offset_is offset text e, lengths offset text)

-- what is left after an offset
pub rest-length : (offset : ℕ) (text : List ℕ) → is_offset offset text ≡ true → text_length (rest_of offset text) + offset ≡ text_length text
rest-length offset text e = omega (arith, offset_is offset text e, lengths offset text)

-- ---- two texts, one after the other

same_past : (a b c : ℕ) → eqb (a + b) (a + c) ≡ eqb b c
same_past a b c = grind (arith, eqb_tells (a + b) (a + c), eqb_tells b c)

pub offset-behind : (offset : ℕ) (front back : List ℕ) → is_offset (text_length front + offset) (front ++ back) ≡ is_offset offset back
unfolding is_offset
offset-behind offset front back =
    ap (λ n. eqb n (text_length front + offset))
    (within_is (text_length front + offset) (front ++ back) ∙ ap text_length (front-behind offset front back) ∙ length-append front (front_of offset back)
    ∙ ap (λ n. text_length front + n) (sym (within_is offset back)))
    ∙ same_past (text_length front) (within back offset) offset

pub offset-front : (offset : ℕ) (front back : List ℕ) → is_offset offset front ≡ true → is_offset offset (front ++ back) ≡ true
offset-front offset front back e =
    offset_at offset (front_of offset front) (rest_of offset front ++ back) (front ++ back)
    (sym (ap (λ cs. cs ++ back) (parts offset front)) ∙ append_assoc (front_of offset front) (rest_of offset front) back) (offset_is offset front e)

-- an offset of a text, in what comes before another one, and in what comes after it
pub front-further : (o from : ℕ) (text : List ℕ) → is_offset o text ≡ true → o ≤ from
    → front_of from text ≡ front_of o text ++ front_of (from - o) (rest_of o text)
front-further o from text e order =
    let here : text_length (front_of o text) ≡ o = offset_is o text e in
    let along : from ≡ text_length (front_of o text) + (from - o) = omega (arith, here, order) in
    ap (front_of from) (sym (parts o text)) ∙ ap (λ n. front_of n (front_of o text ++ rest_of o text)) along
    ∙ front-behind (from - o) (front_of o text) (rest_of o text)

pub rest-further : (o from : ℕ) (text : List ℕ) → is_offset o text ≡ true → o ≤ from → rest_of (from - o) (rest_of o text) ≡ rest_of from text
rest-further o from text e order =
    let here : text_length (front_of o text) ≡ o = offset_is o text e in
    let along : text_length (front_of o text) + (from - o) ≡ from = omega (arith, here, order) in
    sym (rest-behind (from - o) (front_of o text) (rest_of o text)) ∙ ap (λ n. rest_of n (front_of o text ++ rest_of o text)) along
    ∙ ap (rest_of from) (parts o text)

pub offset-further : (o from : ℕ) (text : List ℕ) → is_offset o text ≡ true → o ≤ from → is_offset (from - o) (rest_of o text) ≡ is_offset from text
offset-further o from text e order =
    let here : text_length (front_of o text) ≡ o = offset_is o text e in
    let along : text_length (front_of o text) + (from - o) ≡ from = omega (arith, here, order) in
    sym (offset-behind (from - o) (front_of o text) (rest_of o text)) ∙ ap (λ n. is_offset n (front_of o text ++ rest_of o text)) along
    ∙ ap (is_offset from) (parts o text)

pub offset-nearer : (o from : ℕ) (text : List ℕ) → is_offset o text ≡ true → o ≤ from → is_offset o (front_of from text) ≡ true
offset-nearer o from text e order =
    offset_at o (front_of o text) (front_of (from - o) (rest_of o text)) (front_of from text) (front-further o from text e order) (offset_is o text e)

-- ---- the last place at an offset or before it

pub within-offset : (offset : ℕ) (text : List ℕ) → is_offset (within text offset) text ≡ true
within-offset offset text =
    offset_at (within text offset) (front_of offset text) (rest_of offset text) text (sym (parts offset text)) (sym (within_is offset text))

pub within-below : (offset : ℕ) (text : List ℕ) → within text offset ≤ offset
within-below offset text = omega (arith, within_is offset text, front-length offset text)

pub within-end : (offset : ℕ) (text : List ℕ) → text_length text ≤ offset → within text offset ≡ text_length text
within-end offset text past = within_is offset text ∙ ap text_length (front-end offset text past)

pub within-last : (offset place : ℕ) (text : List ℕ) → is_offset place text ≡ true → place ≤ offset → place ≤ within text offset
within-last offset place text e order =
    let here : text_length (front_of place text) ≡ place = offset_is place text e in
    let further : within text offset ≡ text_length (front_of place text) + text_length (front_of (offset - place) (rest_of place text)) =
    within_is offset text ∙ ap text_length (front-further place offset text e order)
    ∙ length-append (front_of place text) (front_of (offset - place) (rest_of place text)) in
    omega (arith, here, further)

-- an offset that is so far past the last place
pub found_at : (offset behind : ℕ) (text : List ℕ) → within text offset + behind ≡ offset → behind ≡ 0 → true ≡ is_offset offset text
unfolding is_offset
found_at offset behind text e none = let same : within text offset ≡ offset =
    omega (arith, e, none) in grind (arith, same, eqb_tells (within text offset) offset)

pub missed_at : (offset behind : ℕ) (text : List ℕ) → within text offset + behind ≡ offset → 0 < behind → false ≡ is_offset offset text
unfolding is_offset
missed_at offset behind text e some = let other : within text offset < offset =
    omega (arith, e, some) in grind (arith, other, eqb_tells (within text offset) offset)

-- ---- the end, as an offset can say it

pub told-offset : (text : List ℕ) → is_offset (length_told text) text ≡ true
unfolding length_told
told-offset text = within-offset last_u32 text

pub told-small : (text : List ℕ) → length_told text ≤ last_u32
unfolding length_told
told-small text = within-below last_u32 text

pub told-within : (text : List ℕ) → length_told text ≤ text_length text
told-within text = offset_within (length_told text) text (told-offset text)

pub told-none : length_told [] ≡ 0
told-none = omega (arith, told-within [], length-none)

pub told-all : (text : List ℕ) → text_length text ≤ last_u32 → length_told text ≡ text_length text
unfolding length_told
told-all text few = within-end last_u32 text few

pub told-last : (offset : ℕ) (text : List ℕ) → is_offset offset text ≡ true → offset ≤ last_u32 → offset ≤ length_told text
unfolding length_told
told-last offset text e small = within-last last_u32 offset text e small

-- ---- pieces

-- between these offsets there is a piece
pub record IsPiece (from to : ℕ) (text : List ℕ) : Type 0 where
  pub in_order : from ≤ to
  pub first : is_offset from text ≡ true
  pub second : is_offset to text ≡ true

pub piece_of : (from to : ℕ) (text : List ℕ) → slice_fault text from to ≡ None → IsPiece from to text
piece_of from to text e = record { in_order = grind (arith, nat_tests, e); first = grind (arith, nat_tests, e); second = grind (arith, nat_tests, e) }

pub slice-front : (from : ℕ) (text : List ℕ) → slice_of 0 from text ≡ front_of from text
unfolding slice_of
slice-front from text = ap (λ n. front_of n (rest_of 0 text)) (omega arith) ∙ ap (front_of from) (rest-start text)

pub slice-back : (to : ℕ) (text : List ℕ) → is_offset to text ≡ true → slice_of to (text_length text) text ≡ rest_of to text
unfolding slice_of
slice-back to text e =
    let left : text_length (rest_of to text) ≤ text_length text - to = omega (arith, rest-length to text e) in
    front-end (text_length text - to) (rest_of to text) left

pub slice-whole : (text : List ℕ) → slice_of 0 (text_length text) text ≡ text
slice-whole text = slice-front (text_length text) text ∙ front-end (text_length text) text (omega arith)

pub piece-length : (from to : ℕ) (text : List ℕ) → IsPiece from to text → text_length (slice_of from to text) + from ≡ to
unfolding slice_of
piece-length from to text piece =
    let some : is_offset (to - from) (rest_of from text) ≡ true = offset-further from to text piece.first piece.in_order ∙ piece.second in
    omega (arith, offset_is (to - from) (rest_of from text) some, piece.in_order)

pub slice-length : (from to : ℕ) (text : List ℕ) → slice_fault text from to ≡ None → text_length (slice_of from to text) + from ≡ to
slice-length from to text e = piece-length from to text (piece_of from to text e)

-- the text from the first offset on is the piece, and what is from the second one on
pub rest-piece : (from to : ℕ) (text : List ℕ) → is_offset from text ≡ true → from ≤ to → rest_of from text ≡ slice_of from to text ++ rest_of to text
unfolding slice_of
rest-piece from to text e order =
    sym (parts (to - from) (rest_of from text)) ∙ ap (λ cs. front_of (to - from) (rest_of from text) ++ cs) (rest-further from to text e order)

-- the text is what comes before the piece, the piece, and what comes after it
pub pieces-whole : (from to : ℕ) (text : List ℕ) → slice_fault text from to ≡ None → front_of from text ++ slice_of from to text ++ rest_of to text ≡ text
pieces-whole from to text e =
    let piece = piece_of from to text e in
    append_assoc (front_of from text) (slice_of from to text) (rest_of to text)
    ∙ ap (λ cs. front_of from text ++ cs) (sym (rest-piece from to text piece.first piece.in_order)) ∙ parts from text

pub slice-parts : (from to : ℕ) (text : List ℕ) → slice_fault text from to ≡ None →
    slice_of 0 from text ++ slice_of from to text ++ slice_of to (text_length text) text ≡ text
slice-parts from to text e =
    let piece = piece_of from to text e in
    ap (λ cs. cs ++ slice_of from to text ++ slice_of to (text_length text) text) (slice-front from text)
    ∙ ap (λ cs. front_of from text ++ slice_of from to text ++ cs) (slice-back to text piece.second) ∙ pieces-whole from to text e

pub splice-parts : (from to : ℕ) (new text : List ℕ) → slice_fault text from to ≡ None →
    spliced_text from to new text ≡ slice_of 0 from text ++ new ++ slice_of to (text_length text) text
unfolding spliced_text
splice-parts from to new text e =
    let piece = piece_of from to text e in
    sym (ap (λ cs. cs ++ new ++ slice_of to (text_length text) text) (slice-front from text)
    ∙ ap (λ cs. front_of from text ++ new ++ cs) (slice-back to text piece.second))

pub splice-length : (from to : ℕ) (new text : List ℕ) → slice_fault text from to ≡ None →
    text_length (spliced_text from to new text) + to ≡ text_length text + text_length new + from
unfolding spliced_text
splice-length from to new text e =
    let piece = piece_of from to text e in
    omega (arith, length-append (front_of from text ++ new) (rest_of to text), length-append (front_of from text) new, offset_is from text piece.first, rest-length to text piece.second)

-- ---- offsets after a splice

pub splice-before : (from to : ℕ) (new text : List ℕ) (o : ℕ) → IsPiece from to text → is_offset o text ≡ true → o ≤ from
    → is_offset o (spliced_text from to new text) ≡ true
unfolding spliced_text
splice-before from to new text o piece e order =
    offset-front o (front_of from text ++ new) (rest_of to text) (offset-front o (front_of from text) new (offset-nearer o from text e order))

pub splice-between : (from to : ℕ) (new text : List ℕ) → IsPiece from to text → is_offset (from + text_length new) (spliced_text from to new text) ≡ true
unfolding spliced_text
splice-between from to new text piece =
    offset_at (from + text_length new) (front_of from text ++ new) (rest_of to text) _ refl
    (length-append (front_of from text) new ∙ ap (λ n. n + text_length new) (offset_is from text piece.first))

pub splice-behind : (from to : ℕ) (new text : List ℕ) (o : ℕ) → IsPiece from to text → is_offset o text ≡ true → to ≤ o
    → is_offset (o - (to - from) + text_length new) (spliced_text from to new text) ≡ true
unfolding spliced_text
splice-behind from to new text o piece e order =
    let along : o - (to - from) + text_length new ≡ text_length (front_of from text ++ new) + (o - to) =
    omega (arith, order, piece.in_order, length-append (front_of from text) new, offset_is from text piece.first) in
    ap (λ n. is_offset n ((front_of from text ++ new) ++ rest_of to text)) along
    ∙ offset-behind (o - to) (front_of from text ++ new) (rest_of to text) ∙ offset-further to o text piece.second order ∙ e
