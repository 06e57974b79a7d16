-- A text that is cut at offsets: what each piece has of it.
use Rattle.std.proofs.Common.{◌≡◌, ◌∙◌, ℕ, ◌+◌, ◌-◌, ◌<◌, ◌≤◌, true, List, [], ◌∷◌, ◌++◌, None, sym, ap, arith, append-nil}
use Rattle.std.proofs.lemmas.Bool.Decides.{nat_tests}
use Rattle.lx_node.specs.Limits.{last_u32}
use Rattle.lx_text.specs.Texts.{text_length, front_of, rest_of, is_offset, length_told, slice_of, spliced_text}
use Rattle.lx_text.proofs.Places.{rest-end}
use Rattle.lx_text.proofs.Told as told
use Rattle.lx_edit.specs.Conditions.{bad_offset}

-- ---- lengths

-- a place in a text, after another
pub record IsCutAt (start o : ℕ) (text : List ℕ) : Type 0 where
  pub order : start ≤ o
  pub first : is_offset start text ≡ true
  pub second : is_offset o text ≡ true
  pub few : text_length text ≤ last_u32

-- the rest of a text is what comes after a place
pub rest-is : (start : ℕ) (text : List ℕ) → is_offset start text ≡ true → text_length text ≤ last_u32
    → slice_of start (length_told text) text ≡ rest_of start text
rest-is start text here few = ap (λ n. slice_of start n text) (told.told-all text few) ∙ told.slice-back start text here

rest-few : (start : ℕ) (text : List ℕ) → is_offset start text ≡ true → text_length text ≤ last_u32 → text_length (rest_of start text) ≤ last_u32
rest-few start text here few = omega (arith, told.rest-length start text here, few)

pub piece-length : (start o : ℕ) (text : List ℕ) → IsCutAt start o text → length_told (slice_of start o text) ≡ o - start
piece-length start o text c =
    let all : text_length (slice_of start o text) + start ≡ o =
    told.piece-length start o text (record { in_order = c.order; first = c.first; second = c.second }) in
    told.told-all (slice_of start o text) (omega (arith, all, told.offset_within o text c.second, c.few)) ∙ omega (arith, all)

-- the rest is a piece, up to the end
to_end : (start : ℕ) (text : List ℕ) → is_offset start text ≡ true → text_length text ≤ last_u32 → IsCutAt start (length_told text) text
to_end start text here few =
    record { order = omega (arith, told.told-all text few, told.offset_within start text here); first = here; second = told.told-offset text; few = few }

pub rest-told : (start : ℕ) (text : List ℕ) → is_offset start text ≡ true → text_length text ≤ last_u32
    → length_told (slice_of start (length_told text) text) ≡ length_told text - start
rest-told start text here few = piece-length start (length_told text) text (to_end start text here few)

-- ---- a rest that is cut

further : (start o : ℕ) (text : List ℕ) → IsCutAt start o text → is_offset (o - start) (rest_of start text) ≡ true
further start o text c = told.offset-further start o text c.first c.order ∙ c.second

front : (start o : ℕ) (text : List ℕ) → IsCutAt start o text
    → spliced_text (o - start) (length_told (rest_of start text)) [] (rest_of start text) ≡ slice_of start o text
unfolding spliced_text slice_of
front start o text c =
    let rest : List ℕ = rest_of start text in
    let none : rest_of (length_told rest) rest ≡ [] =
    rest-end (length_told rest) rest (omega (arith, told.told-all rest (rest-few start text c.first c.few))) in
    ap (λ cs. (front_of (o - start) rest ++ []) ++ cs) none ∙ append-nil _ ∙ append-nil _

back : (start o : ℕ) (text : List ℕ) → IsCutAt start o text
    → slice_of (o - start) (length_told (rest_of start text)) (rest_of start text) ≡ slice_of o (length_told text) text
back start o text c =
    rest-is (o - start) (rest_of start text) (further start o text c) (rest-few start text c.first c.few)
    ∙ told.rest-further start o text c.first c.order ∙ sym (rest-is o text c.second c.few)

-- what is left of a rest that is cut, and what is cut off
pub piece-front : (start o : ℕ) (text piece : List ℕ) → IsCutAt start o text → piece ≡ slice_of start (length_told text) text
    → spliced_text (o - start) (length_told piece) [] piece ≡ slice_of start o text
piece-front start o text piece c is = ap (λ t. spliced_text (o - start) (length_told t) [] t) (is ∙ rest-is start text c.first c.few) ∙ front start o text c

pub piece-back : (start o : ℕ) (text piece : List ℕ) → IsCutAt start o text → piece ≡ slice_of start (length_told text) text
    → slice_of (o - start) (length_told piece) piece ≡ slice_of o (length_told text) text
piece-back start o text piece c is = ap (λ t. slice_of (o - start) (length_told t) t) (is ∙ rest-is start text c.first c.few) ∙ back start o text c

-- both are the rest
pub piece-parts : (start o : ℕ) (text : List ℕ) → IsCutAt start o text
    → slice_of start o text ++ slice_of o (length_told text) text ≡ slice_of start (length_told text) text
piece-parts start o text c =
    ap (λ cs. slice_of start o text ++ cs) (rest-is o text c.second c.few) ∙ sym (told.rest-piece start o text c.first c.order)
    ∙ sym (rest-is start text c.first c.few)

-- nothing of a text is before its start
pub whole-is : (text : List ℕ) → text_length text ≤ last_u32 → slice_of 0 (length_told text) text ≡ text
whole-is text few = ap (λ n. slice_of 0 n text) (told.told-all text few) ∙ told.slice-whole text

-- ---- offsets

-- the first of offsets that nothing refuses
pub record AreOffsets (low o : ℕ) (text rest : List ℕ) : Type 0 where
  pub above : low < o
  pub place : is_offset o text ≡ true
  pub others : bad_offset o text rest ≡ None

pub offsets : (low o : ℕ) (text rest : List ℕ) → bad_offset low text (o ∷ rest) ≡ None → AreOffsets low o text rest
offsets low o text rest e = record { above = grind (arith, nat_tests, e); place = grind (arith, nat_tests, e); others = grind (arith, e) }
