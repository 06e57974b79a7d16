-- Where offsets of a text are after an edit of it, as far as a u32 can say them.
use Rattle.std.proofs.Common.{◌≡◌, ◌∙◌, ℕ, ◌+◌, ◌-◌, ◌≤◌, min, Bool, true, false, cond, leb, List, ◌++◌, refl, ap, arith}
use Rattle.std.proofs.lemmas.Bool.Decides.{nat_tests}
use Rattle.lx_node.specs.Limits.{last_u32}
use Rattle.lx_text.specs.Texts.{text_length, front_of, rest_of, within, is_offset, length_told, slice_of, spliced_text}
use Rattle.lx_text.proofs.Places.{length-append}
use Rattle.lx_text.proofs.Told as told
use Rattle.lx_text.proofs.Told.{IsPiece}
use Rattle.lx_select.specs.Rules.{offset_sum, spliced_offset}

-- a place that offsets can say
pub record IsPlace (o : ℕ) (text : List ℕ) : Type 0 where
  pub told : o ≤ length_told text
  pub place : is_offset o text ≡ true

pub place_of : (o : ℕ) (text : List ℕ) → is_offset o text ≡ true → o ≤ last_u32 → IsPlace o text
place_of o text e small = record { told = told.told-last o text e small; place = e }

pub place-few : (o : ℕ) (text : List ℕ) → is_offset o text ≡ true → text_length text ≤ last_u32 → IsPlace o text
place-few o text e few = place_of o text e (omega (arith, told.offset_within o text e, few))

pub end_place : (text : List ℕ) → IsPlace (length_told text) text
end_place text = record { told = omega arith; place = told.told-offset text }

-- ---- a splice

-- the text that is new is no longer than the whole
new_few : (from to : ℕ) (new text : List ℕ) → text_length new ≤ text_length (spliced_text from to new text)
unfolding spliced_text
new_few from to new text = omega (arith, length-append (front_of from text ++ new) (rest_of to text), length-append (front_of from text) new)

module _ (from to : ℕ) (new text : List ℕ) (piece : IsPiece from to text) (few : text_length (spliced_text from to new text) ≤ last_u32) where
  told_new : length_told new ≡ text_length new
  told_new = told.told-all new (omega (arith, new_few from to new text, few))

  -- a sum that is an offset of the whole is one that a u32 can say
  summed : (a b sum : ℕ) → is_offset (a + b) (spliced_text from to new text) ≡ true → sum ≡ min (a + b) last_u32 → IsPlace sum (spliced_text from to new text)
  summed a b sum e is =
      let small : a + b ≤ last_u32 = omega (arith, told.offset_within (a + b) (spliced_text from to new text) e, few) in
      let same : sum ≡ a + b = omega (arith, is, small) in
      place-few sum (spliced_text from to new text) (ap (λ n. is_offset n (spliced_text from to new text)) same ∙ e) few

  -- the end of what is new
  pub new_end_place : IsPlace (offset_sum from (length_told new)) (spliced_text from to new text)
  unfolding offset_sum
  new_end_place =
      summed from (length_told new) _ (ap (λ n. is_offset (from + n) (spliced_text from to new text)) told_new ∙ told.splice-between from to new text piece)
      refl

  pub spliced_place : (o : ℕ) → is_offset o text ≡ true → IsPlace (spliced_offset from to (length_told new) o) (spliced_text from to new text)
  unfolding spliced_offset offset_sum
  spliced_place o e = by_first (leb o from) refl where
    behind : (b : Bool) → leb to o ≡ b
        → IsPlace (cond b (min (o - (to - from) + length_told new) last_u32) (min (from + length_told new) last_u32)) (spliced_text from to new text)
    behind true is =
        let past : to ≤ o = grind (arith, nat_tests, is) in
        summed (o - (to - from)) (length_told new) _
        (ap (λ n. is_offset (o - (to - from) + n) (spliced_text from to new text)) told_new ∙ told.splice-behind from to new text o piece e past) refl
    behind false is = new_end_place

    by_first : (b : Bool) → leb o from ≡ b
        → IsPlace (cond b o (cond (leb to o) (min (o - (to - from) + length_told new) last_u32) (min (from + length_told new) last_u32)))
        (spliced_text from to new text)
    by_first true is =
        let first : o ≤ from = grind (arith, nat_tests, is) in
        place-few o (spliced_text from to new text) (told.splice-before from to new text o piece e first) few
    by_first false is = behind (leb to o) refl

-- ---- a set, and a replacing

pub within_place : (o : ℕ) (text : List ℕ) → o ≤ last_u32 → IsPlace (within text o) text
within_place o text small = place_of (within text o) text (told.within-offset o text) (omega (arith, told.within-below o text, small))

-- ---- a split

-- a place after the one where a text is cut, in what is cut off
pub tail_place : (o at to : ℕ) (text : List ℕ) → is_offset at text ≡ true → is_offset o text ≡ true → at ≤ o → o ≤ to → o ≤ last_u32
    → IsPlace (o - at) (slice_of at to text)
unfolding slice_of
tail_place o at to text here e order inside small =
    let tail : is_offset (o - at) (rest_of at text) ≡ true = told.offset-further at o text here order ∙ e in
    place_of (o - at) (front_of (to - at) (rest_of at text)) (told.offset-nearer (o - at) (to - at) (rest_of at text) tail (omega (arith, order, inside)))
    (omega (arith, small))
