-- A piece of a text is in it by its characters just where it does by its bytes.
use Rattle.std.proofs.Common.{◌≡◌, ◌∙◌, ℕ, get_or, ◌↔◌, Bool, true, List, [], ◌∷◌, ◌++◌, length, take, refl, sym, ap, subst, None, encode_utf8_all, IsUtf8, arith, length-append, ◌⊎◌, inl, inr}
use Rattle.std.specs.Bool.{Decides, MatchBool}
use Rattle.std.specs.Str.{chars, IsCharBoundary}
use Rattle.std.specs.Str.Iter.{HasSubslice}
use Rattle.std.specs.Str.Pattern.{FindsText, HasMatch}
use Rattle.std.proofs.Math.Seq.{take-append_seam, get_or-append_seam}
use Rattle.std.proofs.lemmas.Bool.Decides.{Decides-eqb, Decides-and, Decides-or, Decides-like, same_from_decides}
use Rattle.std.proofs.lemmas.Str.{chars-nil, chars-append, encodes-append, encodes-chars, IsCharBoundary-start, IsUtf8-take}
use Rattle.std.proofs.lemmas.Str.Pattern.{contains_text}
use Rattle.lx_rules.specs.Pieces.{begins, has_piece}

-- ---- the test says whether the text is something, the piece, and something

begins_tells : (piece text : List ℕ) → Decides (begins piece text) ((back : List ℕ) × (text ≡ piece ++ back))
begins_tells [] text = (λ e. (text, refl), λ h. refl)
begins_tells (p ∷ piece) [] = (λ e. absurd (cc), λ h. absurd (cc h.1))
begins_tells (p ∷ piece) (c ∷ text) =
    Decides-like _ (λ h. (h.1.0, cc (h.0, h.1.1))) (λ h. (cc h.1, (h.0, cc h.1))) (Decides-and _ _ (Decides-eqb p c) (begins_tells piece text))

in_none : (piece front back : List ℕ) → [] ≡ front ++ (piece ++ back) → (rest : List ℕ) × ([] ≡ piece ++ rest)
in_none piece [] back e = (back, e)
in_none piece (x ∷ front) back e = absurd (cc)

in_some : (piece front back text : List ℕ) (c : ℕ) → (c ∷ text) ≡ front ++ (piece ++ back)
    → ((rest : List ℕ) × ((c ∷ text) ≡ piece ++ rest)) ⊎ HasSubslice text piece
in_some piece [] back text c e = inl (back, e)
in_some piece (x ∷ front) back text c e = inr (front, back, cc)

has_piece_tells : (piece text : List ℕ) → Decides (has_piece piece text) (HasSubslice text piece)
has_piece_tells piece [] = Decides-like _ (λ h. ([], h.0, h.1)) (λ h. in_none piece h.0 h.1 h.2) (begins_tells piece [])
has_piece_tells piece (c ∷ text) =
    Decides-like _ (λ s. elim s [ inl h ↦ ([], h.0, h.1) | inr h ↦ (c ∷ h.0, h.1, ap (λ xs. c ∷ xs) h.2) ]) (λ h. in_some piece h.0 h.1 text c h.2)
    (Decides-or _ _ (begins_tells piece (c ∷ text)) (has_piece_tells piece text))

-- ---- bytes and characters

-- a piece that is a text, and has a byte, is where a text may be cut
cut_before : (bytes front back piece : List ℕ) (b : ℕ) → bytes ≡ front ++ (b ∷ piece ++ back) → IsUtf8 (b ∷ piece) → IsCharBoundary bytes (length front)
cut_before bytes front back piece b e utf8 =
    let here : get_or bytes (length front) 0 ≡ b = ap (λ bs. get_or bs (length front) 0) e ∙ get_or-append_seam front b (piece ++ back) 0 in
    let start = (IsCharBoundary-start (b ∷ piece) utf8).1 in (
      omega (arith, ap length e, length-append front (b ∷ piece ++ back)),
      λ within high. rw here (start (omega arith) (rw here at high)),
    )

chars_piece : (bytes piece : List ℕ) → IsUtf8 bytes → IsUtf8 piece → HasSubslice bytes piece → HasSubslice (chars bytes) (chars piece)
chars_piece bytes [] whole part h = rw chars-nil ([], chars bytes, refl)
chars_piece bytes (b ∷ piece) whole part h =
    let front : IsUtf8 (take (length h.0) bytes) = IsUtf8-take bytes (length h.0) whole (cut_before bytes h.0 h.1 piece b h.2 part) in
    let same : take (length h.0) bytes ≡ h.0 = ap (take (length h.0)) h.2 ∙ take-append_seam h.0 (b ∷ piece ++ h.1) in (
      chars h.0,
      chars h.1,
      ap chars h.2 ∙ chars-append h.0 (b ∷ piece ++ h.1) (subst IsUtf8 same front) ∙ ap (λ cs. chars h.0 ++ cs) (chars-append (b ∷ piece) h.1 part),
    )

bytes_piece : (bytes piece : List ℕ) → IsUtf8 bytes → IsUtf8 piece → HasSubslice (chars bytes) (chars piece) → HasSubslice bytes piece
bytes_piece bytes piece whole part h = (
  encode_utf8_all h.0,
  encode_utf8_all h.1,
  sym (encodes-chars bytes whole) ∙ ap encode_utf8_all h.2 ∙ encodes-append h.0 (chars piece ++ h.1)
      ∙ ap (λ bs. encode_utf8_all h.0 ++ bs) (encodes-append (chars piece) h.1 ∙ ap (λ bs. bs ++ encode_utf8_all h.1) (encodes-chars piece part)),
)

-- ---- over the answer of std's search, which is about bytes

module _ (r : Bool) (piece bytes : List ℕ) (answer : MatchBool r (HasMatch (FindsText piece) bytes) (FindsText piece bytes None)) (whole : IsUtf8 bytes)
    (part : IsUtf8 piece) where
  pub piece_told : (r ≡ true) ↔ HasSubslice (chars bytes) (chars piece)
  piece_told =
      let told = contains_text r piece bytes answer in
      (λ e. chars_piece bytes piece whole part (told.0 e), λ h. told.1 (bytes_piece bytes piece whole part h))

  pub piece_same : r ≡ has_piece (chars piece) (chars bytes)
  piece_same = same_from_decides r _ piece_told (has_piece_tells (chars piece) (chars bytes))
