-- The bytes of a text that is cut in three.
use Rattle.std.proofs.Common.{◌≡◌, ◌∙◌, ℕ, ◌+◌, ◌≤◌, true, List, [], ◌∷◌, ◌++◌, length, take, drop, refl, sym, ap, subst, arith, encode_utf8_all, IsUtf8, append_assoc, length-append}
use Rattle.std.specs.Str.{chars, all_scalars, IsCharBoundary}
use Rattle.std.proofs.lemmas.Str.{encodes-chars, chars-encodes, scalars-chars, encodes-append, chars-append, IsUtf8-append, IsCharBoundary-at_seam}
use Rattle.std.proofs.lemmas.Bool.{and_parts, and_from}
use lib.Utf8.{scalar}
use Rattle.std.proofs.Math.Seq.{take-append_seam, drop-append_seam}
use Rattle.lx_node.specs.Cuts.{Cuts}

-- parts of scalar values are scalar values
scalars-parts : (front back : List ℕ) → all_scalars (front ++ back) ≡ true → (all_scalars front ≡ true) × (all_scalars back ≡ true)
scalars-parts [] back e = (refl, e)
scalars-parts (c ∷ front) back e =
    let first = and_parts (scalar c) (all_scalars (front ++ back)) e in
    let rest = scalars-parts front back first.1 in
    (and_from (scalar c) (all_scalars front) first.0 rest.0, rest.1)

module _ (bytes : List ℕ) (utf8 : IsUtf8 bytes) (front piece : ℕ) (before within behind : List ℕ) (cut : Cuts front piece before within behind (chars bytes))
  where
    all : all_scalars (before ++ within ++ behind) ≡ true
    all = ap all_scalars (sym cut.whole) ∙ scalars-chars bytes utf8

    scalar-before : all_scalars before ≡ true
    scalar-before = (scalars-parts before within (scalars-parts (before ++ within) behind all).0).0

    scalar-within : all_scalars within ≡ true
    scalar-within = (scalars-parts before within (scalars-parts (before ++ within) behind all).0).1

    scalar-behind : all_scalars behind ≡ true
    scalar-behind = (scalars-parts (before ++ within) behind all).1

    utf8-before : IsUtf8 (encode_utf8_all before)
    utf8-before = (before, (scalar-before, refl))

    utf8-within : IsUtf8 (encode_utf8_all within)
    utf8-within = (within, (scalar-within, refl))

    utf8-behind : IsUtf8 (encode_utf8_all behind)
    utf8-behind = (behind, (scalar-behind, refl))

    -- the bytes of the text are those of the three
    bytes-two : bytes ≡ encode_utf8_all (before ++ within) ++ encode_utf8_all behind
    bytes-two = sym (encodes-chars bytes utf8) ∙ ap encode_utf8_all cut.whole ∙ encodes-append (before ++ within) behind

    bytes-three : bytes ≡ encode_utf8_all before ++ (encode_utf8_all within ++ encode_utf8_all behind)
    bytes-three =
        bytes-two ∙ ap (λ bs. bs ++ encode_utf8_all behind) (encodes-append before within)
        ∙ append_assoc (encode_utf8_all before) (encode_utf8_all within) (encode_utf8_all behind)

    length-two : length (encode_utf8_all (before ++ within)) ≡ front + piece
    length-two =
        ap length (encodes-append before within) ∙ length-append (encode_utf8_all before) (encode_utf8_all within)
        ∙ ap (λ n. n + length (encode_utf8_all within)) cut.front_is ∙ ap (λ n. front + n) cut.piece_is

    pub cut-within : front + piece ≤ length bytes
    cut-within = omega (arith, length-two, ap length bytes-two, length-append (encode_utf8_all (before ++ within)) (encode_utf8_all behind))

    pub cut-start : IsCharBoundary bytes front
    cut-start =
        subst (λ n. IsCharBoundary bytes n) cut.front_is
        (IsCharBoundary-at_seam bytes (encode_utf8_all before) (encode_utf8_all within ++ encode_utf8_all behind) bytes-three
        (IsUtf8-append (encode_utf8_all within) (encode_utf8_all behind) utf8-within utf8-behind))

    pub cut-end : IsCharBoundary bytes (front + piece)
    cut-end =
        subst (λ n. IsCharBoundary bytes n) length-two
        (IsCharBoundary-at_seam bytes (encode_utf8_all (before ++ within)) (encode_utf8_all behind) bytes-two utf8-behind)

    take-front : take front bytes ≡ encode_utf8_all before
    take-front =
        ap (λ n. take n bytes) (sym cut.front_is) ∙ ap (take (length (encode_utf8_all before))) bytes-three
        ∙ take-append_seam (encode_utf8_all before) (encode_utf8_all within ++ encode_utf8_all behind)

    pub drop-front : drop front bytes ≡ encode_utf8_all within ++ encode_utf8_all behind
    drop-front =
        ap (λ n. drop n bytes) (sym cut.front_is) ∙ ap (drop (length (encode_utf8_all before))) bytes-three
        ∙ drop-append_seam (encode_utf8_all before) (encode_utf8_all within ++ encode_utf8_all behind)

    drop-both : drop (front + piece) bytes ≡ encode_utf8_all behind
    drop-both =
        ap (λ n. drop n bytes) (sym length-two) ∙ ap (drop (length (encode_utf8_all (before ++ within)))) bytes-two
        ∙ drop-append_seam (encode_utf8_all (before ++ within)) (encode_utf8_all behind)

    -- the piece alone
    pub cut-rest : IsCharBoundary (drop front bytes) piece
    cut-rest =
        subst (λ n. IsCharBoundary (drop front bytes) n) cut.piece_is
        (IsCharBoundary-at_seam (drop front bytes) (encode_utf8_all within) (encode_utf8_all behind) drop-front utf8-behind)

    pub chars-piece : chars (take piece (drop front bytes)) ≡ within
    chars-piece =
        ap (λ bs. chars (take piece bs)) drop-front ∙ ap (λ n. chars (take n (encode_utf8_all within ++ encode_utf8_all behind))) (sym cut.piece_is)
        ∙ ap chars (take-append_seam (encode_utf8_all within) (encode_utf8_all behind)) ∙ chars-encodes within scalar-within

    -- with another piece
    pub chars-spliced : (new : List ℕ) → IsUtf8 new → chars ((take front bytes ++ new) ++ drop (front + piece) bytes) ≡ before ++ chars new ++ behind
    chars-spliced new u =
        ap (λ bs. chars ((bs ++ new) ++ drop (front + piece) bytes)) take-front ∙ ap (λ bs. chars ((encode_utf8_all before ++ new) ++ bs)) drop-both
        ∙ chars-append (encode_utf8_all before ++ new) (encode_utf8_all behind) (IsUtf8-append (encode_utf8_all before) new utf8-before u)
        ∙ ap (λ cs. cs ++ chars (encode_utf8_all behind)) (chars-append (encode_utf8_all before) new utf8-before)
        ∙ ap (λ cs. (cs ++ chars new) ++ chars (encode_utf8_all behind)) (chars-encodes before scalar-before)
        ∙ ap (λ cs. (before ++ chars new) ++ cs) (chars-encodes behind scalar-behind)
