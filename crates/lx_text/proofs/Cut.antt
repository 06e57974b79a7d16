-- A text as its bytes, gone over character by character up to an offset.
use Rattle.std.proofs.Common.{◌≡◌, ◌∙◌, ℕ, ◌+◌, ◌-◌, ◌<◌, ◌≤◌, List, [], ◌∷◌, ◌++◌, length, take, drop, refl, sym, ap, subst, encode_utf8_all, encode_utf8, IsUtf8, arith, append_assoc, append-nil, length-append as lengths}
use Rattle.std.specs.Str.{chars, IsCharBoundary}
use Rattle.std.proofs.lemmas.Bool.Decides.{nat_tests}
use Rattle.std.proofs.lemmas.Str.{chars-nil, chars_past_char, IsUtf8-past_char, IsUtf8-take, encodes-append, encodes-chars, chars-append, chars_from_encodes, IsCharBoundary-at_seam}
use Rattle.std.proofs.Math.Seq.{take-append_seam, drop-append_seam}
use Rattle.lx_node.specs.Units.{units_of, units}
use Rattle.lx_text.specs.Texts.{text_length, front_of, rest_of}
use Rattle.lx_text.specs.Passing.{IsPassed, IsStopped}
use Rattle.lx_text.proofs.Places.{length-none, length-append, length-one, front-behind, rest-behind, front-passed, rest-passed, front-stopped, rest-stopped, front-none, rest-none, within_is}

pub passed_none : (text : List ℕ) (offset : ℕ) → IsUtf8 text → IsPassed text offset offset text
passed_none text offset utf8 = record {
  front = [];
  utf8 = utf8;
  bytes = refl;
  front_is = refl;
  rest_is = refl;
  length_is = omega (arith, length-none);
}

encode-one_more : (cs more : List ℕ) (c : ℕ) → encode_utf8_all (cs ++ c ∷ []) ++ more ≡ encode_utf8_all cs ++ (encode_utf8 c ++ more)
encode-one_more cs more c =
    ap (λ bs. bs ++ more) (encodes-append cs (c ∷ []) ∙ ap (λ bs. encode_utf8_all cs ++ bs) (append-nil (encode_utf8 c)))
    ∙ append_assoc (encode_utf8_all cs) (encode_utf8 c) more

-- one more character
pub passed_more : (text rest more : List ℕ) (offset left c : ℕ) → IsPassed text offset left rest → rest ≡ encode_utf8 c ++ more → units_of c ≤ left
    → IsPassed text offset (left - units_of c) more
passed_more text rest more offset left c p next fits =
    let first : chars rest ≡ c ∷ chars more = chars_past_char rest more c p.utf8 next in
    record {
      front = p.front ++ c ∷ [];
      utf8 = IsUtf8-past_char rest more c p.utf8 next;
      bytes = encode-one_more p.front more c ∙ ap (λ bs. encode_utf8_all p.front ++ bs) (sym next) ∙ p.bytes;
      front_is =
          p.front_is ∙ ap (λ cs. p.front ++ front_of left cs) first ∙ ap (λ cs. p.front ++ cs) (front-passed left c (chars more) fits)
          ∙ sym (append_assoc p.front (c ∷ []) (front_of (left - units_of c) (chars more)));
      rest_is = p.rest_is ∙ ap (rest_of left) first ∙ rest-passed left c (chars more) fits;
      length_is = omega (arith, p.length_is, fits, length-append p.front (c ∷ []), length-one c);
    }

-- a whole block, at one time
encode_block : (cs block behind : List ℕ) → IsUtf8 block → encode_utf8_all (cs ++ chars block) ++ behind ≡ encode_utf8_all cs ++ (block ++ behind)
encode_block cs block behind utf8 =
    ap (λ bs. bs ++ behind) (encodes-append cs (chars block) ∙ ap (λ bs. encode_utf8_all cs ++ bs) (encodes-chars block utf8))
    ∙ append_assoc (encode_utf8_all cs) block behind

pub passed_block : (text rest block behind : List ℕ) (offset left : ℕ) → IsPassed text offset left rest → IsUtf8 block → IsUtf8 behind → rest ≡ block ++ behind
    → text_length (chars block) ≤ left → IsPassed text offset (left - text_length (chars block)) behind
passed_block text rest block behind offset left p utf8 after next fits =
    let first : chars rest ≡ chars block ++ chars behind = ap chars next ∙ chars-append block behind utf8 in
    let less = left - text_length (chars block) in
    let left_is : left ≡ text_length (chars block) + less = omega (arith, fits) in
    record {
      front = p.front ++ chars block;
      utf8 = after;
      bytes = encode_block p.front block behind utf8 ∙ ap (λ bs. encode_utf8_all p.front ++ bs) (sym next) ∙ p.bytes;
      front_is =
          p.front_is ∙ ap (λ cs. p.front ++ front_of left cs) first ∙ ap (λ n. p.front ++ front_of n (chars block ++ chars behind)) left_is
          ∙ ap (λ cs. p.front ++ cs) (front-behind less (chars block) (chars behind))
          ∙ sym (append_assoc p.front (chars block) (front_of less (chars behind)));
      rest_is =
          p.rest_is ∙ ap (rest_of left) first ∙ ap (λ n. rest_of n (chars block ++ chars behind)) left_is
          ∙ rest-behind less (chars block) (chars behind);
      length_is = omega (arith, p.length_is, fits, length-append p.front (chars block));
    }

-- as many code units as were counted
pub passed_counted : (text rest block behind : List ℕ) (offset left n : ℕ) → IsPassed text offset left rest → IsUtf8 block → IsUtf8 behind
    → rest ≡ block ++ behind → n ≡ units (chars block) → n ≤ left → IsPassed text offset (left - n) behind
unfolding text_length
passed_counted text rest block behind offset left n p utf8 after next is fits =
    subst (λ m. IsPassed text offset (left - m) behind) (sym is) (passed_block text rest block behind offset left p utf8 after next (omega (arith, is, fits)))

stopped_by : (text rest : List ℕ) (offset left : ℕ) → IsPassed text offset left rest → front_of left (chars rest) ≡ [] → rest_of left (chars rest) ≡ chars rest
    → IsStopped text offset left (length rest)
stopped_by text rest offset left p none all =
    let front : front_of offset (chars text) ≡ p.front = p.front_is ∙ ap (λ cs. p.front ++ cs) none ∙ append-nil p.front in
    record {
      front = p.front;
      back = rest;
      utf8 = p.utf8;
      bytes = p.bytes;
      rest_is = refl;
      front_of_is = sym front;
      rest_of_is = sym (p.rest_is ∙ all);
      within_is = ap (λ n. n + left) (within_is offset (chars text) ∙ ap text_length front) ∙ p.length_is;
    }

-- a character that is too long for what is left
pub stopped_before : (text rest more : List ℕ) (offset left c : ℕ) → IsPassed text offset left rest → rest ≡ encode_utf8 c ++ more → left < units_of c
    → IsStopped text offset left (length rest)
stopped_before text rest more offset left c p next long =
    let first : chars rest ≡ c ∷ chars more = chars_past_char rest more c p.utf8 next in
    stopped_by text rest offset left p (ap (front_of left) first ∙ front-stopped left c (chars more) long)
    (ap (rest_of left) first ∙ rest-stopped left c (chars more) long ∙ sym first)

no_length : (xs : List ℕ) → length xs ≡ 0 → xs ≡ []
no_length [] e = refl
no_length (x ∷ xs) e = absurd (omega arith)

-- the end of the text
pub stopped_at_end : (text rest : List ℕ) (offset left : ℕ) → IsPassed text offset left rest → length rest ≡ 0 → IsStopped text offset left (length rest)
stopped_at_end text rest offset left p none =
    let nothing : chars rest ≡ [] = ap chars (no_length rest none) ∙ chars-nil in
    stopped_by text rest offset left p (ap (front_of left) nothing ∙ front-none left) (ap (rest_of left) nothing ∙ rest-none left ∙ sym nothing)

-- ---- how many code units a character has, as a machine counts them

pub units_told : (c n : ℕ) → (c < 65536 → n ≡ 1) → (65536 ≤ c → n ≡ 2) → n ≡ units_of c
unfolding units_of
units_told c n few many = grind (arith, nat_tests, few, many)

pub long_told : (c n left : ℕ) → (c < 65536 → n ≡ 1) → (65536 ≤ c → n ≡ 2) → left < n → left < units_of c
long_told c n left few many long = omega (arith, long, units_told c n few many)

pub fits_told : (c n left : ℕ) → (c < 65536 → n ≡ 1) → (65536 ≤ c → n ≡ 2) → n ≤ left → units_of c ≤ left
fits_told c n left few many fits = omega (arith, fits, units_told c n few many)

-- ---- what comes before a place and after it

front_length : (text front rest : List ℕ) → encode_utf8_all front ++ rest ≡ text → length text - length rest ≡ length (encode_utf8_all front)
front_length text front rest is = omega (arith, lengths (encode_utf8_all front) rest, ap length is)

pub front_boundary : (text front rest : List ℕ) → IsUtf8 rest → encode_utf8_all front ++ rest ≡ text → IsCharBoundary text (length text - length rest)
front_boundary text front rest utf8 is = rw (front_length text front rest is) (IsCharBoundary-at_seam text (encode_utf8_all front) rest (sym is) utf8)

front_bytes : (text front rest : List ℕ) (n : ℕ) → encode_utf8_all front ++ rest ≡ text → length rest ≡ n → take (length text - n) text ≡ encode_utf8_all front
front_bytes text front rest n is behind =
    ap (λ m. take (length text - m) text) (sym behind) ∙ ap (λ m. take m text) (front_length text front rest is)
    ∙ ap (take (length (encode_utf8_all front))) (sym is) ∙ take-append_seam (encode_utf8_all front) rest

pub chars-front : (text front rest : List ℕ) (n : ℕ) → IsUtf8 text → IsUtf8 rest → encode_utf8_all front ++ rest ≡ text → length rest ≡ n
    → chars (take (length text - n) text) ≡ front
chars-front text front rest n utf8 rest_utf8 is behind =
    let boundary : IsCharBoundary text (length text - n) =
    subst (λ m. IsCharBoundary text (length text - m)) behind (front_boundary text front rest rest_utf8 is) in
    sym (chars_from_encodes front (take (length text - n) text) (IsUtf8-take text (length text - n) utf8 boundary)
    (sym (front_bytes text front rest n is behind)))

pub chars-back : (text front rest : List ℕ) (n : ℕ) → encode_utf8_all front ++ rest ≡ text → length rest ≡ n → drop (length text - n) text ≡ rest
chars-back text front rest n is behind =
    ap (λ m. drop (length text - m) text) (sym behind) ∙ ap (λ m. drop m text) (front_length text front rest is)
    ∙ ap (drop (length (encode_utf8_all front))) (sym is) ∙ drop-append_seam (encode_utf8_all front) rest
