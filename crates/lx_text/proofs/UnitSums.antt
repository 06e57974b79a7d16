-- The code units of a text by its bytes: those of its characters are the sum over all bytes.
use Rattle.std.proofs.Common.{◌≡◌, ◌∙◌, ℕ, ◌<◌, ◌≤◌, List, [], ◌∷◌, length, take, refl, sym, ap, arith, encode_utf8_all, IsUtf8}
use Rattle.std.specs.Str.{chars}
use Rattle.std.proofs.lemmas.Bool.Decides.{nat_tests}
use Rattle.std.proofs.lemmas.Str.{encodes-chars, chars-nil}
use Rattle.std.proofs.lemmas.List.{take_all}
use Rattle.std.proofs.lemmas.List.Sums.{sum_by-append}
use lib.Utf8.{encode}
use Rattle.lx_node.specs.Units.{units_of, units}
use Rattle.lx_text.specs.Blocks.{byte_units, bytes_units}

-- a character has as many as its first byte says, and its other bytes add none
character : (c : ℕ) → bytes_units (encode c) ≡ units_of c
unfolding units_of encode
character c = grind (arith, nat_tests)

units-bytes : (text : List ℕ) → bytes_units (encode_utf8_all text) ≡ units text
unfolding units
units-bytes [] = refl
units-bytes (c ∷ text) = omega (arith, sum_by-append byte_units (encode c) (encode_utf8_all text), character c, units-bytes text)

units-block : (block : List ℕ) → IsUtf8 block → bytes_units block ≡ units (chars block)
units-block block utf8 = ap bytes_units (sym (encodes-chars block utf8)) ∙ units-bytes (chars block)

-- what a loop over all bytes has summed
pub units-all : (block items : List ℕ) (n : ℕ) → IsUtf8 block → items ≡ block → length items ≤ n → bytes_units (take n items) ≡ units (chars block)
units-all block items n utf8 is all = ap bytes_units (take_all n items all ∙ is) ∙ units-block block utf8

-- a block with code units has bytes
pub bytes-some : (block : List ℕ) → 0 < units (chars block) → 0 < length block
unfolding units
bytes-some [] some = absurd (omega (arith, some, ap units chars-nil))
bytes-some (b ∷ block) some = omega arith
