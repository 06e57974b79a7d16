-- The characters of the words that name places.
use Rattle.std.proofs.Common.{◌≡◌, ℕ, zero, suc, ◌<◌, ◌^◌, true, List, [], ◌∷◌, refl, arith, codes, decimal}
use Rattle.std.specs.Str.{chars, IsAscii}
use Rattle.std.proofs.lemmas.Fmt.{IsAscii-decimal}
use Rattle.std.proofs.lemmas.Str.{chars-IsAscii, IsAscii-append}
use Rattle.std.proofs.lemmas.Bool.Decides.{nat_tests}
use Rattle.lx_json.specs.Reading.{child_place}
use Rattle.lx_json.specs.Nodes.{index_place}
use Rattle.lx_json.proofs.Ordered.{are_ascii}

below_128 : (bytes : List ℕ) → are_ascii bytes ≡ true → IsAscii bytes
below_128 [] ascii place = omega arith
below_128 (byte ∷ bytes) ascii zero = grind (arith, nat_tests, ascii)
below_128 (byte ∷ bytes) ascii (suc place) = below_128 bytes (grind (arith, ascii)) place

-- a word of ASCII is the list of its bytes
pub chars_plain : (bytes : List ℕ) → are_ascii bytes ≡ true → chars bytes ≡ bytes
chars_plain bytes ascii = chars-IsAscii bytes (below_128 bytes ascii)

front_ascii : IsAscii (codes "/children/")
front_ascii = below_128 (codes "/children/") refl

pub chars-child_place : (i : ℕ) → i < 2 ^ 64 → chars (child_place i) ≡ child_place i
chars-child_place i small = chars-IsAscii (child_place i) (IsAscii-append (codes "/children/") (decimal i) front_ascii (IsAscii-decimal i small))

slash_ascii : IsAscii (codes "/")
slash_ascii = below_128 (codes "/") refl

pub chars-index_place : (i : ℕ) → i < 2 ^ 64 → chars (index_place i) ≡ index_place i
chars-index_place i small = chars-IsAscii (index_place i) (IsAscii-append (codes "/") (decimal i) slash_ascii (IsAscii-decimal i small))
