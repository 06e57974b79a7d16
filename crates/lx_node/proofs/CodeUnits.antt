-- Code units of texts, and what a machine counts of them.
use Rattle.std.proofs.Common.{◌≡◌, ◌∙◌, ℕ, ◌+◌, ◌-◌, ◌^◌, ◌<◌, ◌≤◌, min, List, [], ◌∷◌, ◌++◌, length, refl, ap, subst, arith, length-append, encode_utf8, encode_utf8_all, IsUtf8}
use Rattle.std.specs.Str.{chars}
use Rattle.std.specs.Char.{len_utf8}
use Rattle.std.proofs.lemmas.Bool.Decides.{nat_tests}
use Rattle.std.proofs.lemmas.Str.{length-encode, encodes-chars}
use Rattle.lx_node.specs.Strings.{capped}
use Rattle.lx_node.specs.Units.{units_of, units}
use Rattle.lx_node.specs.Counted.{AreCounted}
use Rattle.lx_node.specs.declared.counts.Counts.{Counts}
use Rattle.lx_node.proofs.Strings.{capped_small}

-- one code unit, or two
pub units_of-some : (c : ℕ) → 0 < units_of c
unfolding units_of
units_of-some c = grind (arith, nat_tests)

pub units_of-few : (c : ℕ) → units_of c ≤ 2
unfolding units_of
units_of-few c = grind (arith, nat_tests)

pub units_of-two : (c : ℕ) → 65536 ≤ c → units_of c ≡ 2
unfolding units_of
units_of-two c h = grind (arith, nat_tests, h)

pub units-append : (front back : List ℕ) → units (front ++ back) ≡ units front + units back
unfolding units
units-append [] back = omega arith
units-append (c ∷ front) back = omega (arith, units-append front back)

-- at least as many as there are characters, and at most twice as many
pub units-many : (text : List ℕ) → length text ≤ units text
unfolding units
units-many [] = omega arith
units-many (c ∷ text) = omega (arith, units-many text, units_of-some c)

pub units-few : (text : List ℕ) → units text ≤ length text + length text
unfolding units
units-few [] = omega arith
units-few (c ∷ text) = omega (arith, units-few text, units_of-few c)

-- at most as many as there are bytes
units_of-le_bytes : (c : ℕ) → units_of c ≤ len_utf8 c
unfolding units_of
units_of-le_bytes c = grind (arith, nat_tests)

pub units-le_encoded : (text : List ℕ) → units text ≤ length (encode_utf8_all text)
unfolding units
units-le_encoded [] = omega arith
units-le_encoded (c ∷ text) =
    omega (arith, units-le_encoded text, length-append (encode_utf8 c) (encode_utf8_all text), length-encode c, units_of-le_bytes c)

pub units-le_bytes : (bytes : List ℕ) → IsUtf8 bytes → units (chars bytes) ≤ length bytes
units-le_bytes bytes utf8 = subst (λ n. units (chars bytes) ≤ n) (ap length (encodes-chars bytes utf8)) (units-le_encoded (chars bytes))

-- ---- counted

pub counted-none : AreCounted (record { characters = 0; units = 0 }) []
unfolding units
counted-none = record { characters = refl; units = refl; fits = omega arith }

pub counted-one : (c n : ℕ) → n ≡ units_of c → AreCounted (record { characters = 1; units = n }) (c ∷ [])
unfolding units
counted-one c n is = record { characters = refl; units = omega (arith, is); fits = omega (arith, units_of-few c) }

pub counted-append : (a b : Counts) (characters code_units : ℕ) → characters ≡ min (a.characters + b.characters) (2 ^ 64 - 1)
    → code_units ≡ min (a.units + b.units) (2 ^ 64 - 1)
    → (front back : List ℕ) → AreCounted a front → AreCounted b back → units (front ++ back) < 2 ^ 64
    → AreCounted (record { characters = characters; units = code_units }) (front ++ back)
counted-append a b characters code_units e f front back x y few = record {
  characters = omega (arith, e, x.characters, y.characters, length-append front back, units-many (front ++ back), few);
  units = omega (arith, f, x.units, y.units, units-append front back, few);
  fits = few;
}

-- what a machine counts of them
pub counted-characters : (counts : Counts) (text : List ℕ) → AreCounted counts text → counts.characters ≡ capped (length text)
counted-characters counts text is = is.characters ∙ capped_small (length text) (omega (arith, units-many text, is.fits))

pub counted-units : (counts : Counts) (text : List ℕ) → AreCounted counts text → counts.units ≡ capped (units text)
counted-units counts text is = is.units ∙ capped_small (units text) is.fits

length-three : (front middle back : List ℕ) → length (front ++ middle ++ back) ≡ length front + length middle + length back
length-three front middle back = omega (arith, length-append (front ++ middle) back, length-append front middle)

pub units-three : (front middle back : List ℕ) → units (front ++ middle ++ back) ≡ units front + units middle + units back
units-three front middle back = omega (arith, units-append (front ++ middle) back, units-append front middle)

-- a piece is taken off, and another one added
module _ (all piece new : Counts) (characters code_units : ℕ) (e : characters ≡ min (all.characters - piece.characters + new.characters) (2 ^ 64 - 1))
    (f : code_units ≡ min (all.units - piece.units + new.units) (2 ^ 64 - 1)) where
  pub counted-spliced : (front middle more back : List ℕ) → AreCounted all (front ++ middle ++ back) → AreCounted piece middle → AreCounted new more
      → units (front ++ more ++ back) < 2 ^ 64 → AreCounted (record { characters = characters; units = code_units }) (front ++ more ++ back)
  counted-spliced front middle more back x y z few = record {
    characters =
        omega (arith, e, x.characters, y.characters, z.characters, length-three front middle back, length-three front more back, units-many (front ++ more ++ back), few);
    units = omega (arith, f, x.units, y.units, z.units, units-three front middle back, units-three front more back, few);
    fits = few;
  }
