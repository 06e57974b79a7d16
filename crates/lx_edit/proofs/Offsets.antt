-- Offsets that rise, each looked at from the one before.
use Rattle.std.proofs.Common.{◌≡◌, ◌∙◌, ℕ, ◌+◌, ◌-◌, ◌<◌, Bool, true, false, cond, ◌&&◌, ltb, List, [], drop, length, get_or, Some, refl, sym, ap, arith}
use Rattle.std.proofs.lemmas.Bool.Decides.{nat_tests}
use Rattle.std.proofs.lemmas.List.{at_drop_more}
use Rattle.lx_node.specs.declared.cause.Cause.TheVariants.{BadPlace}
use Rattle.lx_text.specs.Texts.{rest_of, is_offset, length_told}
use Rattle.lx_text.proofs.Places.{rest-start}
use Rattle.lx_text.proofs.Told as told
use Rattle.lx_edit.specs.Conditions.{is_inside, bad_offset}

-- nothing has no length
pub none_told : (text : List ℕ) → text ≡ [] → 0 ≡ length_told text
none_told text is = sym (ap length_told is ∙ told.told-none)

-- Some of these offsets were passed: the first bad one is among those that are left, after the last one passed, where the rest
-- of the text begins.
pub record ArePassed (offsets : List ℕ) (i low : ℕ) (text rest : List ℕ) : Type 0 where
  pub left : bad_offset low text (drop i offsets) ≡ bad_offset 0 text offsets
  pub here : is_offset low text ≡ true
  pub begins : rest ≡ rest_of low text

pub none_passed : (offsets text : List ℕ) → ArePassed offsets 0 0 text text
none_passed offsets text = record { left = refl; here = told.offset_start text; begins = sym (rest-start text) }

module _ (offsets : List ℕ) (i low : ℕ) (text rest : List ℕ) where
  -- the offset at the index is the first bad one, where it isn't passed
  abbrev next : ℕ
  next = get_or offsets i 0

  by_next : (passed : Bool) → i < length offsets → (ltb low next && is_inside next text) ≡ passed
      → bad_offset low text (drop i offsets) ≡ cond passed (bad_offset next text (drop (i + 1) offsets)) (Some (BadPlace next))
  by_next passed within is =
      at_drop_more (bad_offset low text) offsets i 0 within
      ∙ ap (λ b. cond b (bad_offset next text (drop (i + 1) offsets)) (Some (BadPlace next))) is

  module _ (passed : ArePassed offsets i low text rest) (within : i < length offsets) (above : low < next) (below : next < length_told text) where
    same : is_offset (next - low) rest ≡ is_offset next text
    same = ap (is_offset (next - low)) passed.begins ∙ told.offset-further low next text passed.here (omega (arith, above))

    pub none_there : is_offset (next - low) rest ≡ false → bad_offset 0 text offsets ≡ Some (BadPlace next)
    none_there e = sym passed.left ∙ by_next false within (grind (arith, nat_tests, above, below, e, same))

    pub one_passed : (more : List ℕ) → is_offset (next - low) rest ≡ true → more ≡ rest_of (next - low) rest → ArePassed offsets (i + 1) next text more
    one_passed more e is = record {
      left = sym (by_next true within (grind (arith, nat_tests, above, below, e, same))) ∙ passed.left;
      here = sym same ∙ e;
      begins = is ∙ ap (rest_of (next - low)) passed.begins ∙ told.rest-further low next text passed.here (omega (arith, above));
    }
