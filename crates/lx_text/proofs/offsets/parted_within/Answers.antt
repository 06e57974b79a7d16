use Rattle.std.proofs.Common.{◌-◌, sym, ap, subst, length}
use Rattle.std.specs.Str.Iter.{chars_rest}
use Rattle.lx_text.specs.Passing.{IsPassed, IsStopped}
use Rattle.lx_text.proofs.Cut.{passed_more, stopped_before, stopped_at_end, units_told, fits_told, long_told}
use Rattle.lx_text.proofs.offsets.parted_within.Goals as goal

pub loop-character-init : goal.loop-character-init
loop-character-init c = (
  subst (λ rest. IsPassed c.args.text.now c.args.offset c.passed_blocks-left.result.1 rest) (sym c.chars-characters.ensures.rest) c.passed_blocks-left.ensures,
  sym c.chars-characters.ensures.len,
)

pub stopped-requires : goal.stopped-requires
stopped-requires c =
    subst (λ n. IsStopped c.args.text.now c.args.offset c.loop-character.left n) (sym c.loop-character.invariant.1)
    (stopped_before c.args.text.now (chars_rest c.loop-character.characters) (chars_rest c.next.new.self) c.args.offset c.loop-character.left
    c.in-Some.character c.loop-character.invariant.0 c.in-Some.ensures.steps.0
    (long_told c.in-Some.character c.len_utf16-units.result c.loop-character.left c.len_utf16-units.ensures.bmp c.len_utf16-units.ensures.surrogate_pair
    c.if-left-units.true))

pub loop-character-preserved : goal.loop-character-preserved
loop-character-preserved c = (
  subst (λ n. IsPassed c.args.text.now c.args.offset (c.loop-character.left - n) (chars_rest c.next.new.self))
      (sym (units_told c.in-Some.character c.len_utf16-units.result c.len_utf16-units.ensures.bmp c.len_utf16-units.ensures.surrogate_pair))
      (passed_more c.args.text.now (chars_rest c.loop-character.characters) (chars_rest c.next.new.self) c.args.offset c.loop-character.left c.in-Some.character
      c.loop-character.invariant.0 c.in-Some.ensures.steps.0
      (fits_told c.in-Some.character c.len_utf16-units.result c.loop-character.left c.len_utf16-units.ensures.bmp c.len_utf16-units.ensures.surrogate_pair
      c.if-left-units.false)),
  ap length c.as_str-rest.ensures,
)

pub stopped-requires-2 : goal.stopped-requires-2
stopped-requires-2 c =
    subst (λ n. IsStopped c.args.text.now c.args.offset c.loop-character.left n) (sym c.loop-character.invariant.1)
    (stopped_at_end c.args.text.now (chars_rest c.loop-character.characters) c.args.offset c.loop-character.left c.loop-character.invariant.0
    c.in_default.ensures.steps.0.0)
