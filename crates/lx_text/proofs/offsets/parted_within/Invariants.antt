use Rattle.std.proofs.Common.{◌≡◌, length}
use Rattle.std.specs.Str.Iter.{chars_rest}
use Rattle.lx_text.specs.Passing.{IsPassed}
use Rattle.lx_text.proofs.offsets.parted_within.Given as goal

abbrev pub invariant-loop-character : goal.invariant-loop-character
invariant-loop-character l = IsPassed l.text l.offset l.left (chars_rest l.characters) × (l.rest ≡ length (chars_rest l.characters))
