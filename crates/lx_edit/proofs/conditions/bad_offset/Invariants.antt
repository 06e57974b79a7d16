use Rattle.std.specs.Str.{chars}
use denote.Shadow.{shadow}
use denote.Text.{Utf8}
use Rattle.lx_edit.proofs.Offsets.{ArePassed}
use Rattle.lx_edit.proofs.conditions.bad_offset.Given as goal

-- the rest of the text begins at the last offset that was passed
abbrev pub invariant-loop-offset : goal.invariant-loop-offset
invariant-loop-offset l = record { utf8 : shadow (Utf8 l.rest); passed : ArePassed l.offsets l.offset-index l.low (chars l.text) (chars l.rest) }
