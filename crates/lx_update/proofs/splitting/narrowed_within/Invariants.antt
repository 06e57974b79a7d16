use Rattle.std.proofs.Common.{◌≡◌, take}
use Rattle.std.specs.Str.{chars}
use denote.Shadow.{shadow}
use denote.Text.{Utf8}
use Rattle.lx_edit.proofs.Offsets.{ArePassed}
use Rattle.lx_update.proofs.splitting.narrowed_within.Given as goal

-- the offsets so far were passed and kept, and the rest of the text begins at the last one
abbrev pub invariant-loop-offset : goal.invariant-loop-offset
invariant-loop-offset l = record {
  utf8 : shadow (Utf8 l.rest);
  passed : ArePassed l.offsets l.offset-index l.low (chars l.text) (chars l.rest);
  small : l.small.items ≡ take l.offset-index l.offsets;
}
