use Rattle.std.proofs.Common.{◌≡◌, ◌≤◌, ◌*◌, take}
use Rattle.lx_text.specs.Blocks.{bytes_units}
use Rattle.lx_text.proofs.blocks.units_in.Given as goal

abbrev pub invariant-loop-byte : goal.invariant-loop-byte
invariant-loop-byte l = (l.units ≡ bytes_units (take l.byte-index l.byte-items)) × (l.units ≤ l.byte-index * 2)
