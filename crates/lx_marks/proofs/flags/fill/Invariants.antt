use Rattle.std.proofs.Common.{◌≡◌, take}
use Rattle.std.specs.Map.{keys_of}
use Rattle.lx_marks.proofs.flags.fill.Given as goal

-- the table has the keys so far
abbrev pub invariant-entries : goal.invariant-entries
invariant-entries l = l.table.keys ≡ take l.at (keys_of l.entries)
