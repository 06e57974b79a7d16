use Rattle.std.proofs.Common.{◌≡◌, take}
use Rattle.lx_marks.proofs.names.fill.Given as goal

-- the table has the keys so far
abbrev pub invariant-keys : goal.invariant-keys
invariant-keys l = l.table.keys ≡ take l.at l.keys
