use Rattle.std.proofs.Common.{◌≤◌}
use Rattle.std.specs.Vec.{vec_capacity}
use Rattle.std.specs.Map.{keys_of}
use Rattle.lx_marks.specs.Marks.{all_flagged}
use Rattle.lx_marks.specs.Inside.{AreTabled}
use Rattle.lx_marks.proofs.Tabled.{FlaggedStep}
use Rattle.lx_marks.proofs.flags.flag_all.Given as goal

-- those that are left, after those so far, and room for them
abbrev pub invariant-others : goal.invariant-others
invariant-others l = record {
  step : FlaggedStep l.flags.entries.items l.others l.key-index (vec_capacity l.fn.flags.entries) (all_flagged l.others l.fn.flags.entries.items);
  capacity : vec_capacity l.fn.flags.entries ≤ vec_capacity l.flags.entries;
  tabled : AreTabled (keys_of l.flags.entries.items) l.flags.table.keys;
}
