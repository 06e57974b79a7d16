use Rattle.std.proofs.Common.{◌≤◌}
use Rattle.std.specs.Vec.{vec_capacity}
use Rattle.lx_marks.specs.Marks.{with_names}
use Rattle.lx_marks.specs.Inside.{AreTabled}
use Rattle.lx_marks.proofs.Tabled.{NamedStep}
use Rattle.lx_marks.proofs.names.name_all.Given as goal

-- those that are left, after those so far, and room for them
abbrev pub invariant-others : goal.invariant-others
invariant-others l = record {
  step : NamedStep l.names.keys.items l.others l.key-index (vec_capacity l.fn.names.keys) (with_names l.others l.fn.names.keys.items);
  capacity : vec_capacity l.fn.names.keys ≤ vec_capacity l.names.keys;
  tabled : AreTabled l.names.keys.items l.names.table.keys;
}
