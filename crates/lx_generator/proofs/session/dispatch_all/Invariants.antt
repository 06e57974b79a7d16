use Rattle.std.proofs.Common.{◌≤◌, ◌+◌, ◌-◌}
use Rattle.lx_node.specs.Limits.{last_u32}
use Rattle.lx_generator.proofs.Leading.{ComeTo}
use Rattle.lx_generator.proofs.session.dispatch_all.Given as goal

-- those that are left come to what all come to, and there are commits and counts for them
abbrev pub invariant-loop-line : goal.invariant-loop-line
invariant-loop-line l = record {
  comes : ComeTo l.count l.number l.fn.editor l.fn.tally (l.count - l.line) l.current l.editor l.tally;
  room : l.editor.commits + (l.count - l.line) ≤ last_u32;
  counts : l.tally.commits + l.tally.idle + l.tally.refused + (l.count - l.line) ≤ last_u32;
}
