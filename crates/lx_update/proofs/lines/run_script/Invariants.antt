use Rattle.std.proofs.Common.{◌≡◌, ◌≤◌, drop}
use Rattle.lx_node.specs.Limits.{most_counts}
use Rattle.lx_update.specs.Lines.{script_from}
use Rattle.lx_update.proofs.lines.run_script.Given as goal

-- those that are left, after those that have run, come to what all come to; and each of those took a count
abbrev pub invariant-loop-step : goal.invariant-loop-step
invariant-loop-step l = record {
  same : script_from l.at l.bus (drop l.step-index l.steps) l.running ≡ script_from 0 l.fn.bus l.fn.steps l.fn.running;
  begun : l.at ≤ l.running.script.draft.counted;
  few : l.running.script.draft.counted ≤ most_counts;
}
