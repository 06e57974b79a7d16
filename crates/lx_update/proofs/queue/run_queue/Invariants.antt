use Rattle.std.proofs.Common.{◌≡◌, ◌-◌}
use Rattle.lx_node.specs.Limits.{most_counts}
use Rattle.lx_update.specs.Running.{emptied}
use Rattle.lx_update.proofs.queue.run_queue.Given as goal

-- what is queued now, in the turns that are left, comes to what all that was queued comes to
abbrev pub invariant-loop-turn : goal.invariant-loop-turn
invariant-loop-turn l = record {
  same : emptied (most_counts - l._turn) l.bus l.running ≡ emptied most_counts l.fn.bus l.fn.running;
}
