use Rattle.std.proofs.Common.{◌≡◌, ◌+◌, ◌*◌, ◌≤◌, ℕ, take}
use Rattle.lx_trees.specs.Siblings.{is_among}
use Rattle.lx_outline.specs.Reading.{is_over_one}
use Rattle.lx_outline.proofs.applying.touched_by.Given as goal

abbrev pub invariant-loop-event : goal.invariant-loop-event
invariant-loop-event g l = record {
  same : g.R.Records.forest l.records ≡ g.R.Records.forest l.fn.records;
  keys : (q : ℕ) → is_among q l.keys ≡ is_over_one (g.R.Records.forest l.fn.records) (take l.event-index l.events) q;
  reads : g.R.Records.count l.records ≤ g.R.Records.count l.fn.records + 3 * l.event-index;
}
