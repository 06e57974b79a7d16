use Rattle.std.proofs.Common.{◌≡◌, ◌+◌, ◌≤◌, take}
use Rattle.lx_outline.specs.Outline.{characters_in}
use Rattle.lx_outline.specs.Reading.{one_in, weight_among}
use Rattle.lx_outline.proofs.sums.sums_of.Given as goal

abbrev pub invariant-loop-event : goal.invariant-loop-event
invariant-loop-event g l = record {
  same : g.R.Records.forest l.records ≡ g.R.Records.forest l.fn.records;
  nodes : l.sums.nodes ≡ weight_among one_in (g.R.Records.forest l.fn.records) (take l.event-index l.events);
  characters : l.sums.characters ≡ weight_among characters_in (g.R.Records.forest l.fn.records) (take l.event-index l.events);
  reads : g.R.Records.count l.records ≤ g.R.Records.count l.fn.records + l.event-index;
}
