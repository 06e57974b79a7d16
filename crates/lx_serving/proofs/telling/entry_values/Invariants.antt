use Rattle.std.proofs.Common.{◌≡◌, map, take}
use Rattle.serde_json.specs.View.{view as data_of}
use Rattle.lx_serving.specs.Outlining.{entry_data}
use Rattle.lx_serving.proofs.telling.entry_values.Given as goal

abbrev pub invariant-loop-entry : goal.invariant-loop-entry
invariant-loop-entry l = map data_of l.values.items ≡ map entry_data (take l.entry-index l.entries)
