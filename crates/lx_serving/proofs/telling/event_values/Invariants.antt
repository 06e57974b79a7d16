use Rattle.std.proofs.Common.{◌≡◌, map, take}
use Rattle.serde_json.specs.View.{view as data_of}
use Rattle.lx_serving.specs.Outlining.{event_data}
use Rattle.lx_serving.proofs.telling.event_values.Given as goal

abbrev pub invariant-loop-event : goal.invariant-loop-event
invariant-loop-event l = map data_of l.values.items ≡ map event_data (take l.event-index l.events)
