use Rattle.std.proofs.Common.{drop}
use Rattle.serde_json.specs.View.{items_view}
use Rattle.lx_fields.specs.Values.{whole_of}
use Rattle.lx_script.proofs.Gathered.{IsGathered}
use Rattle.lx_script.proofs.steps.offsets_of.Given as goal

abbrev pub invariant-items : goal.invariant-items
invariant-items l = IsGathered whole_of l.made.items (items_view (drop l.item-index l.items)) (items_view l.items)
