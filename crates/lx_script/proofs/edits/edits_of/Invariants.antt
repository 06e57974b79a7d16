use Rattle.std.proofs.Common.{drop}
use Rattle.serde_json.specs.View.{items_view}
use Rattle.lx_script.specs.Rules.{edit_of}
use Rattle.lx_script.proofs.Gathered.{IsGathered}
use Rattle.lx_script.proofs.edits.edits_of.Given as goal

abbrev pub invariant-items : goal.invariant-items
invariant-items l = IsGathered (edit_of l.kind) l.made.items (items_view (drop l.item-index l.items)) (items_view l.items)
