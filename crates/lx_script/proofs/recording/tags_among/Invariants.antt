use Rattle.std.proofs.Common.{drop}
use Rattle.serde_json.specs.View.{items_view}
use Rattle.lx_script.proofs.Tagged.{IsTagged}
use Rattle.lx_script.proofs.recording.tags_among.Given as goal

abbrev pub invariant-items : goal.invariant-items
invariant-items l = IsTagged l.tags (items_view (drop l.item-index l.items)) (items_view l.items)
