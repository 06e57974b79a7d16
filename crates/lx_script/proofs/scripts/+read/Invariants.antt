use Rattle.std.proofs.Common.{◌+◌, ◌*◌, drop}
use Rattle.serde_json.specs.Data.{depth, items_depth}
use Rattle.serde_json.specs.View.{view, items_view}
use Rattle.lx_script.specs.Steps.{step_of}
use Rattle.lx_script.proofs.Gathered.{IsGathered}
use Rattle.lx_script.proofs.scripts.+read.Given as goal

abbrev pub decreases-member_script : goal.decreases-member_script
decreases-member_script l = 5 * depth (view l.value.now)

abbrev pub decreases-later_of : goal.decreases-later_of
decreases-later_of l = 5 * depth (view l.value.now) + 1

abbrev pub decreases-step_for : goal.decreases-step_for
decreases-step_for l = 5 * depth (view l.value.now) + 2

abbrev pub decreases-step_of : goal.decreases-step_of
decreases-step_of l = 5 * depth (view l.value.now) + 3

abbrev pub decreases-script_of : goal.decreases-script_of
decreases-script_of l = 5 * items_depth (items_view l.items.now) + 4

abbrev pub invariant-script_of-items : goal.invariant-script_of-items
invariant-script_of-items l = IsGathered (step_of l.inside) l.made.items (items_view (drop l.item-index l.items)) (items_view l.items)
