use Rattle.std.proofs.Common.{◌≡◌, ◌+◌, ◌*◌, drop}
use Rattle.serde_json.specs.Data.{depth, items_depth}
use Rattle.serde_json.specs.View.{view, items_view}
use Rattle.lx_json.specs.Nodes.{items_made}
use Rattle.lx_json.proofs.nodes.+make.Given as goal

abbrev pub decreases-make_node : goal.decreases-make_node
decreases-make_node l = 3 * depth (view l.value.now) + 1

abbrev pub decreases-make_children : goal.decreases-make_children
decreases-make_children l = 3 * depth (view l.object.now)

abbrev pub decreases-make_each : goal.decreases-make_each
decreases-make_each l = 3 * items_depth (items_view l.items.now) + 2

-- those that are left, from here, come to what all come to
abbrev pub invariant-make_each-loop-index : goal.invariant-make_each-loop-index
invariant-make_each-loop-index l =
    items_made (items_view (drop l.index l.items)) l.index l.kind l.parent l.draft ≡ items_made (items_view l.items) 0 l.kind l.parent l.fn.draft
