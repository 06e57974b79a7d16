use Rattle.std.proofs.Common.{◌+◌, ◌*◌, drop}
use Rattle.serde_json.specs.Data.{depth, items_depth}
use Rattle.serde_json.specs.View.{view, items_view}
use Rattle.lx_json.specs.Reading.{trees_of}
use Rattle.lx_json.proofs.Grown.{IsReadTo}
use Rattle.lx_json.proofs.reading.+read.Given as goal

abbrev pub decreases-read_node : goal.decreases-read_node
decreases-read_node l = 3 * depth (view l.value.now) + 1

abbrev pub decreases-read_children : goal.decreases-read_children
decreases-read_children l = 3 * depth (view l.object.now)

abbrev pub decreases-read_nodes : goal.decreases-read_nodes
decreases-read_nodes l = 3 * items_depth (items_view l.items.now) + 2

abbrev pub invariant-read_nodes-loop-index : goal.invariant-read_nodes-loop-index
invariant-read_nodes-loop-index l =
    IsReadTo l.parent (trees_of (items_view (drop l.index l.items)) l.index l.kind) l.growth (trees_of (items_view l.items) 0 l.kind) l.initial.growth
