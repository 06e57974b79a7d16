use Rattle.serde_json.specs.View.{items_view}
use Rattle.lx_json.specs.Nodes.{nodes_made}
use Rattle.lx_json.proofs.NodesMade.{IsMadeUpTo}
use Rattle.lx_json.proofs.nodes.make_apart.Given as goal

-- those that are left, from here, come to what all come to
abbrev pub invariant-loop-index : goal.invariant-loop-index
invariant-loop-index l = IsMadeUpTo l.items l.index l.kind l.draft l.keys.items (nodes_made (items_view l.items) 0 l.kind l.fn.draft)
