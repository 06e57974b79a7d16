use Rattle.std.proofs.Common.{◌∙◌, sym, rules}
use Rattle.lx_blocks.specs.Walks.{key_of_step}
use Rattle.lx_blocks.proofs.Gathered.{walking_on}
use Rattle.lx_blocks.proofs.walks.walk_until.Goals as goal

pub loop-at-preserved : goal.loop-at-preserved
loop-at-preserved c =
    walking_on (key_of_step c.args.stop) c.loop-at.at c.next_in_tree-next.result c.args.links.now _ c.in-Some.depth c.loop-at.keys.items _ _
    c.loop-at.invariant
    c.next_in_tree-next.ensures.next c.next_in_tree-next.ensures.last c.next_in_tree-next.ensures.depth (sym c.is_stop.ensures ∙ c.if-is_stop.false)
    c.in_ok-push.ensures.items (search rules)
