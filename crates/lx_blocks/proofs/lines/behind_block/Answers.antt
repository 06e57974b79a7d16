use Rattle.std.proofs.Common.{◌∙◌, sym, ap}
use Rattle.lx_trees.specs.Siblings.{first_of}
use Rattle.lx_blocks.specs.Lines.{behind_block}
use Rattle.lx_blocks.proofs.Steps.{first_left, next_key}
use Rattle.lx_blocks.proofs.lines.behind_block.Goals as goal

pub returns-in_ok-depth-in-Some : goal.returns-in_ok-depth-in-Some
returns-in_ok-depth-in-Some c =
    next_key c.next_in_tree.result c.args.links.now c.in-Some.block c.next_in_tree.ensures.next c.next_in_tree.ensures.last c.next_in_tree.ensures.depth
    ∙ ap (behind_block c.args.links.now c.args.point.now) (sym c.in-Some.is ∙ c.block.ensures.block)

pub returns-in-None : goal.returns-in-None
returns-in-None c =
    first_left c.args.links.now c.first_behind.result c.first_behind.ensures.at ∙ ap first_of c.first_behind.ensures.left
    ∙ ap (behind_block c.args.links.now c.args.point.now) (sym c.in-None.is ∙ c.block.ensures.block)
