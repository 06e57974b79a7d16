use Rattle.std.proofs.Common.{rules, tests}
use Rattle.std.proofs.lemmas.Iterator.Consumers.{YieldsList-from_first}
use Rattle.std.proofs.lemmas.Iterator.Search.{find_from_yields_List}
use Rattle.lx_node.specs.Kinds.{is_cell}
use Rattle.lx_blocks.specs.Blocks.{is_at}
use Rattle.lx_blocks.proofs.Up.{search_told}
use Rattle.lx_blocks.proofs.blocks.cell_from.Goals as goal

pub returns : goal.returns
returns c =
    search_told c.find.result _
    (find_from_yields_List (is_at is_cell c.args.links.now) _ _ _ c.find.ensures.ran (YieldsList-from_first (λ x. x) (λ left. left) _ c.upward.ensures)
    (λ x b q k. search (rules, tests)))
