use Rattle.std.proofs.Common.{rules, tests}
use Rattle.std.proofs.lemmas.Iterator.Consumers.{YieldsList-from_first}
use Rattle.std.proofs.lemmas.Iterator.Search.{find_from_yields_List}
use Rattle.lx_blocks.specs.Blocks.{stands_among_blocks}
use Rattle.lx_blocks.proofs.Up.{search_told}
use Rattle.lx_blocks.proofs.blocks.outer_block.Goals as goal

pub returns : goal.returns
returns c =
    search_told c.find.result _
    (find_from_yields_List (stands_among_blocks c.args.links.now) _ _ _ c.find.ensures.ran (YieldsList-from_first (λ x. x) (λ left. left) _ c.upward.ensures)
    (λ x b q k. search (rules, tests)))
