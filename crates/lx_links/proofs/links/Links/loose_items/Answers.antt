use Rattle.lx_links.proofs.Summed.{item_characters_told}
use Rattle.lx_links.proofs.links.Links.loose_items.Goals as goal

pub returns-clause-characters : goal.returns-clause-characters
returns-clause-characters c = item_characters_told _ _ _ c.in_ok-sums.ensures.sums c.min.ensures
