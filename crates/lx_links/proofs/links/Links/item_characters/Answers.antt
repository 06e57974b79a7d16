use Rattle.lx_links.proofs.Stood.{stood_by, failed_by}
use Rattle.lx_links.proofs.Summed.{counted_by, item_characters_told, no_item_characters}
use Rattle.lx_links.proofs.links.Links.item_characters.Goals as goal

pub returns-in-Some : goal.returns-in-Some
returns-in-Some c =
    let h = stood_by _ c.self.inside.stands _ c.in-Some.field-0 c.self.view_is c.in-Some.is in
    item_characters_told _ _ _ (counted_by _ _ c.self.inside.stands _ _ c.self.view_is h c.self.invariant) c.min.ensures

pub returns-in-None : goal.returns-in-None
returns-in-None c = no_item_characters c.args.self.now (failed_by c.self.inside.held c.self.inside.stands _ c.self.view_is c.in-None.is)
