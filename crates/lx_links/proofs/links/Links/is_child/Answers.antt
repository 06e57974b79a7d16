use Rattle.std.proofs.Common.{◌∙◌, sym, ap}
use Rattle.lx_trees.specs.Siblings.{is_named}
use Rattle.lx_links.proofs.Placed.{child_named}
use Rattle.lx_links.proofs.links.Links.is_child.Goals as goal

pub returns-in-Some : goal.returns-in-Some
returns-in-Some c =
    c.eq.ensures
    ∙ sym (child_named c.args.self.now c.args.key c.args.parent c.parent.ensures.sound
    ∙ ap (λ o. is_named o c.args.parent) (sym c.parent.ensures.parent ∙ c.in-Some.is))

pub returns-in-None : goal.returns-in-None
returns-in-None c =
    sym (child_named c.args.self.now c.args.key c.args.parent c.parent.ensures.sound
    ∙ ap (λ o. is_named o c.args.parent) (sym c.parent.ensures.parent ∙ c.in-None.is))
