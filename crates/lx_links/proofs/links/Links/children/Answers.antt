use Rattle.lx_links.proofs.Beside.{all_left}
use Rattle.lx_links.proofs.links.Links.children.Goals as goal

pub invariant_of-result : goal.invariant_of-result
invariant_of-result c = all_left c.args.self.now c.args.key _ _ _ c.size.ensures.sound c.size.ensures.size c.first.ensures.first c.last.ensures.last
