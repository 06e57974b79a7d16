use Rattle.lx_store.specs.Differing.{first_after}
use Rattle.lx_links.proofs.Stood.{node_by, failed_by, same_nodes}
use Rattle.lx_links.proofs.links.Links.next_difference.Goals as goal

pub returns-in_default : goal.returns-in_default
returns-in_default c q up = absurd (c.requires.living (failed_by c.self.inside.held c.self.inside.stands _ c.self.view_is c.in_default.is))

pub returns-in_default-held : goal.returns-in_default-held
returns-in_default-held c q up = absurd (c.requires.other_living (failed_by c.other.inside.held c.other.inside.stands _ c.other.view_is c.in_default-held.is))

pub returns : goal.returns
returns c =
    same_nodes c.in-Some.nodes c.in-Some-held.others c.args.self.now c.args.other.now (first_after c.args.after) c.next_difference.result
    (λ q. node_by c.self.inside.held c.self.inside.stands _ c.in-Some.nodes q c.self.view_is c.in-Some.is)
    (λ q. node_by c.other.inside.held c.other.inside.stands _ c.in-Some-held.others q c.other.view_is c.in-Some-held.is)
    c.next_difference.ensures
