use Rattle.std.proofs.Common.{◌∙◌}
use Rattle.lx_links.proofs.Stood.{node_by, no_node, failed_by, sound}
use Rattle.lx_links.proofs.links.Links.node.Goals as goal

pub returns-in-Some : goal.returns-in-Some
returns-in-Some c =
    record {
      node = c.get.ensures ∙ node_by c.self.inside.held c.self.inside.stands _ c.in-Some.store c.args.key c.self.view_is c.in-Some.is;
      sound = sound c.self.inside.held c.self.inside.stands _ c.self.view_is;
    }

pub returns-in-None : goal.returns-in-None
returns-in-None c =
    record {
      node = no_node _ c.args.key (failed_by c.self.inside.held c.self.inside.stands _ c.self.view_is c.in-None.is);
      sound = sound c.self.inside.held c.self.inside.stands _ c.self.view_is;
    }
