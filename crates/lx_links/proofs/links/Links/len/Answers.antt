use Rattle.std.proofs.Common.{◌∙◌, sym, ap}
use Rattle.lx_trees.specs.NamedTrees.{total}
use Rattle.lx_links.proofs.Edited.{all_held}
use Rattle.lx_links.proofs.Stood.{stood_by, failed_by, sound}
use Rattle.lx_links.proofs.links.Links.len.Goals as goal

pub returns-in-Some : goal.returns-in-Some
returns-in-Some c =
    record {
      len = c.len.ensures
          ∙ all_held c.in-Some.store c.args.self.now (stood_by c.self.inside.held c.self.inside.stands _ c.in-Some.store c.self.view_is c.in-Some.is);
      sound = sound c.self.inside.held c.self.inside.stands _ c.self.view_is;
    }

pub returns-in-None : goal.returns-in-None
returns-in-None c =
    record {
      len = sym (ap total (failed_by c.self.inside.held c.self.inside.stands _ c.self.view_is c.in-None.is));
      sound = sound c.self.inside.held c.self.inside.stands _ c.self.view_is;
    }
