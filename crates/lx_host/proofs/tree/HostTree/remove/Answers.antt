use Rattle.std.proofs.Common.{ap}
use Rattle.lx_host.specs.Room.{Held}
use Rattle.lx_host.proofs.Kept.{dropped_tree, kept_dropped}
use Rattle.lx_host.proofs.Standing.{fits_now}
use Rattle.lx_host.proofs.tree.HostTree.remove.Goals as goal

pub remove_tree-requires-clause-other : goal.remove_tree-requires-clause-other
remove_tree-requires-clause-other c = (fits_now _ c.self.view_is c.requires.fits).other

pub remove_tree-requires-clause-there : goal.remove_tree-requires-clause-there
remove_tree-requires-clause-there c = (fits_now _ c.self.view_is c.requires.fits).there

pub invariant_of-self : goal.invariant_of-self
invariant_of-self c =
    kept_dropped c.remove_tree.new.keys c.self.inside.next_id c.args.id c.self.inside.grove.hosts c.remove_tree.new.grove.hosts c.remove_tree.ensures.taken
    c.self.invariant.below c.remove_tree.ensures.keyed

pub returns-clause-dropped : goal.returns-clause-dropped
returns-clause-dropped c =
    dropped_tree c.args.id c.args.self.now.tree c.self.inside.grove.hosts c.remove_tree.new.grove.hosts c.self.inside.next_id
    (ap (λ (v : Held). v.tree) c.self.view_is) c.remove_tree.ensures.taken
