use Rattle.std.proofs.Common.{ap}
use Rattle.lx_host.specs.Room.{Held}
use Rattle.lx_host.proofs.Kept.{kept_placed, placed_tree}
use Rattle.lx_host.proofs.Standing.{fits_now}
use Rattle.lx_host.proofs.tree.HostTree.place.Goals as goal

pub place-requires : goal.place-requires
place-requires c = fits_now _ c.self.view_is c.requires.fits

pub invariant_of-self : goal.invariant_of-self
invariant_of-self c =
    kept_placed c.self.inside.keys c.self.inside.next_id c.args.parent c.args.child c.args.before c.self.inside.grove.hosts c.place.new.self.hosts
    c.place.ensures.placed c.place.ensures.ordered (fits_now _ c.self.view_is c.requires.fits) c.self.invariant

pub returns-clause-placed : goal.returns-clause-placed
returns-clause-placed c =
    placed_tree c.args.parent c.args.child c.args.before c.args.self.now.tree c.self.inside.grove.hosts c.place.new.self.hosts c.self.inside.next_id
    (ap (λ (v : Held). v.tree) c.self.view_is) c.place.ensures.placed
