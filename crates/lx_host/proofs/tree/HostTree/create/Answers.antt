use Rattle.std.proofs.Common.{ap, arith}
use Rattle.lx_host.specs.Room.{Held}
use Rattle.lx_host.proofs.Kept.{kept_created, created_tree, small_entry}
use Rattle.lx_host.proofs.Standing.{fits_now}
use Rattle.lx_host.proofs.tree.HostTree.create.Goals as goal

pub create-requires-clause-above : goal.create-requires-clause-above
create-requires-clause-above c =
    let h = fits_now _ c.self.view_is c.requires.fits in
    λ q l. c.self.invariant.below q (omega (arith, h.is_next, l))

pub create-requires-clause-below : goal.create-requires-clause-below
create-requires-clause-below c =
    let h = fits_now _ c.self.view_is c.requires.fits in
    omega (arith, h.is_next, h.below)

pub add_shown-requires-clause-small : goal.add_shown-requires-clause-small
add_shown-requires-clause-small c = λ s e.
    small_entry c.self.inside.keys c.self.inside.next_id _ c.args.id c.self.inside.grove.hosts s c.create.ensures.ordered c.self.invariant
    (fits_now _ c.self.view_is c.requires.fits) e

pub overflow_add-self : goal.overflow_add-self
overflow_add-self c = omega (arith, (fits_now _ c.self.view_is c.requires.fits).below)

pub invariant_of-self : goal.invariant_of-self
invariant_of-self c =
    kept_created c.self.inside.keys c.add_shown.new.keys c.self.inside.next_id _ c.args.id _ c.self.inside.grove.hosts c.create.new.self.hosts
    c.create.ensures.created c.self.invariant (fits_now _ c.self.view_is c.requires.fits).is_next c.number.ensures c.add_shown.ensures.each

pub returns-clause-created : goal.returns-clause-created
returns-clause-created c =
    created_tree _ _ c.args.self.now.tree c.self.inside.grove.hosts c.create.new.self.hosts c.self.inside.next_id (ap (λ (v : Held). v.tree) c.self.view_is)
    c.create.ensures.created
