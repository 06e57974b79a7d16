use Rattle.std.proofs.Common.{◌∙◌, All, ap, sym, subst, chars}
use Rattle.lx_step.specs.Sound.{IsSoundListener}
use Rattle.lx_bus.specs.Offers.{offers_left}
use Rattle.lx_bus.proofs.Sounds.{all_offers_left}
use Rattle.lx_bus.proofs.bus.Bus.offers.Goals as goal

pub returns-clause-order : goal.returns-clause-order
returns-clause-order c = ap (λ all. offers_left c.args.more c.args.lowest (chars c.args.name.now) all all) (c.as_slice-all.ensures.value ∙ c.self.view_is)

pub returns-clause-sound : goal.returns-clause-sound
returns-clause-sound c =
    subst (λ all. All IsSoundListener (offers_left c.args.more c.args.lowest (chars c.args.name.now) all all)) (sym c.as_slice-all.ensures.value)
    (all_offers_left IsSoundListener c.args.more c.args.lowest (chars c.args.name.now) c.self.inside.listeners.items c.self.invariant.sound)
