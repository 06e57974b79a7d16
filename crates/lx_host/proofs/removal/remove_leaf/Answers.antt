use Rattle.std.proofs.Common.{ap, sym, ◌∙◌, Some}
use Rattle.lx_host.proofs.Removed.{keyed_gone, keyed_absent}
use Rattle.lx_host.proofs.removal.remove_leaf.Goals as goal

pub returns-in-Some-clause-keyed : goal.returns-in-Some-clause-keyed
returns-in-Some-clause-keyed c =
    keyed_gone c.args.keys.now c.take_shown.new.keys c.args.grove.now.hosts c.take_leaf.new.self.hosts c.number.result c.args.id c.take_leaf.ensures.taken
    c.key-key.ensures.ordered c.requires.leaf c.requires.keyed (ap (λ k. Some k) c.number.ensures ∙ sym c.in-Some.is ∙ c.key-key.ensures.key)
    c.take_shown.ensures.each

pub returns-in_default-clause-keyed : goal.returns-in_default-clause-keyed
returns-in_default-clause-keyed c =
    keyed_absent c.args.keys.now c.args.grove.now.hosts c.take_leaf.new.self.hosts c.args.id c.take_leaf.ensures.taken c.requires.keyed
    (sym c.in_default.is ∙ c.key-key.ensures.key)
