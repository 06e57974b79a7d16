use Rattle.std.proofs.Common.{◌∙◌, sym, ap, arith}
use Rattle.lx_host.specs.Hosts.{id_of}
use Rattle.lx_trees.specs.Lookups.{is_within}
use Rattle.lx_trees.proofs.Within.{is_within-self, is_within-up}
use Rattle.lx_host.proofs.Changed.{one_up, not_top}
use Rattle.lx_host.proofs.grove.Grove.is_within.Goals as goal

pub loop-at-smaller : goal.loop-at-smaller
loop-at-smaller c =
    omega (arith, one_up c.args.self.now.hosts c.loop-at.at c.in-Some.parent c.parent.ensures.ordered (sym c.parent.ensures.parent ∙ c.in-Some.is))

pub loop-at-preserved : goal.loop-at-preserved
loop-at-preserved c =
    c.loop-at.invariant
    ∙ is_within-up id_of c.args.self.now.hosts c.args.outer c.loop-at.at c.in-Some.parent c.parent.ensures.ordered (sym c.parent.ensures.parent ∙ c.in-Some.is)
    c.loop-at-test.true

pub returns-in-None-clause-within : goal.returns-in-None-clause-within
returns-in-None-clause-within c =
    sym (c.loop-at.invariant
    ∙ not_top c.args.self.now.hosts c.args.outer c.loop-at.at c.parent.ensures.ordered c.loop-at-test.true (sym c.parent.ensures.parent ∙ c.in-None.is))

pub returns-clause-within : goal.returns-clause-within
returns-clause-within c =
    c.has.ensures.has
    ∙ sym (c.loop-at.invariant ∙ ap (is_within id_of c.args.self.now.hosts c.args.outer) c.loop-at-test.false
    ∙ is_within-self id_of c.args.self.now.hosts c.args.outer)
