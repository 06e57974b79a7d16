use Rattle.std.proofs.Common.{◌∙◌, sym}
use Rattle.lx_host.specs.Hosts.{id_of}
use Rattle.lx_trees.proofs.Within.{is_within-self}
use Rattle.lx_host.proofs.Changed.{child_smaller, child_within, no_child}
use Rattle.lx_host.proofs.grove.Grove.leaf_below.Goals as goal

pub loop-child-init : goal.loop-child-init
loop-child-init c = is_within-self id_of c.args.self.now.hosts c.args.id ∙ c.requires.there

pub loop-child-smaller : goal.loop-child-smaller
loop-child-smaller c = child_smaller c.args.self.now.hosts c.loop-child.at c.in-Some.child c.first.ensures.ordered (sym c.first.ensures.first ∙ c.in-Some.is)

pub loop-child-preserved : goal.loop-child-preserved
loop-child-preserved c =
    child_within c.args.self.now.hosts c.args.id c.loop-child.at c.in-Some.child c.first.ensures.ordered c.loop-child.invariant
    (sym c.first.ensures.first ∙ c.in-Some.is)

pub returns-clause-leaf : goal.returns-clause-leaf
returns-clause-leaf c = no_child c.args.self.now.hosts c.loop-child.at (sym c.first.ensures.first ∙ c.in_default.is)
