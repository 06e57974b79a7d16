use Rattle.lx_blocks.proofs.Labelled.{labels, suits, no_label}
use Rattle.lx_blocks.proofs.making.node_at.Goals as goal

pub returns-clause-label : goal.returns-clause-label
returns-clause-label c = labels c.node.result c.args.links.now c.args.key c.node.ensures.node

pub returns-clause-suited : goal.returns-clause-suited
returns-clause-suited c = suits c.node.result c.args.links.now c.args.key c.node.ensures.sound c.node.ensures.node

pub returns-clause-none : goal.returns-clause-none
returns-clause-none c = no_label c.node.result c.args.links.now c.args.key c.node.ensures.node
