use Rattle.lx_joints.specs.Changes.{Fits}
use Rattle.lx_links.specs.Changes.{links_of}
use Rattle.lx_links.proofs.Maps.{if_there, links_differ}
use Rattle.lx_links.proofs.changes.NodesKeeper.change.Goals as goal

pub change-requires : goal.change-requires
change-requires c = if_there (λ n. Fits c.args.change (links_of n)) _ (λ n there. c.requires n there)

pub returns-clause-differs : goal.returns-clause-differs
returns-clause-differs c = links_differ c.args.table.now _ c.args.name c.args.change c.in_ok-change.ensures.changed
