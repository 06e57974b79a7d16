use Rattle.lx_links.specs.Splices.{FitsSplice}
use Rattle.lx_links.proofs.Maps.{if_there}
use Rattle.lx_links.proofs.Spliced.{spliced_differs}
use Rattle.lx_links.proofs.splices.splice_node.Goals as goal

pub change-requires : goal.change-requires
change-requires c = if_there (FitsSplice c.args.splice) _ (λ n there. c.requires n there)

pub returns : goal.returns
returns c = λ n t before within behind there is cuts.
    spliced_differs c.args.store.now _ c.args.key c.args.splice n t before within behind there is cuts c.in_ok-change.ensures.changed
