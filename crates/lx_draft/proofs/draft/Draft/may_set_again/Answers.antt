use Rattle.std.proofs.Common.{ap}
use Rattle.lx_draft.specs.Working.{Working}
use Rattle.lx_draft.proofs.Again.{may_again, refuses_again}
use Rattle.lx_draft.proofs.draft.Draft.may_set_again.Goals as goal

pub returns-in-Ok-clause-allowed : goal.returns-in-Ok-clause-allowed
returns-in-Ok-clause-allowed c =
    may_again _ c.args.key c.in-Some.node.now c.self.inside.links _ (ap (λ (w : Working). w.forest) c.self.view_is) c.in_ok-living.ensures.order
    c.node.ensures.sound.suited
    c.in-Some.ensures.node c.in-Ok.ensures.ok

pub returns-in-Err-clause-err : goal.returns-in-Err-clause-err
returns-in-Err-clause-err c =
    refuses_again _ c.args.key c.in-Some.node.now c.self.inside.links _ (ap (λ (w : Working). w.forest) c.self.view_is) c.in_ok-living.ensures.living
    c.node.ensures.sound.suited
    c.in-Some.ensures.node c.in-Err.ensures.err
