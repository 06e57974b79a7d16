use Rattle.std.proofs.Common.{ap, sym, subst}
use Rattle.std.specs.Prelude.{is_some}
use Rattle.lx_hub.specs.Standing.{hub_of, IsHub}
use Rattle.lx_hub.proofs.Kept.{with_views, detached_now, detached_hub}
use Rattle.lx_hub.proofs.hub.Hub.detach.Goals as goal

pub returns-in-None-clause-answer : goal.returns-in-None-clause-answer
returns-in-None-clause-answer c = ap is_some (sym c.in-None.ensures.found)

pub returns-in-None-clause-detached : goal.returns-in-None-clause-detached
returns-in-None-clause-detached c = ap (λ l. with_views l c.args.self.now) (sym c.in-None.ensures.without)

pub returns-in-Some-clause-answer : goal.returns-in-Some-clause-answer
returns-in-Some-clause-answer c = ap is_some (sym c.in-Some.ensures.1.found)

pub returns-in-Some-clause-detached : goal.returns-in-Some-clause-detached
returns-in-Some-clause-detached c =
    detached_now (hub_of c.self.inside) c.args.self.now c.args.view c.in-Some.at c.in-Some.ensures.0 _ c.self.view_is c.in-Some.ensures.1 c.remove.ensures.items

pub invariant_of-self : goal.invariant_of-self
invariant_of-self c =
    let now =
    detached_now (hub_of c.self.inside) c.args.self.now c.args.view c.in-Some.at c.in-Some.ensures.0 _ c.self.view_is c.in-Some.ensures.1
    c.remove.ensures.items in
    subst IsHub (sym now) (detached_hub c.args.self.now c.args.view (subst IsHub c.self.view_is c.self.invariant))
