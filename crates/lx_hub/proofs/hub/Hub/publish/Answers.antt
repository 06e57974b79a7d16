use Rattle.std.proofs.Common.{sym, subst}
use Rattle.lx_hub.specs.Standing.{hub_of, IsHub}
use Rattle.lx_hub.proofs.Kept.{published_now, published_hub}
use Rattle.lx_hub.proofs.hub.Hub.publish.Goals as goal

pub returns-clause-published : goal.returns-clause-published
returns-clause-published c =
    published_now (hub_of c.self.inside) c.args.self.now c.in_ok-batch.batch c.args.ops _ c.reserve.new.self.tree c.apply.new.self.tree _ _
    c.self.view_is c.in_ok-batch.ensures c.reserve.ensures.same c.into_vec.ensures c.apply.ensures c.in_ok-push_front.ensures.items c.truncate.ensures.items

pub invariant_of-self-2 : goal.invariant_of-self-2
invariant_of-self-2 c =
    let now = published_now (hub_of c.self.inside) c.args.self.now c.in_ok-batch.batch c.args.ops _ c.reserve.new.self.tree c.apply.new.self.tree _ _
    c.self.view_is c.in_ok-batch.ensures c.reserve.ensures.same c.into_vec.ensures c.apply.ensures c.in_ok-push_front.ensures.items c.truncate.ensures.items in
    subst IsHub (sym now) (published_hub c.args.self.now c.args.ops c.requires.fit c.requires.room (subst IsHub c.self.view_is c.self.invariant))
