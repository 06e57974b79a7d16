use Rattle.lx_store.proofs.Counted.{one_more, as_many}
use Rattle.lx_store.proofs.store.Store.put.Goals as goal

pub invariant_of-self-then-is_none : goal.invariant_of-self-then-is_none
invariant_of-self-then-is_none g c =
    one_more c.self.inside.held c.put.new.self c.args.key c.args.item c.in_ok-old.old c.self.inside.count c.in_ok-old.ensures.old c.in_ok-old.ensures.put
    c.self.invariant c.if-is_none.ensures

pub invariant_of-self-else-is_none : goal.invariant_of-self-else-is_none
invariant_of-self-else-is_none g c =
    as_many c.self.inside.held c.put.new.self c.args.key c.args.item c.in_ok-old.old c.self.inside.count c.in_ok-old.ensures.old c.in_ok-old.ensures.put
    c.self.invariant c.if-is_none.ensures
