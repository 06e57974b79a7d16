use Rattle.std.proofs.Common.{sym}
use Rattle.lx_store.proofs.Counted.{not_empty, one_less, none_less}
use Rattle.lx_store.proofs.store.Store.take.Goals as goal

pub overflow_sub-self : goal.overflow_sub-self
overflow_sub-self g c =
    not_empty c.self.inside.held c.args.key c.in_ok-taken.taken c.self.inside.count c.in_ok-taken.ensures.taken c.self.invariant (sym c.if-is_some.ensures)

pub invariant_of-self-then-is_some : goal.invariant_of-self-then-is_some
invariant_of-self-then-is_some g c =
    one_less c.self.inside.held c.take.new.self c.args.key c.in_ok-taken.taken c.self.inside.count c.in_ok-taken.ensures.taken c.in_ok-taken.ensures.gone
    c.self.invariant (sym c.if-is_some.ensures)

pub invariant_of-self-else-is_some : goal.invariant_of-self-else-is_some
invariant_of-self-else-is_some g c =
    none_less c.self.inside.held c.take.new.self c.args.key c.in_ok-taken.taken c.self.inside.count c.in_ok-taken.ensures.taken c.in_ok-taken.ensures.gone
    c.self.invariant (sym c.if-is_some.ensures)
