use Rattle.std.proofs.Common.{◌-◌, ◌∙◌, sym, ap, arith, rules}
use Rattle.std.specs.FinMap.{get}
use Rattle.lx_store.proofs.Ends.{last_small, after_last, no_last}
use Rattle.lx_store.proofs.table.Table.end.Goals as goal

pub returns-then-count-eq0-clause-end : goal.returns-then-count-eq0-clause-end
returns-then-count-eq0-clause-end g c key past =
    ap (λ m. get m key) (sym c.self.view_is) ∙ no_last c.self.inside.chapters.items key c.self.invariant (search rules)

pub overflow_add-result : goal.overflow_add-result
overflow_add-result g c =
    let small = last_small c.self.inside.chapters.items (c.len-count.result - 1) c.index.result.now c.self.invariant (search rules) c.index.ensures in
    grind (arith, small)

pub returns-clause-small : goal.returns-clause-small
returns-clause-small g c =
    let small = last_small c.self.inside.chapters.items (c.len-count.result - 1) c.index.result.now c.self.invariant (search rules) c.index.ensures in
    omega (arith, small)

pub returns-clause-end : goal.returns-clause-end
returns-clause-end g c key past =
    ap (λ m. get m key) (sym c.self.view_is)
    ∙ after_last c.self.inside.chapters.items (c.len-count.result - 1) c.index.result.now c.self.invariant (search rules) c.index.ensures key past
