use Rattle.std.proofs.Common.{Some, set, sym, ap, ◌∙◌}
use Rattle.lx_store.specs.Pages.{fitted, slots_held}
use Rattle.lx_store.proofs.Joined.{fitted_written, fitted_new}
use Rattle.lx_store.proofs.leaf.Leaf.put.Goals as goal

pub returns-in_ok-write-in-Some-clause-written : goal.returns-in_ok-write-in-Some-clause-written
returns-in_ok-write-in-Some-clause-written g c =
    ap fitted c.in_ok-write-in-Some.ensures.written
    ∙ fitted_written c.in-Some.page.value c.args.slot (Some c.args.item) c.in_ok-write-in-Some.ensures.size
    ∙ ap (λ xs. set (fitted xs) c.args.slot (Some c.args.item)) (ap slots_held (sym c.in-Some.is) ∙ c.self.view_is)

pub returns-in_ok-holding-in-None-clause-written : goal.returns-in_ok-holding-in-None-clause-written
returns-in_ok-holding-in-None-clause-written g c =
    ap fitted c.in_ok-holding-in-None.ensures.held ∙ fitted_new c.args.slot (Some c.args.item)
    ∙ ap (λ xs. set (fitted xs) c.args.slot (Some c.args.item)) (ap slots_held (sym c.in-None.is) ∙ c.self.view_is)
