use Rattle.std.proofs.Common.{None, set, sym, ap, ◌∙◌}
use Rattle.lx_store.specs.Pages.{fitted, slots_held}
use Rattle.lx_store.proofs.Joined.{fitted_written, fitted_none}
use Rattle.lx_store.proofs.leaf.Leaf.take.Goals as goal

pub returns-in_default-clause-written : goal.returns-in_default-clause-written
returns-in_default-clause-written g c =
    ap (λ held. fitted (slots_held held)) c.in_default.is ∙ fitted_none c.args.slot c.requires
    ∙ ap (λ xs. set (fitted xs) c.args.slot None) (ap slots_held (sym c.in_default.is) ∙ c.self.view_is)

pub returns-clause-written : goal.returns-clause-written
returns-clause-written g c =
    c.give_up.ensures ∙ ap fitted c.in_ok-taken.ensures.written
    ∙ fitted_written c.in-Some.page.value c.args.slot None c.in_ok-taken.ensures.size
    ∙ ap (λ xs. set (fitted xs) c.args.slot None) (ap slots_held (sym c.in-Some.is) ∙ c.self.view_is)
