use Rattle.std.proofs.Common.{set, option_map, sym, ap, ◌∙◌}
use Rattle.lx_store.specs.Pages.{slot_at, fitted, slots_held}
use Rattle.lx_store.proofs.Joined.{fitted_written, fitted_none}
use Rattle.lx_store.proofs.leaf.Leaf.change.Goals as goal

pub returns-in_default-clause-changed : goal.returns-in_default-clause-changed
returns-in_default-clause-changed g c =
    ap (λ held. fitted (slots_held held)) c.in_default.is ∙ fitted_none c.args.slot c.requires.slot
    ∙ ap (λ xs. set (fitted xs) c.args.slot (option_map (g.E.Edit.edited c.args.edit) (slot_at xs c.args.slot)))
    (ap slots_held (sym c.in_default.is) ∙ c.self.view_is)

pub returns-clause-changed : goal.returns-clause-changed
returns-clause-changed g c =
    ap fitted c.in_ok-change.ensures.changed
    ∙ fitted_written c.in-Some.page.value c.args.slot (option_map (g.E.Edit.edited c.args.edit) (slot_at c.in-Some.page.value c.args.slot))
    c.in_ok-change.ensures.size
    ∙ ap (λ xs. set (fitted xs) c.args.slot (option_map (g.E.Edit.edited c.args.edit) (slot_at xs c.args.slot)))
    (ap slots_held (sym c.in-Some.is) ∙ c.self.view_is)
