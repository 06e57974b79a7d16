use Rattle.std.proofs.Common.{sym, ap, ◌∙◌, arith}
use Rattle.lx_store.specs.Pages.{fitted, slots_held}
use Rattle.lx_store.proofs.Joined.{fitted_free}
use Rattle.lx_store.proofs.leaf.Leaf.give_up.Goals as goal

pub returns-then-is_empty : goal.returns-then-is_empty
returns-then-is_empty g c =
    ap (λ held. fitted (slots_held held)) c.take.ensures.after
    ∙ fitted_free c.deref.result.now (c.is_empty.ensures.empty (grind (arith, c.if-is_empty.true))) c.is_empty.ensures.size
    ∙ ap fitted (c.deref.ensures ∙ ap slots_held (sym c.in-Some.is) ∙ c.self.view_is)
