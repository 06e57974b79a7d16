use Rattle.std.proofs.Common.{◌∙◌, Option, ℕ, sym, ap, subst}
use Rattle.lx_edit.specs.Standing.{Does}
use Rattle.lx_caret.specs.Deleting.{on_to, stop_behind}
use Rattle.lx_caret.proofs.joining.join_on.Goals as goal

pub returns-in-Some : goal.returns-in-Some
returns-in-Some c =
    subst (λ (found : Option ℕ). Does (on_to found c.args.draft.now) c.meet.new.draft c.meet.result)
    (sym c.in-Some.is ∙ c.stop_behind.ensures.stop ∙ ap (λ f. stop_behind f c.args.block) c.links.ensures.forest) c.meet.ensures
