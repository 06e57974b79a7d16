use Rattle.std.proofs.Common.{◌∙◌, Option, ℕ, sym, ap, subst}
use Rattle.lx_edit.specs.Standing.{Does}
use Rattle.lx_caret.specs.Deleting.{back_to, stop_before, join_back_step}
use Rattle.lx_caret.proofs.joining.join_back.Goals as goal

pub returns-in-Some : goal.returns-in-Some
unfolding join_back_step
returns-in-Some c =
    subst (λ (found : Option ℕ). Does (back_to found c.args.block c.args.draft.now) c.join_with.new.draft c.join_with.result)
    (sym c.in-Some.is ∙ c.stop_before.ensures ∙ ap (λ f. stop_before f c.args.block) c.links.ensures.forest) c.join_with.ensures
