use Rattle.lx_list.specs.Outdenting.{outdent_step}
use Rattle.lx_caret.proofs.Lying.{does_lie}
use Rattle.lx_list.proofs.Outs.{lies-outdent}
use Rattle.lx_list.proofs.commands.outdent.Goals as goal

pub returns-clause-lying : goal.returns-clause-lying
unfolding outdent_step
returns-clause-lying c =
    does_lie _ _ c.edit_lines.result
    (λ e. lies-outdent c.args.draft.now c.edit_lines.new.draft c.in_ok-ready.ensures.ready c.ready.ensures.held c.ready.ensures.short e) c.edit_lines.ensures
