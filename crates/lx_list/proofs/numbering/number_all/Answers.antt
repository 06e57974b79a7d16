use Rattle.lx_caret.proofs.Lying.{does_lie}
use Rattle.lx_list.proofs.Renumbered.{renumbered}
use Rattle.lx_list.proofs.Renumbers.{number_lies}
use Rattle.lx_list.proofs.numbering.number_all.Goals as goal

pub returns-clause-numbered : goal.returns-clause-numbered
returns-clause-numbered c =
    does_lie _ _ c.number_tree.result
    (λ e. renumbered c.args.draft.now c.number_tree.new.draft c.in_ok-ready.ensures.ready.in_order c.in_ok-ready.ensures.held c.in_ok-ready.ensures.suited e)
    c.number_tree.ensures

pub returns-clause-lying : goal.returns-clause-lying
returns-clause-lying c =
    does_lie _ _ c.number_tree.result
    (λ e. number_lies c.args.draft.now c.number_tree.new.draft c.in_ok-ready.ensures.ready c.in_ok-ready.ensures.held e
    c.in_ok-ready.ensures.short) c.number_tree.ensures
