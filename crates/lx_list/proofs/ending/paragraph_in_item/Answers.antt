use Rattle.lx_caret.proofs.Lying.{does_lie}
use Rattle.lx_list.proofs.Ended.{paragraph_in_item_fits}
use Rattle.lx_list.proofs.ending.paragraph_in_item.Goals as goal

pub returns-clause-lying : goal.returns-clause-lying
returns-clause-lying c =
    does_lie _ _ c.end_at.result
    (λ e lying there.
    (paragraph_in_item_fits c.args.item c.args.draft.now c.end_at.new.draft
    (record { ready = c.in_ok-ready.ensures.ready; held = c.ready.ensures.held; short = c.ready.ensures.short; lying = lying }) there e).lying)
    c.end_at.ensures
