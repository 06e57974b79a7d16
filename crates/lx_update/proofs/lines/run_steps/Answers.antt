use Rattle.std.proofs.Common.{◌≡◌, ◌∙◌, Ok, ap, sym}
use Rattle.lx_update.specs.Lines.{left_draft, steps_run}
use Rattle.lx_update.proofs.Made.{refusal_of, steps_refused_by, steps_come_to, steps_told, steps_end}
use Rattle.lx_update.proofs.lines.run_steps.Goals as goal

pub returns-in-Err-clause-err : goal.returns-in-Err-clause-err
returns-in-Err-clause-err c =
    refusal_of c.in-Err.refusal _ _
    (λ refused e. steps_refused_by c.args.bus.now c.args.steps.now c.args.draft c.new-running.result refused c.new-running.ensures.first e)
    c.in-Err.ensures.err

pub returns-in-Ok-run_rest-clause-covered : goal.returns-in-Ok-run_rest-clause-covered
returns-in-Ok-run_rest-clause-covered c ready =
    let made : steps_run c.args.bus.now c.args.steps.now c.args.draft ≡ Ok c.run_rest.new.running =
    steps_come_to c.args.bus.now c.args.steps.now c.args.draft c.new-running.result c.run_script.new.running c.run_rest.new.running c.new-running.ensures.first
    c.in-Ok.ensures.ok c.in-Ok-run_rest.ensures.ok in
    steps_told c.args.bus.now c.args.steps.now c.args.draft c.into_draft.result (ap left_draft made ∙ ap (λ left. Ok left) (sym c.into_draft.ensures)) ready

pub returns-in-Ok-run_rest-clause-emptied : goal.returns-in-Ok-run_rest-clause-emptied
returns-in-Ok-run_rest-clause-emptied c = steps_end c.args.bus.now c.args.steps.now c.args.draft c.new-running.ensures.few
