use Rattle.std.proofs.Common.{◌≡◌, ◌∙◌, Ok, ap, sym}
use Rattle.lx_update.specs.declared.ending.Ending.TheVariants.{Left}
use Rattle.lx_update.specs.Lines.{ran, answer_drafted, dispatch_run, ended_with}
use Rattle.lx_update.proofs.Made.{refusal_of}
use Rattle.lx_update.proofs.Ends.{dispatch_refused_by, dispatch_refused_behind, dispatch_comes_to, dispatch_told, dispatch_ends}
use Rattle.lx_update.proofs.lines.run_dispatch.Goals as goal

pub returns-in-Err-clause-err : goal.returns-in-Err-clause-err
returns-in-Err-clause-err c =
    refusal_of c.in-Err.refusal _ _
    (λ refused e. dispatch_refused_by c.args.bus.now c.args.command.now c.args.draft c.new-running.result refused c.new-running.ensures.first e)
    c.in-Err.ensures.err

pub returns-in-Ok-clause-covered : goal.returns-in-Ok-clause-covered
returns-in-Ok-clause-covered c ready =
    let made : dispatch_run c.args.bus.now c.args.command.now c.args.draft ≡ Ok (ran c.run_rest.new.running c.in-Ok-Ran.handled) =
    dispatch_comes_to c.args.bus.now c.args.command.now c.args.draft c.new-running.result c.run_command.new.running c.run_rest.new.running c.in-Ok-Ran.handled
    c.new-running.ensures.first
    (c.in-Ok-Ran.ensures.ok ∙ ap (λ ended. Ok (ended_with ended c.run_command.new.running)) c.in-Ok-Ran.field-0-is) c.in-Ok.ensures.ok in
    dispatch_told c.args.bus.now c.args.command.now c.args.draft (Left c.into_draft.result c.in-Ok-Ran.handled)
    (ap answer_drafted made ∙ ap (λ draft. Ok (Left draft c.in-Ok-Ran.handled)) (sym c.into_draft.ensures)) ready

pub returns-in-Ok-clause-emptied : goal.returns-in-Ok-clause-emptied
returns-in-Ok-clause-emptied c = dispatch_ends c.args.bus.now c.args.command.now c.args.draft c.new-running.ensures.few

pub returns-in-Err-run_rest-clause-err : goal.returns-in-Err-run_rest-clause-err
returns-in-Err-run_rest-clause-err c =
    refusal_of c.in-Err-run_rest.refusal _ _ (λ refused e.
    dispatch_refused_behind c.args.bus.now c.args.command.now c.args.draft c.new-running.result c.run_command.new.running c.in-Ok-Ran.handled refused
    c.new-running.ensures.first
    (c.in-Ok-Ran.ensures.ok ∙ ap (λ ended. Ok (ended_with ended c.run_command.new.running)) c.in-Ok-Ran.field-0-is) e) c.in-Err-run_rest.ensures.err
