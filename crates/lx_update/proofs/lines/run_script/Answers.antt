use Rattle.std.proofs.Common.{◌≡◌, ◌∙◌, Ok, ap, sym, arith}
use Rattle.std.proofs.lemmas.Grind.{common_steps}
use Rattle.lx_step.specs.declared.command.Payload.TheVariants.{Nothing}
use Rattle.lx_update.specs.Lines.{script_from}
use Rattle.lx_update.specs.Running.{step_in, dispatched, most_nested}
use Rattle.lx_update.proofs.Made.{step_within}
use Rattle.lx_update.proofs.Paced.{step_counts}
use Rattle.lx_update.proofs.lines.run_script.Goals as goal

pub loop-step-preserved : goal.loop-step-preserved
unfolding script_from
loop-step-preserved c =
    let ran : step_in (dispatched most_nested c.args.bus.now) Nothing c.step-item.result c.loop-step.running ≡ Ok c.run_step.new.running =
    ap (λ sent. step_in (dispatched most_nested c.args.bus.now) sent c.step-item.result c.loop-step.running) (sym c.requires.nothing) ∙ c.in-Ok.ensures.ok in
    let more = step_counts most_nested c.args.bus.now Nothing c.step-item.result c.loop-step.running c.run_step.new.running ran in
    record {
      same = grind (arith, common_steps);
      begun = omega (arith, c.loop-step.invariant.begun, more);
      few = step_within most_nested c.args.bus.now c.step-item.result c.loop-step.running c.run_step.new.running ran c.loop-step.invariant.few;
    }
