use Rattle.std.proofs.Common.{◌≡◌, ◌+◌, ◌≤◌, arith}
use Rattle.lx_draft.specs.Covering.{AreCovered}
use Rattle.lx_draft.proofs.Covered.{covered-then}
use Rattle.lx_draft.proofs.CoveredSteps.{covered-count}
use Rattle.lx_update.proofs.Counted.{count-counted}
use Rattle.lx_update.proofs.Made.{steps_count}
use Rattle.lx_update.proofs.lines.run_deferred.Goals as goal

pub returns-in-Ok-run_steps-clause-covered : goal.returns-in-Ok-run_steps-clause-covered
returns-in-Ok-run_steps-clause-covered c ready =
    let begun : AreCovered c.args.draft c.count.new.self = covered-count c.args.draft c.count.new.self ready c.in-Ok.ensures.ok in
    covered-then c.args.draft c.count.new.self c.in-Ok-run_steps.left begun (c.in-Ok-run_steps.ensures.covered begun.ready)

pub returns-in-Ok-run_steps-clause-counted : goal.returns-in-Ok-run_steps-clause-counted
returns-in-Ok-run_steps-clause-counted c =
    let before : c.count.new.self.counted ≡ c.args.draft.counted + 1 = count-counted c.args.draft c.count.new.self c.in-Ok.ensures.ok in
    let after : c.count.new.self.counted ≤ c.in-Ok-run_steps.left.counted =
    steps_count c.args.bus.now c.args.steps.now c.count.new.self c.in-Ok-run_steps.left c.in-Ok-run_steps.ensures.ok in
    omega (arith, before, after)
