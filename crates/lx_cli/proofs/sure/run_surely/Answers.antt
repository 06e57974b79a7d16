use Rattle.std.proofs.Common.{refl}
use Rattle.lx_cli.proofs.SureRuns.{RunsAsAsked-sure}
use Rattle.lx_cli.proofs.sure.run_surely.Goals as goal

pub returns-clause-sure : goal.returns-clause-sure
returns-clause-sure g c = RunsAsAsked-sure c.run.result _ c.run.ensures.2 refl refl
