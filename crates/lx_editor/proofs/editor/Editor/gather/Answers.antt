use Rattle.std.proofs.Common.{arith, sym, subst}
use Rattle.lx_editor.specs.Gathering.{started_of, IsPending}
use Rattle.lx_editor.proofs.Updated.{still_covered}
use Rattle.lx_editor.proofs.editor.Editor.gather.Goals as goal

pub returns-in-Ok-new-clause-pending : goal.returns-in-Ok-new-clause-pending
returns-in-Ok-new-clause-pending c =
    subst (IsPending (started_of c.args.self.now)) (sym c.in-Ok-new.ensures.ok)
    (record {
      covered =
          still_covered (started_of c.args.self.now) c.in-Ok.draft c.in-Ok-run_deferred.draft c.in-Ok.ensures.covered c.in-Ok-run_deferred.ensures.covered;
      counted = omega (arith, c.in-Ok.ensures.counted, c.in-Ok-run_deferred.ensures.counted, c.gathered-before.ensures);
    })
