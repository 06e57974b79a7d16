use Rattle.std.proofs.Common.{sym, subst}
use Rattle.lx_editor.specs.Editor.{Editor}
use Rattle.lx_editor.specs.Gathering.{started_of}
use Rattle.lx_editor.specs.Registered.{marked_for, left_for}
use Rattle.lx_editor.specs.Judged.{IsJudged}
use Rattle.lx_editor.proofs.Updated.{marked_left, still_covered}
use Rattle.lx_editor.proofs.Told.{told}
use Rattle.lx_editor.proofs.editor.Editor.judge_marked.Goals as goal

pub judge_draft-requires : goal.judge_draft-requires
judge_draft-requires c =
    record { covered = still_covered (started_of c.args.self.now) c.args.draft c.mark_type.new.draft c.requires.covered c.in-Ok.ensures.covered }

pub returns-in-Ok : goal.returns-in-Ok
returns-in-Ok c =
    let e : Editor = c.args.self.now in
    record {
      judged =
          told c.judge_draft.result _ _ c.judge_draft.ensures.judged
          (λ verdict judged. subst (λ r. IsJudged r e verdict) (sym (marked_left e.rules c.args.on c.args.draft c.mark_type.new.draft c.in-Ok.ensures.ok))
          judged);
    }

pub returns-in-Err : goal.returns-in-Err
unfolding left_for
returns-in-Err c =
    let e : Editor = c.args.self.now in
    record { judged = c.verdict_of_fault.ensures.judged e.rules (marked_for c.args.on c.args.draft) e c.in-Err.ensures.err }
