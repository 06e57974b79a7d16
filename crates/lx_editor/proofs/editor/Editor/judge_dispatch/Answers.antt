use Rattle.std.proofs.Common.{ap, subst}
use Rattle.lx_update.specs.Lines.{dispatch_run, IsEndingCovered}
use Rattle.lx_update.specs.Refusals.{TellsRefusal}
use Rattle.lx_editor.specs.Editor.{Editor}
use Rattle.lx_editor.specs.Gathering.{started_of}
use Rattle.lx_editor.proofs.Judged.{answer_refused}
use Rattle.lx_editor.proofs.Updated.{still_covered}
use Rattle.lx_editor.proofs.editor.Editor.judge_dispatch.Goals as goal

pub judge_draft-requires : goal.judge_draft-requires
judge_draft-requires c =
    let covers = subst (IsEndingCovered c.args.draft) c.in-Ok-Left.field-0-is c.in-Ok-Left.ensures.covered in
    record { covered = still_covered (started_of c.args.self.now) c.args.draft c.in-Ok-Left.draft c.requires.covered covers }

pub returns-in_ok-verdict-in-Err : goal.returns-in_ok-verdict-in-Err
returns-in_ok-verdict-in-Err c =
    let e : Editor = c.args.self.now in
    let command = c.args.command.now in
    let tells : TellsRefusal c.in-Err.refusal (dispatch_run e.listeners command c.args.draft) =
    subst (λ ls. TellsRefusal c.in-Err.refusal (dispatch_run ls command c.args.draft)) (ap (λ (d : Editor). d.listeners) c.self.view_is) c.in-Err.ensures.err
    in
    let told = c.in_ok-verdict-in-Err.ensures in
    answer_refused c.args.gathering (dispatch_run e.listeners command c.args.draft) c.in-Err.refusal e c.in_ok-verdict-in-Err.verdict tells told.for_cause
    told.judged
