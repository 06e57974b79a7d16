use Rattle.std.proofs.Common.{◌≡◌, Ok, sym, ap, subst}
use Rattle.lx_update.specs.Lines.{left_draft, steps_run}
use Rattle.lx_update.specs.Refusals.{TellsRefusal}
use Rattle.lx_editor.specs.Editor.{Editor}
use Rattle.lx_editor.specs.Gathering.{started_of}
use Rattle.lx_editor.specs.Updated.{left_by}
use Rattle.lx_editor.specs.Judged.{IsJudged}
use Rattle.lx_editor.proofs.Updated.{are_left, steps_refused, still_covered}
use Rattle.lx_editor.proofs.Told.{told}
use Rattle.lx_editor.proofs.editor.Editor.judge.Goals as goal

pub judge_draft-requires : goal.judge_draft-requires
judge_draft-requires c =
    record { covered = still_covered (started_of c.args.self.now) c.args.draft c.in-Ok.draft c.requires.covered c.in-Ok.ensures.covered }

pub returns-in-Ok : goal.returns-in-Ok
returns-in-Ok c =
    let e : Editor = c.args.self.now in
    let steps = c.args.steps.now in
    let ran : left_draft (steps_run e.listeners steps c.args.draft) ≡ Ok c.in-Ok.draft =
    subst (λ ls. left_draft (steps_run ls steps c.args.draft) ≡ Ok c.in-Ok.draft) (ap (λ (d : Editor). d.listeners) c.self.view_is) c.in-Ok.ensures.ok
    in
    record {
      judged =
          told c.judge_draft.result _ _ c.judge_draft.ensures.judged
          (λ verdict judged. subst (λ r. IsJudged r e verdict) (sym (are_left e.rules e.listeners steps c.args.draft c.in-Ok.draft ran)) judged);
    }

pub returns-in-Err : goal.returns-in-Err
returns-in-Err c =
    let e : Editor = c.args.self.now in
    let steps = c.args.steps.now in
    let tells : TellsRefusal c.in-Err.refusal (steps_run e.listeners steps c.args.draft) =
    subst (λ ls. TellsRefusal c.in-Err.refusal (steps_run ls steps c.args.draft)) (ap (λ (d : Editor). d.listeners) c.self.view_is) c.in-Err.ensures.err
    in
    record {
      judged =
          c.verdict_of.ensures.judged (left_by e.rules e.listeners steps c.args.draft) e
          (steps_refused e.rules e.listeners steps c.args.draft c.in-Err.refusal tells);
    }
