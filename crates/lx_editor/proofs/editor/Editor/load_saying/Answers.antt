use Rattle.std.proofs.Common.{refl}
use Rattle.serde_json.specs.View.{view}
use Rattle.lx_editor.specs.Loaded.{IsLoaded, left_by_load}
use Rattle.lx_editor.proofs.Judged.{may_conclude, concluded, never_idle}
use Rattle.lx_editor.proofs.Changed.{uncommitted_same}
use Rattle.lx_editor.proofs.Told.{told}
use Rattle.lx_editor.proofs.editor.Editor.load_saying.Goals as goal

pub conclude-requires-clause-may : goal.conclude-requires-clause-may
conclude-requires-clause-may g c =
    may_conclude (left_by_load c.args.self.now (view c.args.document.now)) c.args.self.now c.in_ok-verdict.verdict c.in_ok-verdict.ensures.judged

pub returns-clause-loaded : goal.returns-clause-loaded
unfolding IsLoaded
returns-clause-loaded g c =
    let old = c.args.self.now in
    let verdict = c.in_ok-verdict.verdict in
    let ensured = c.in_ok-verdict.ensures in
    let left = left_by_load old (view c.args.document.now) in
    told c.conclude.result _ _ c.conclude.ensures.concluded
    (λ said (outcome, done, tells). (
      outcome,
      (
        concluded c.args.how left old verdict outcome c.conclude.new.self ensured.judged done,
        never_idle c.args.how old verdict outcome c.conclude.new.self ensured.anew done,
      ),
      tells old (uncommitted_same old old refl),
    ))
