use Rattle.std.proofs.Common.{nat_lt}
use Rattle.lx_editor.specs.Dispatched.{answer_by, IsDispatched}
use Rattle.lx_editor.proofs.Judged.{may_conclude_answer, answer_taken_in}
use Rattle.lx_editor.proofs.Changed.{uncommitted_pending}
use Rattle.lx_editor.proofs.Waiting.{gathering_told}
use Rattle.lx_editor.proofs.editor.Editor.dispatch_saying.Goals as goal

pub conclude-requires-clause-may : goal.conclude-requires-clause-may
conclude-requires-clause-may g c =
    let mid = c.take_draft.new.self in
    may_conclude_answer (answer_by (nat_lt 0 c.gathered-gathering.result) mid.listeners c.args.command.now c.in_ok-draft.draft) mid c.in_ok-verdict.verdict
    c.in_ok-verdict.handled c.in_ok-verdict.ensures

pub returns-clause-dispatched : goal.returns-clause-dispatched
unfolding IsDispatched
returns-clause-dispatched g c =
    let old = c.args.self.now in
    let mid = c.take_draft.new.self in
    let (outcome, done, tells) = c.in_ok-said.ensures.concluded in (
      outcome,
      answer_taken_in c.args.command.now old mid c.in_ok-draft.draft c.args.how c.recording-all.result (nat_lt 0 c.gathered-gathering.result)
          c.in_ok-verdict.verdict c.in_ok-verdict.handled outcome c.conclude.new.self c.take_draft.ensures.taken c.in_ok-draft.ensures.begun
          c.recording-all.ensures (gathering_told old c.gathered-gathering.result c.gathered-gathering.ensures) c.in_ok-verdict.ensures done,
      tells old (uncommitted_pending old mid c.take_draft.ensures.taken),
    )
