-- Runs over a source that counts no fault.
use Rattle.std.proofs.Common.{◌≡◌, ◌≢◌, inl, inr, ℕ, List, subst, arith}
use Rattle.lx_io.specs.Devices.{HasRisen}
use Rattle.lx_cli.specs.declared.status.Status.{Status}
use Rattle.lx_cli.specs.declared.status.Status.TheVariants.{ReadFault}
use Rattle.lx_editor.specs.Follows.{Follows}
use Rattle.lx_serving.specs.Served.{FollowsIn}
use Rattle.lx_cli.specs.Run.{begun_with, served_with, Seen, Ends, IsAnsweredRun}
use Rattle.lx_cli.specs.Generating.{GeneratedEnds, IsGeneratedRun, RunsAsAsked, RunsBy, mode_for}
use Rattle.lx_arguments.specs.declared.options.Generated.{Generated}
use Rattle.lx_arguments.specs.declared.options.Mode.{Mode}
use Rattle.lx_arguments.specs.declared.options.Mode.TheVariants.{Plain, Hub, Outline, Generate}

HasRisen-none : (old new : ℕ) → old ≡ 0 → new ≡ 0 → HasRisen old new → ⊥
HasRisen-none old new before after risen = elim risen [ inl p ↦ omega arith | inr p ↦ omega arith ]

-- they don't end with a read fault
IsAnsweredRun-sure : (AreReplies : List (List ℕ) → List ℕ → Type 0) (status : Status) (run : Seen) → IsAnsweredRun AreReplies status run
    → run.source_before.faults ≡ 0 → run.source_after.faults ≡ 0 → status ≢ ReadFault
unfolding Ends
IsAnsweredRun-sure AreReplies status run p before after is =
    let end : Ends AreReplies ReadFault run = subst (λ (status : Status). Ends AreReplies status run) is p.ends in
    HasRisen-none run.source_before.faults run.source_after.faults before after end.source

-- a run that generates a session doesn't, whatever the source
IsGeneratedRun-sure : (status : Status) (session : Generated) (run : Seen) → IsGeneratedRun status session run → status ≢ ReadFault
unfolding GeneratedEnds
IsGeneratedRun-sure status session run p is = subst (λ (status : Status). GeneratedEnds status session run) is p.ends

RunsBy-sure : (mode : Mode) (status : Status) (run : Seen) → RunsBy mode status run → run.source_before.faults ≡ 0 → run.source_after.faults ≡ 0
    → status ≢ ReadFault
RunsBy-sure Plain status run p before after = IsAnsweredRun-sure (Follows (begun_with run.words)) status run p before after
RunsBy-sure Hub status run p before after = IsAnsweredRun-sure (FollowsIn (served_with run.words)) status run p before after
RunsBy-sure Outline status run p before after = IsAnsweredRun-sure (FollowsIn (served_with run.words)) status run p before after
RunsBy-sure (Generate session) status run p before after = IsGeneratedRun-sure status session run p

pub RunsAsAsked-sure : (status : Status) (run : Seen) → RunsAsAsked status run → run.source_before.faults ≡ 0 → run.source_after.faults ≡ 0
    → status ≢ ReadFault
RunsAsAsked-sure status run p before after = RunsBy-sure (mode_for run.words) status run p before after
