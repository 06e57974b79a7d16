use Rattle.std.proofs.Common.{subst}
use Rattle.lx_update.specs.Refusals.{TellsRefusal}
use Rattle.lx_editor.specs.declared.outcome.Outcome.TheVariants as made
use Rattle.lx_editor.specs.declared.pending.Pending.{Pending}
use Rattle.lx_editor.specs.Gathering.{gathered_by}
use Rattle.lx_editor.proofs.Changed.{uncommitted_gathered, uncommitted_pending}
use Rattle.lx_editor.proofs.Waiting.{deferred_kept, deferred_refused, still_pending}
use Rattle.lx_editor.proofs.Told.{told}
use Rattle.lx_editor.proofs.editor.Editor.defer_saying.Goals as goal

pub keep-requires : goal.keep-requires
keep-requires g c = still_pending c.args.self.now c.gather.new.self c.in-Ok.pending.value c.gather.ensures.taken c.in-Ok.ensures.pending

pub returns-in_ok-said-in-Ok-clause-deferred : goal.returns-in_ok-said-in-Ok-clause-deferred
returns-in_ok-said-in-Ok-clause-deferred g c =
    let old = c.args.self.now in
    let new = c.keep.new.self in
    let pending = c.in-Ok.pending.value in
    let gathered =
    deferred_kept old c.gather.new.self new c.args.steps.now c.args.tags pending c.gather.ensures.taken c.in-Ok.ensures.gathered c.in-Ok.ensures.line
    c.keep.ensures
    in (
      made.Gathered pending.lines,
      gathered,
      subst (λ (p : Pending). g.S.Saying.tells c.args.sayer.now _ old (made.Gathered p.lines) new c.in_ok-said-in-Ok.said c.say_gathered.new.self)
          c.deref.ensures
          (c.in_ok-said-in-Ok.ensures.said old new (uncommitted_gathered old c.args.steps.now c.args.tags (made.Gathered pending.lines) new gathered)),
    )

pub returns-in-Err-clause-deferred : goal.returns-in-Err-clause-deferred
returns-in-Err-clause-deferred g c =
    let old = c.args.self.now in
    let new = c.gather.new.self in
    told c.say_refusal.result _ _ c.say_refusal.ensures.said
    (λ said (cause, step, is, tells). (
      made.Refused cause step,
      deferred_refused old new c.args.steps.now c.args.tags cause step
          (subst (λ e. TellsRefusal e (gathered_by old c.args.steps.now)) is c.in-Err.ensures.refused)
          c.gather.ensures.taken,
      tells old new (uncommitted_pending old new c.gather.ensures.taken),
    ))
