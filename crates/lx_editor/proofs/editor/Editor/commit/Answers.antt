use Rattle.std.proofs.Common.{◌≡◌, ◌∙◌, ◌+◌, Option, sym, subst}
use Rattle.std.specs.Global.{Box}
use Rattle.lx_host.specs.Hosts.{FitInTurn, Leads}
use Rattle.lx_draft.specs.declared.state.Frozen.{Frozen}
use Rattle.lx_history.specs.Told.{IsAway}
use Rattle.lx_editor.specs.declared.pending.Pending.{Pending}
use Rattle.lx_editor.specs.Editor.{Editor}
use Rattle.lx_editor.specs.Gathering.{unboxed}
use Rattle.lx_editor.specs.Standing.{editor_of, IsValid}
use Rattle.lx_editor.specs.Updated.{Left, what_is_left, state_with, recorded, IsCommitted}
use Rattle.lx_editor.specs.Judged.{MayCommit}
use Rattle.lx_editor.proofs.Updated.{allowed_fit, recorded_same, committed, made}
use Rattle.lx_editor.proofs.editor.Editor.commit.Goals as goal
use Rattle.lx_editor.proofs.editor.Editor.commit.Goals.{After-prepare, After-forget}

-- what came out of its box may be committed as it was
may : (c : After-prepare)
    → MayCommit (editor_of c.self.inside) (what_is_left (editor_of c.self.inside).rules c.into_inner-frozen.result) c.args.batch
may c =
    subst (λ (e : Editor). MayCommit e (what_is_left e.rules c.into_inner-frozen.result) c.args.batch) (sym c.self.view_is)
    (subst (λ (f : Frozen). MayCommit c.args.self.now (what_is_left c.args.self.now.rules f) c.args.batch) (sym c.into_inner-frozen.ensures) c.requires.may)

-- what is left of the editor is valid, and what a commit leaves
module _ (c : After-forget) where
  abbrev e : Editor
  e = editor_of c.self.inside

  abbrev left : Left
  left = what_is_left e.rules c.into_inner-frozen.result

  is_recorded : c.note_strayed.new.self.history ≡ recorded e c.args.how left
  is_recorded =
      recorded_same (state_with e.tree e.selection) (state_with left.tree left.selection) c.in_ok-entry.entry left.marks c.args.how e.history
      c.stray.new.self.history c.note_strayed.new.self.history
      c.in_ok-entry.ensures.links c.in_ok-entry.ensures.selection (c.stray.ensures.same ∙ c.prepare.ensures.same) c.note_strayed.ensures.noted

  leads : Leads e.view c.args.batch.ops c.follow.new.view.tree
  leads = subst (λ ops. Leads e.view ops c.follow.new.view.tree) c.in_ok-ops.ensures c.in_ok-follow.ensures.leads

  abbrev with : Option (Box Pending) → Editor
  with p =
      record (made e c.args.how left c.args.batch (may (goal.at.After-forget c).After-prepare) c.self.invariant.valid c.follow.new.view.tree leads
      c.note_strayed.new.self.history is_recorded) { pending = unboxed p }

  done : IsValid (with c.forget.new.pending) × IsCommitted e c.args.how left (e.commits + 1) c.args.batch.ops (with c.forget.new.pending)
  done =
      subst (λ (p : Option (Box Pending)). IsValid (with p) × IsCommitted e c.args.how left (e.commits + 1) c.args.batch.ops (with p)) (sym c.forget.ensures)
      (committed e c.args.how left c.args.batch (may (goal.at.After-forget c).After-prepare) c.self.invariant.valid c.follow.new.view.tree leads
      c.note_strayed.new.self.history is_recorded)

pub follow-requires : goal.follow-requires
follow-requires c =
    let e : Editor = editor_of c.self.inside in
    let left : Left = what_is_left e.rules c.into_inner-frozen.result in
    subst (λ ops. FitInTurn e.view ops) (sym c.in_ok-ops.ensures)
    (allowed_fit e.tree left.tree left.marks e.view c.args.batch.ops (may (goal.at.follow-requires c).After-prepare).allowed)

pub invariant_of-self-2 : goal.invariant_of-self-2
invariant_of-self-2 c = record {
  valid = (done (goal.at.invariant_of-self-2 c).After-forget).0;
  told = subst (IsAway c.note_strayed.new.self.history.current c.note_strayed.new.self.strays) c.in_ok-entry.ensures.links c.note_strayed.ensures.strays;
}

pub returns-clause-committed : goal.returns-clause-committed
returns-clause-committed c =
    let at = (goal.at.returns-clause-committed c).After-forget in
    let old = c.args.self.now in
    let new : Editor = with at c.forget.new.pending in
    subst (λ (f : Frozen). IsCommitted old c.args.how (what_is_left old.rules f) (old.commits + 1) c.args.batch.ops new) c.into_inner-frozen.ensures
    (subst (λ (d : Editor). IsCommitted d c.args.how (what_is_left d.rules c.into_inner-frozen.result) (d.commits + 1) c.args.batch.ops new) c.self.view_is
    (done at).1)
