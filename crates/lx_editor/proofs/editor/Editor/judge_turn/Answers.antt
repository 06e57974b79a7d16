use Rattle.std.proofs.Common.{◌≡◌, ◌∙◌, Option, Some, Bor, refl, sym, ap, subst}
use Rattle.std.specs.Prelude.{option_map}
use Rattle.lx_draft.specs.declared.state.State.{State}
use Rattle.lx_history.specs.declared.entry.Entry.{Entry}
use Rattle.lx_history.specs.History.{next_entry}
use Rattle.lx_marks.specs.Marks.{Marked}
use Rattle.lx_editor.specs.Editor.{Editor}
use Rattle.lx_editor.specs.Standing.{editor_of, HasKinds, IsEntry}
use Rattle.lx_editor.specs.Judged.{MayTurn, IsCoveredBy}
use Rattle.lx_compare.specs.Places.{IsAsBefore}
use Rattle.lx_history.specs.Told.{IsAway}
use Rattle.lx_editor.proofs.Turned.{told_between, entry_kept, next_copied, keeps_kinds, known_allowed, known_few}
use Rattle.lx_editor.proofs.editor.Editor.judge_turn.Goals as goal
use Rattle.lx_editor.proofs.editor.Editor.judge_turn.Goals.{After-deref}

abbrev states_of : Option (Bor Entry) → Option State
states_of o = option_map (λ e. e.now.state) o

-- the boxed copy of the entry that the history gives is its next one
next : (c : After-deref) → next_entry c.args.turn (editor_of c.self.inside).history ≡ Some c.deref.result.now
next c =
    next_copied c.args.turn _ (states_of c.entry_at.result) c.in-Some.entry.now.state c.deref.result.now c.entry_at.ensures.state (ap states_of c.in-Some.is)
    (ap (λ (s : State). s.links) c.deref.ensures ∙ c.in_ok-state.ensures.links)
    (ap (λ (s : State). s.selection) c.deref.ensures ∙ c.in_ok-state.ensures.selection)

-- so it may be committed, and its nodes have the kinds of their keys
kept : (c : After-deref) → IsEntry (editor_of c.self.inside).next_key c.deref.result.now × HasKinds c.self.invariant.valid.kept.kinds c.deref.result.now.links
kept c = entry_kept (editor_of c.self.inside) c.self.invariant.valid c.args.turn c.deref.result.now (next c)

pub differences_at-requires-clause-new_order : goal.differences_at-requires-clause-new_order
differences_at-requires-clause-new_order c = (kept (goal.at.differences_at-requires-clause-new_order c).After-deref).0.in_order

pub differences_at-requires-clause-new_alone : goal.differences_at-requires-clause-new_alone
differences_at-requires-clause-new_alone c = (kept (goal.at.differences_at-requires-clause-new_alone c).After-deref).0.alone

-- the places of the entry and those since tell where it differs from what is committed
pub differences_at-requires-clause-told : goal.differences_at-requires-clause-told
differences_at-requires-clause-told c =
    let links = ap (λ (s : State). s.links) c.deref.ensures ∙ c.in_ok-state.ensures.links in
    λ q first later. subst (λ f. IsAsBefore c.self.inside.state.links f q) (sym links)
    (told_between c.self.inside.history.history.current c.in-Some.entry.now.places c.strays-strays.result.now c.self.inside.state.links
    c.in-Some.entry.now.state.links c.in-Some.ensures.told
    (subst (λ p. IsAway c.self.inside.history.history.current p c.self.inside.state.links) (sym c.strays-strays.ensures) c.self.invariant.told) q first later)

pub reconcile-requires-clause-new : goal.reconcile-requires-clause-new
reconcile-requires-clause-new c = (kept (goal.at.reconcile-requires-clause-new c).After-deref).0.in_order

pub reconcile-requires-clause-one_after : goal.reconcile-requires-clause-one_after
reconcile-requires-clause-one_after c = (kept (goal.at.reconcile-requires-clause-one_after c).After-deref).0.alone

pub reconcile-requires-clause-few : goal.reconcile-requires-clause-few
reconcile-requires-clause-few c = (kept (goal.at.reconcile-requires-clause-few c).After-deref).0.start.few

pub reconcile-requires-clause-covered : goal.reconcile-requires-clause-covered
reconcile-requires-clause-covered c =
    let kinds = c.self.invariant.valid.kept in
    c.in_ok-marks.ensures.covered (keeps_kinds kinds.kinds _ _ kinds.now (kept (goal.at.reconcile-requires-clause-covered c).After-deref).1)

pub returns-in-Ok : goal.returns-in-Ok
returns-in-Ok c =
    let at = (goal.at.returns-in-Ok c).After-deref in
    let kinds = c.self.invariant.valid.kept in
    let old = c.args.self.now in
    let turn = c.args.turn in
    let state = c.deref.result.now in
    let marks = c.in_ok-marks.marks in
    let batch = c.in-Ok.batch in
    let may : MayTurn (editor_of c.self.inside) turn state batch = record {
      next = next at;
      stands = (kept at).0;
      ids = c.in-Ok.ensures.ids;
      allowed = known_allowed _ _ _ c.in_ok-marks.ensures.known _ batch.ops c.in-Ok.ensures.allowed;
      few = known_few _ _ _ c.in_ok-marks.ensures.known batch.reads c.in-Ok.ensures.few;
    } in
    let covered : IsCoveredBy (editor_of c.self.inside) state.links marks =
    c.in_ok-marks.ensures.covered (keeps_kinds kinds.kinds _ _ kinds.now (kept at).1) in (
      refl,
      subst (λ (s : State). MayTurn old turn s batch) c.deref.ensures (subst (λ (e : Editor). MayTurn e turn state batch) c.self.view_is may),
      subst (λ (m : Marked). IsCoveredBy old c.in_ok-state.state.value.links m) (sym c.in_ok-marks-in-Ok.ensures.ok)
          (subst (λ (s : State). IsCoveredBy old s.links marks) c.deref.ensures
          (subst (λ (e : Editor). IsCoveredBy e state.links marks) c.self.view_is covered)),
    )
