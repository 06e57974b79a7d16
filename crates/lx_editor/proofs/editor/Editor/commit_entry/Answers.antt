use Rattle.std.proofs.Common.{◌≡◌, ◌+◌, Option, Some, sym, subst}
use Rattle.std.specs.Global.{Box}
use Rattle.lx_draft.specs.declared.state.State.{State}
use Rattle.lx_history.specs.History.{history_turned}
use Rattle.lx_host.specs.Hosts.{FitInTurn, Leads}
use Rattle.lx_editor.specs.declared.pending.Pending.{Pending}
use Rattle.lx_editor.specs.Editor.{Editor}
use Rattle.lx_editor.specs.Gathering.{unboxed}
use Rattle.lx_editor.specs.Standing.{editor_of, IsValid}
use Rattle.lx_editor.specs.Turned.{IsTurned}
use Rattle.lx_editor.specs.Judged.{MayTurn}
use Rattle.lx_editor.proofs.Updated.{leads_fit}
use Rattle.lx_editor.proofs.Turned.{has_turned, comes_to, turned_away, is_turned, made}
use Rattle.lx_editor.proofs.editor.Editor.commit_entry.Goals as goal
use Rattle.lx_editor.proofs.editor.Editor.commit_entry.Goals.{After-prepare, After-forget}

-- what came out of its box may be committed as it was
may : (c : After-prepare) → MayTurn (editor_of c.self.inside) c.args.turn c.into_inner-state.result c.args.batch
may c =
    subst (λ (e : Editor). MayTurn e c.args.turn c.into_inner-state.result c.args.batch) (sym c.self.view_is)
    (subst (λ (s : State). MayTurn c.args.self.now c.args.turn s c.args.batch) (sym c.into_inner-state.ensures) c.requires.may)

-- what is left of the editor is valid, and what a turn of the history leaves
module _ (c : After-forget) where
  abbrev e : Editor
  e = editor_of c.self.inside

  may_turn : MayTurn e c.args.turn c.into_inner-state.result c.args.batch
  may_turn = may (goal.at.After-forget c).After-prepare

  leads : Leads e.view c.args.batch.ops c.follow.new.view.tree
  leads = subst (λ ops. Leads e.view ops c.follow.new.view.tree) c.in_ok-ops.ensures c.in_ok-follow.ensures.leads

  turns : history_turned c.args.turn c.args.moment e.history ≡ Some c.turn-turned.new.self.history
  turns =
      has_turned c.turn-turned.result c.args.turn c.args.moment e.history c.prepare.new.self.history c.turn-turned.new.self.history c.into_inner-state.result
      may_turn.next c.prepare.ensures.same c.turn-turned.ensures.turned

  abbrev with : Option (Box Pending) → Editor
  with p =
      record (made e c.args.turn c.args.moment c.into_inner-state.result c.args.batch may_turn c.self.invariant.valid c.follow.new.view.tree leads
      c.turn-turned.new.self.history turns) { pending = unboxed p }

  done : IsValid (with c.forget.new.pending) × IsTurned c.args.turn c.args.moment e (e.commits + 1) c.args.batch.ops (with c.forget.new.pending)
  done =
      subst (λ (p : Option (Box Pending)). IsValid (with p) × IsTurned c.args.turn c.args.moment e (e.commits + 1) c.args.batch.ops (with p))
      (sym c.forget.ensures)
      (is_turned e c.args.turn c.args.moment c.into_inner-state.result c.args.batch may_turn c.self.invariant.valid c.follow.new.view.tree leads
      c.turn-turned.new.self.history turns)

pub follow-requires : goal.follow-requires
follow-requires c =
    let e : Editor = editor_of c.self.inside in
    let allowed = (may (goal.at.follow-requires c).After-prepare).allowed in
    subst (λ ops. FitInTurn e.view ops) (sym c.in_ok-ops.ensures) (leads_fit e.view allowed.0 c.args.batch.ops allowed.1.leads)

pub invariant_of-self-2 : goal.invariant_of-self-2
invariant_of-self-2 c =
    let at = (goal.at.invariant_of-self-2 c).After-forget in
    let state = c.into_inner-state.result in
    let history = c.turn-turned.new.self.history in
    record {
      valid = (done at).0;
      told = turned_away c.turn-turned.result c.args.turn c.args.moment (e at).history c.prepare.new.self.history history state c.turn-turned.new.self.strays
          (may_turn at).next c.prepare.ensures.same c.turn-turned.ensures.turned c.turn-turned.ensures.strays
          (comes_to c.args.turn c.args.moment (e at).history history state (may_turn at).next (turns at));
    }

pub returns-clause-turned : goal.returns-clause-turned
returns-clause-turned c =
    let at = (goal.at.returns-clause-turned c).After-forget in
    subst (λ (d : Editor). IsTurned c.args.turn c.args.moment d (d.commits + 1) c.args.batch.ops (with at c.forget.new.pending)) c.self.view_is (done at).1
