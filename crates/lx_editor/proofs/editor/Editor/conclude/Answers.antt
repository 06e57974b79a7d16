use Rattle.std.proofs.Common.{◌+◌, refl, sym, subst}
use Rattle.lx_editor.specs.declared.outcome.Outcome.TheVariants as made
use Rattle.lx_editor.specs.declared.outcome.Verdict.TheVariants.{Commit, Turned}
use Rattle.lx_editor.specs.Judged.{MayConclude, IsConcluded}
use Rattle.lx_editor.proofs.Said.{committed_has, turned_has}
use Rattle.lx_editor.proofs.Told.{told}
use Rattle.lx_editor.proofs.editor.Editor.conclude.Goals as goal

pub returns-in_ok-commit-in-Commit-clause-concluded : goal.returns-in_ok-commit-in-Commit-clause-concluded
returns-in_ok-commit-in-Commit-clause-concluded g c =
    let old = c.args.self.now in
    let to = c.in-Commit in
    let new = c.commit.new.self in
    let may : MayConclude old (Commit to.frozen to.batch to.shown) = subst (MayConclude old) to.is c.requires.may in
    let done = c.in_ok-commit-in-Commit.ensures.committed in (
      made.Committed (old.commits + 1) to.batch.ops,
      subst (λ v. IsConcluded old c.args.how v (made.Committed (old.commits + 1) to.batch.ops) new) (sym to.is) done,
      λ e same. c.in_ok-said-in-Commit.ensures.said e new same
          (committed_has old c.args.how to.frozen.value c.as_ref-left.result.now to.shown c.covering-marks.result.now to.batch.ops new c.as_ref-left.ensures
          c.covering-marks.ensures may.1 done),
    )

pub returns-in_ok-commit_entry-in-Turned-clause-concluded : goal.returns-in_ok-commit_entry-in-Turned-clause-concluded
returns-in_ok-commit_entry-in-Turned-clause-concluded g c =
    let old = c.args.self.now in
    let to = c.in-Turned in
    let new = c.commit_entry.new.self in
    let may : MayConclude old (Turned to.turn to.state to.batch to.marks) = subst (MayConclude old) to.is c.requires.may in
    let done = c.in_ok-commit_entry-in-Turned.ensures.turned in (
      made.Committed (old.commits + 1) to.batch.ops,
      subst (λ v. IsConcluded old c.args.how v (made.Committed (old.commits + 1) to.batch.ops) new) (sym to.is) done,
      λ e same. c.in_ok-said-in-Turned.ensures.said e new same
          (turned_has to.turn c.args.how.moment old to.state.value c.as_ref-next.result.now to.marks.value c.as_ref.result.now to.batch.ops new
          c.as_ref-next.ensures c.as_ref.ensures may.0.next may.1 done),
    )

pub returns-in-Refused-clause-concluded : goal.returns-in-Refused-clause-concluded
returns-in-Refused-clause-concluded g c =
    let old = c.args.self.now in
    let outcome = made.Refused c.in-Refused.cause c.in-Refused.step in
    told c.say_refused.result _ _ c.say_refused.ensures.said
    (λ said tells. (
      outcome,
      subst (λ v. IsConcluded old c.args.how v outcome old) (sym c.in-Refused.is) (refl, refl),
      λ e same. tells c.args.handled e old same,
    ))

pub returns-in-Idle-clause-concluded : goal.returns-in-Idle-clause-concluded
returns-in-Idle-clause-concluded g c =
    let old = c.args.self.now in
    told c.say_idle.result _ _ c.say_idle.ensures.said
    (λ said tells. (made.Idle, subst (λ v. IsConcluded old c.args.how v made.Idle old) (sym c.in-Idle.is) (refl, refl), λ e same. tells e old same))
