use Rattle.std.proofs.Common.{refl, sym, subst}
use Rattle.lx_editor.specs.Gathering.{recording}
use Rattle.lx_editor.specs.Turned.{IsTurnedBy}
use Rattle.lx_editor.proofs.Changed.{uncommitted_same}
use Rattle.lx_editor.proofs.Judged.{may_conclude_turn, turn_concluded}
use Rattle.lx_editor.proofs.Told.{told}
use Rattle.lx_editor.proofs.editor.Editor.turn_alone.Goals as goal

pub conclude-requires-clause-may : goal.conclude-requires-clause-may
conclude-requires-clause-may c = may_conclude_turn c.args.turn c.args.self.now c.in_ok-verdict.verdict c.in_ok-verdict.ensures

pub returns-clause-turned : goal.returns-clause-turned
returns-clause-turned c =
    let old = c.args.self.now in
    let new = c.conclude.new.self in
    told c.conclude.result _ _ c.conclude.ensures.concluded
    (λ said (outcome, done, is). subst (λ o. IsTurnedBy c.args.turn c.args.moment old o new) (sym (is old (uncommitted_same old old refl)))
    (turn_concluded (recording c.none-tags.result c.args.moment) c.args.turn old c.in_ok-verdict.verdict outcome new c.in_ok-verdict.ensures done))
