use Rattle.std.proofs.Common.{◌∙◌, ◌≤◌, ◌+◌, length, ap, sym, subst, arith}
use Rattle.lx_history.specs.Told.{states, AreTold, IsAway, with_told}
use Rattle.lx_history.proofs.Told.{told_pushed}
use Rattle.lx_history.proofs.history.History.push.Goals as goal

pub invariant_of-self : goal.invariant_of-self
invariant_of-self c =
    let h = c.self.inside in
    let away : IsAway h.current h.strays c.args.after.links =
    subst (λ k. IsAway k.history.current k.strays c.args.after.links) (sym c.self.view_is) c.requires.strays in
    let pushed : AreTold c.args.after.links (with_told h.current h.strays h.undo.items) =
    told_pushed h.current h.strays h.undo.items h.redo.items c.args.after.links away c.self.invariant.1 c.self.invariant.0.none in
    let told : AreTold c.args.after.links c.put_first.new.entries.items =
    subst (AreTold c.args.after.links)
    (sym (c.put_first.ensures.told ∙ ap (λ o. with_told o c.take-places.result h.undo.items) c.take.ensures.value
    ∙ ap (λ p. with_told h.current p h.undo.items) c.take-places.ensures.taken)) pushed in
    let few : length (states c.keep_newest.new.entries.items) + length (states c.clear.new.self.items) ≤ 500 =
    omega (arith, c.keep_newest.ensures.few, ap (λ es. length (states es)) c.clear.ensures.items) in (
      record { few = few; none = λ e. absurd (cc) },
      (c.keep_newest.ensures.told c.args.after.links told, subst (AreTold c.args.after.links) (sym c.clear.ensures.items) tt),
    )
