use Rattle.std.proofs.Common.{◌∙◌, sym, ap, Some, arith}
use Rattle.lx_reconcile.proofs.Written.{same_place, away_at, given_at, written_at, equal_at, less_within, greater_within, equal_within}
use Rattle.lx_reconcile.proofs.faces.push_attributes.Goals.{then-not-are_equal+in_ok-push_given-in-Equal, else-not-are_equal}
use Rattle.lx_reconcile.proofs.faces.push_attributes.Goals as goal

pub loop-order-preserved-in-Less : goal.loop-order-preserved-in-Less
loop-order-preserved-in-Less c =
    let e = sym c.in-Some.ensures ∙ ap (λ o. Some o) c.in-Less.is in
    away_at c.args.host c.args.old.now c.args.new.now c.loop-order.i c.loop-order.j _ _ _ c.loop-order.invariant
    c.index-old-i.result (less_within c.loop-order.i c.loop-order.j c.args.old.now c.args.new.now e) c.index-old-i.is c.in_ok-push_away-in-Less.ensures

pub loop-order-preserved-in-Greater : goal.loop-order-preserved-in-Greater
loop-order-preserved-in-Greater c =
    let e = sym c.in-Some.ensures ∙ ap (λ o. Some o) c.in-Greater.is in
    given_at c.args.host c.args.old.now c.args.new.now c.loop-order.i c.loop-order.j _ _ _ c.loop-order.invariant
    c.index-new-j.result (greater_within c.loop-order.i c.loop-order.j c.args.old.now c.args.new.now e) c.index-new-j.is e c.in_ok-push_given-in-Greater.ensures

pub loop-order-preserved : goal.loop-order-preserved
loop-order-preserved c =
    let e = sym c.in-Some.ensures ∙ ap (λ o. Some o) c.in-Equal.is in
    let both = equal_within c.loop-order.i c.loop-order.j c.args.old.now c.args.new.now e in
    elim c.if-not-are_equal.branch [
      | then-not-are_equal+in_ok-push_given-in-Equal w ↦ rw w.ops-is (
          written_at c.args.host c.args.old.now c.args.new.now c.loop-order.i c.loop-order.j _ _ _ c.loop-order.invariant
          c.index-old-i-in-Equal.result w.index-new-j-then-not-are_equal.result both.0 both.1 c.index-old-i-in-Equal.is w.index-new-j-then-not-are_equal.is e
          (λ x. absurd
          (let same = c.are_equal.ensures.1
          (x ∙ same_place c.args.new.now c.loop-order.j w.index-new-j-then-not-are_equal.result c.index-new-j-in-Equal.result both.1
          w.index-new-j-then-not-are_equal.is c.index-new-j-in-Equal.is) in let h =
          w.if-not-are_equal.true in grind arith)) w.in_ok-push_given-in-Equal.ensures
          )
      | else-not-are_equal w ↦ rw w.ops-is (
          equal_at c.args.host c.args.old.now c.args.new.now c.loop-order.i c.loop-order.j _ _ c.loop-order.ops.items c.loop-order.invariant
          c.index-old-i-in-Equal.result c.index-new-j-in-Equal.result both.0 both.1 c.index-old-i-in-Equal.is c.index-new-j-in-Equal.is
          (c.are_equal.ensures.0 (let h = w.if-not-are_equal.false in grind arith))
          )
    ]
