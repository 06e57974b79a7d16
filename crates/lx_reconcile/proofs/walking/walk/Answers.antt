use Rattle.std.proofs.lemmas.Result.{IfOk-weaker}
use Rattle.lx_reconcile.specs.Walk.{IsWalk}
use Rattle.lx_reconcile.proofs.Staying.{all_staying}
use Rattle.lx_reconcile.proofs.walking.walk.Goals as goal

pub returns-then-are_same : goal.returns-then-are_same
returns-then-are_same c = record {
  walk = IfOk-weaker c.all_stay.result _ (λ moves. IsWalk c.args.old.now c.args.new.now moves.items)
      (λ moves is. all_staying c.args.old.now c.args.new.now moves.items (c.are_same.ensures.0 c.if-are_same.true) is) c.all_stay.ensures;
}
