use Rattle.std.proofs.lemmas.Bool.{false≢true}
use Rattle.lx_reconcile.proofs.Along.{along-begun, along-ended}
use Rattle.lx_reconcile.proofs.walking.walk_over.Goals as goal

pub loop-walk-init : goal.loop-walk-init
loop-walk-init c =
    along-begun c.args.old.now c.args.new.now c.new-walk.result c.requires.old c.requires.new c.new-walk.ensures.passed c.new-walk.ensures.reached
    c.new-walk.ensures.at
    c.new-walk.ensures.handled c.new-walk.ensures.moves

pub returns : goal.returns
returns c = record {
  walk = along-ended c.args.old.now c.args.new.now c.loop-walk.walk c.loop-walk.invariant (λ e. false≢true (c.loop-walk-test.ensures.1 e));
}
