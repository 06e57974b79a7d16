use Rattle.lx_reconcile.proofs.Written.{only_old, only_new}
use Rattle.lx_reconcile.proofs.faces.order_at.Goals as goal

pub returns-else-j-new : goal.returns-else-j-new
returns-else-j-new c = only_old c.args.i c.args.j c.args.old.now c.args.new.now c.if-i-old.true c.if-j-new.false

pub returns-then-j-new-2 : goal.returns-then-j-new-2
returns-then-j-new-2 c = only_new c.args.i c.args.j c.args.old.now c.args.new.now c.if-i-old.false c.if-j-new-2.true
