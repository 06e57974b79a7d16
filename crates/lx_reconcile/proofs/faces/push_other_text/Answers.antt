use Rattle.std.proofs.Common.{ap, sym, Some, arith}
use Rattle.lx_reconcile.proofs.Changed.{same_text, text_written}
use Rattle.lx_reconcile.proofs.faces.push_other_text.Goals as goal

pub returns-then-is_equal : goal.returns-then-is_equal
returns-then-is_equal c = λ key tag attrs ending.
    same_text c.args.host key tag attrs (Some c.args.old.now) (Some c.args.new.now) ending _ (ap (λ o. Some o) (c.is_equal.ensures.told.0 c.if-is_equal.true))

pub returns : goal.returns
returns c = λ key tag attrs ending.
    text_written c.args.host key tag attrs (Some c.args.old.now) (Some c.args.new.now) c.in_ok-copy.field-0 ending _ _
    (λ e. absurd (let same = c.is_equal.ensures.told.1 (cc) in let h = c.if-is_equal.false in grind arith))
    (ap (λ o. Some o) (sym c.in_ok-copy.ensures)) c.in_ok-push.ensures.items
