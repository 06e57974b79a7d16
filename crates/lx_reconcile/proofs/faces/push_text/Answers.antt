use Rattle.std.proofs.Common.{◌∙◌, sym, ap, Some, arith}
use Rattle.lx_reconcile.proofs.Changed.{same_text, text_written}
use Rattle.lx_reconcile.proofs.faces.push_text.Goals as goal

pub returns-in-None-None : goal.returns-in-None-None
returns-in-None-None c =
    λ key tag attrs ending. same_text c.args.host key tag attrs c.args.old c.args.new ending _ (c.in-None-None.is-0 ∙ sym c.in-None-None.is-1)

pub returns-in_ok-push-in-None-Some : goal.returns-in_ok-push-in-None-Some
returns-in_ok-push-in-None-Some c = λ key tag attrs ending.
    text_written c.args.host key tag attrs c.args.old c.args.new c.in-None-Some.new ending _ _
    (λ e. absurd (let x = sym c.in-None-Some.is-0 ∙ e ∙ c.in-None-Some.is-1 in cc)) c.in-None-Some.is-1 c.in_ok-push-in-None-Some.ensures.items

pub returns-then-is_equal : goal.returns-then-is_equal
returns-then-is_equal c = λ key tag attrs ending.
    same_text c.args.host key tag attrs c.args.old c.args.new ending _
    (c.in-Some-Some.is-0 ∙ ap (λ o. Some o) (c.is_equal.ensures.told.0 c.if-is_equal.true) ∙ sym c.in-Some-Some.is-1)

pub returns-in_ok-push-in-Some-Some : goal.returns-in_ok-push-in-Some-Some
returns-in_ok-push-in-Some-Some c = λ key tag attrs ending.
    text_written c.args.host key tag attrs c.args.old c.args.new c.in-Some-Some.new ending _ _
    (λ e. absurd
    (let same = c.is_equal.ensures.told.1 (let x = sym c.in-Some-Some.is-0 ∙ e ∙ c.in-Some-Some.is-1 in cc) in let h = c.if-is_equal.false in grind arith))
    c.in-Some-Some.is-1 c.in_ok-push-in-Some-Some.ensures.items
