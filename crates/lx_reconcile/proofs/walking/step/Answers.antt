use Rattle.std.proofs.Common.{◌≡◌, ◌∙◌, sym, arith, slice_get}
use Rattle.std.proofs.lemmas.Result.{on_ok_weaker}
use Rattle.lx_reconcile.specs.Underway.{case_of, IsAlong}
use Rattle.lx_reconcile.proofs.Along.{along-at, along-same, along-gone, along-new, along-settled, none-left}
use Rattle.lx_reconcile.proofs.walking.step.Goals as goal
use Rattle.lx_reconcile.proofs.walking.step.Goals.{After-next_case}

-- where the walk is, once it has passed what is handled
along : (c : After-next_case) → IsAlong c.args.old.now c.args.new.now (record c.args.walk.now { at = c.unhandled_from-walk.result })
along c =
    along-at c.args.old.now c.args.new.now c.args.walk.now c.unhandled_from-walk.result c.requires.along c.unhandled_from-walk.ensures.same
    c.unhandled_from-walk.ensures.within

-- and what it meets there
met : (c : After-next_case)
    → case_of c.args.old.now c.args.new.now (slice_get c.args.old.now c.args.walk.now.passed) (slice_get c.args.new.now c.args.walk.now.reached)
    ≡ c.next_case.result
met c = sym (c.next_case.ensures ∙ (λ i. case_of (c.requires.olds i) (c.requires.news i) (c.key_at.ensures i) (c.key_at-2.ensures i)))

pub returns-in-Same-clause-along : goal.returns-in-Same-clause-along
returns-in-Same-clause-along c =
    let at = (goal.at.returns-in-Same-clause-along c).After-next_case in
    on_ok_weaker c.keep.result (along-same _ _ _ _ c.in-Same.key (along at) (met at ∙ c.in-Same.is)) c.keep.ensures

pub returns-in-Gone : goal.returns-in-Gone
returns-in-Gone c =
    let at = (goal.at.returns-in-Gone c).After-next_case in
    let both = on_ok_weaker c.leave.result (along-gone _ _ _ c.leave.new.self c.in-Gone.key (along at) (met at ∙ c.in-Gone.is)) c.leave.ensures in
    record { along = on_ok_weaker c.leave.result (λ b. b.0) both; fewer = on_ok_weaker c.leave.result (λ b. b.1) both }

pub returns-in-New : goal.returns-in-New
returns-in-New c =
    let at = (goal.at.returns-in-New c).After-next_case in
    let first = c.key_at-cursor.ensures ∙ sym c.unhandled_from-walk.ensures.first in
    let both =
    on_ok_weaker c.make.result (along-new _ _ _ c.make.new.self c.in-New.key c.key_at-cursor.result (along at) (met at ∙ c.in-New.is) first)
    c.make.ensures in
    record { along = on_ok_weaker c.make.result (λ b. b.0) both; fewer = on_ok_weaker c.make.result (λ b. b.1) both }

pub returns-in-Settled-clause-along : goal.returns-in-Settled-clause-along
returns-in-Settled-clause-along c =
    let at = (goal.at.returns-in-Settled-clause-along c).After-next_case in
    let first = c.key_at-cursor.ensures ∙ sym c.unhandled_from-walk.ensures.first in
    on_ok_weaker c.settle.result (along-settled _ _ _ _ c.in-Settled.key c.key_at-cursor.result (along at) (met at ∙ c.in-Settled.is) first)
    c.settle.ensures

pub returns-in-Neither-clause-fewer : goal.returns-in-Neither-clause-fewer
returns-in-Neither-clause-fewer c =
    let at = (goal.at.returns-in-Neither-clause-fewer c).After-next_case in
    absurd (omega (arith, c.requires.left, none-left _ _ c.args.walk.now (met at ∙ c.in-Neither.is)))
