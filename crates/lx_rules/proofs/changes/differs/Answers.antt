use Rattle.std.proofs.Common.{sym, arith, inl, inr}
use Rattle.lx_rules.proofs.Members.{differing, left_out, alike}
use Rattle.lx_rules.proofs.changes.differs.Goals.{else-not-keeps-via-then-not-keeps+else-not-is_rewritten, else-not-keeps-via-else-not-keeps}
use Rattle.lx_rules.proofs.changes.differs.Goals as goal

pub returns-then-not-is_rewritten : goal.returns-then-not-is_rewritten
returns-then-not-is_rewritten c =
    differing c.loop-member.rest.now c.args.members.now c.args.fields.now c.loop-member.invariant c.in-Some.member.now c.in-Some.later.now
    c.in-Some.ensures.cases.0
    (sym c.if-not-is_rewritten.ensures) (λ e. absurd (cc (c.if-not-keeps.ensures.1 e)))

pub loop-member-preserved : goal.loop-member-preserved
loop-member-preserved c =
    left_out c.loop-member.rest.now c.args.members.now c.args.fields.now c.loop-member.invariant c.in-Some.member.now c.in-Some.later.now
    c.in-Some.ensures.cases.0
    (elim c.else-not-keeps.branch [
      | else-not-keeps-via-then-not-keeps+else-not-is_rewritten w ↦ inl (grind arith)
      | else-not-keeps-via-else-not-keeps w ↦ inr (grind arith)
    ])

pub returns : goal.returns
returns c = alike c.loop-member.rest.now c.args.members.now c.args.fields.now c.loop-member.invariant c.in_default.ensures.cases
