use Rattle.std.proofs.Common.{◌∙◌, ◌<◌, Some, ap, sym, arith}
use Rattle.std.specs.Option.{option_copied}
use Rattle.lx_hub.specs.Hub.{Hub}
use Rattle.lx_hub.specs.declared.hub.Delivery.TheVariants.{Behind}
use Rattle.lx_hub.proofs.Kept.{level_stays, behind_answer, behind_stays, applied_answer, may_advance}
use Rattle.lx_hub.proofs.hub.Hub.deliver_at.Goals as goal

pub returns-then-reached-self-clause-delivered : goal.returns-then-reached-self-clause-delivered
returns-then-reached-self-clause-delivered c = λ v read.
    level_stays c.args.self.now c.args.at v read
    (sym (c.reached_at-reached.ensures.reached v read) ∙ c.if-reached-self.true ∙ ap (λ (h : Hub). h.commits) c.self.view_is)

pub returns-in_default-clause-answer : goal.returns-in_default-clause-answer
returns-in_default-clause-answer c = λ v read.
    let less : c.reached_at-reached.result < c.args.self.now.commits =
    omega (arith, c.reached_at-reached.ensures.within, c.if-reached-self.false, ap (λ (h : Hub). h.commits) c.self.view_is) in
    let none = sym c.batch_behind.ensures ∙ ap option_copied c.in_default.is in
    ap (λ n. Behind c.reached_at-reached.result n) c.oldest-oldest.ensures
    ∙ behind_answer c.args.self.now v c.reached_at-reached.result c.reached_at-reached.ensures.hub (c.reached_at-reached.ensures.reached v read) less none

pub returns-in_default-clause-delivered : goal.returns-in_default-clause-delivered
returns-in_default-clause-delivered c = λ v read.
    let less : c.reached_at-reached.result < c.args.self.now.commits =
    omega (arith, c.reached_at-reached.ensures.within, c.if-reached-self.false, ap (λ (h : Hub). h.commits) c.self.view_is) in
    let none = sym c.batch_behind.ensures ∙ ap option_copied c.in_default.is in
    behind_stays c.args.self.now c.args.at v c.reached_at-reached.result read (c.reached_at-reached.ensures.reached v read) less none

pub advance-requires : goal.advance-requires
advance-requires c =
    let less : c.reached_at-reached.result < c.args.self.now.commits =
    omega (arith, c.reached_at-reached.ensures.within, c.if-reached-self.false, ap (λ (h : Hub). h.commits) c.self.view_is) in
    let next = sym c.batch_behind.ensures ∙ ap option_copied c.in-Some.is ∙ ap (λ o. Some o) (sym c.in_ok-ops.ensures) in
    record {
      next = may_advance c.args.self.now c.args.at c.requires.0 c.reached_at-reached.result c.in_ok-ops.ops c.reached_at-reached.ensures.hub c.requires.1
          (c.reached_at-reached.ensures.reached c.requires.0 c.requires.1) less next;
    }

pub returns-clause-answer : goal.returns-clause-answer
returns-clause-answer c = λ v read.
    let less : c.reached_at-reached.result < c.args.self.now.commits =
    omega (arith, c.reached_at-reached.ensures.within, c.if-reached-self.false, ap (λ (h : Hub). h.commits) c.self.view_is) in
    let next = sym c.batch_behind.ensures ∙ ap option_copied c.in-Some.is ∙ ap (λ o. Some o) (sym c.in_ok-ops.ensures) in
    applied_answer c.args.self.now v c.reached_at-reached.result c.in_ok-ops.ops c.reached_at-reached.ensures.hub (c.reached_at-reached.ensures.reached v read)
    less next
