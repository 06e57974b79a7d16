use Rattle.std.proofs.Common.{◌≡◌, ◌∙◌, None, refl, subst}
use Rattle.lx_editor.specs.declared.outcome.Outcome.TheVariants as made
use Rattle.lx_editor.specs.declared.outcome.Verdict.TheVariants.{Refused}
use Rattle.lx_editor.specs.Editor.{Editor}
use Rattle.lx_editor.specs.Judged.{IsJudged}
use Rattle.lx_editor.specs.Registered.{left_for, with_one_more, with_rule}
use Rattle.lx_editor.proofs.Changed.{uncommitted_on, uncommitted_rule, uncommitted_same}
use Rattle.lx_editor.proofs.Judged.{rule_concluded, rule_kept}
use Rattle.lx_editor.proofs.Told.{told}
use Rattle.lx_editor.proofs.editor.Editor.add_saying.Goals as goal

pub returns-in-Ok-clause-made : goal.returns-in-Ok-clause-made
returns-in-Ok-clause-made g c =
    let old = c.args.self.now in
    let mid = c.add_rule.new.self in
    let (verdict, outcome, judged, kept, done, tells) = c.in-Ok.ensures.made in
    let is : mid ≡ with_one_more c.args.rule old = c.in_ok-add_rule.ensures.added in (
      outcome,
      rule_kept c.args.how old c.args.rule mid c.args.draft verdict outcome c.conclude_marked.new.self is judged kept done,
      λ e same. tells e (uncommitted_on e old mid same (uncommitted_rule old mid c.args.rule is)),
    )

pub returns-in-Err-clause-made : goal.returns-in-Err-clause-made
returns-in-Err-clause-made g c =
    let old = c.args.self.now in
    let mid = c.add_rule.new.self in
    let new = c.forget_rule.new.self in
    let is : mid ≡ with_one_more c.args.rule old = c.in_ok-add_rule.ensures.added in
    let gone : new ≡ old = c.forget_rule.ensures old c.args.rule (c.in-Err.ensures.unchanged ∙ is) in
    told c.say_refusal.result _ _ c.say_refusal.ensures.said
    (λ said (cause, step, told_is, tells).
    let (judged, same) = c.in-Err.ensures.refused cause step told_is in
    let left = left_for (with_rule old.rules c.args.rule) c.args.rule.on c.args.draft in (
      made.Refused cause step,
      rule_concluded c.args.how old c.args.rule left (Refused cause step) old (made.Refused cause step) new
          (subst (λ (e : Editor). IsJudged (left_for e.rules c.args.rule.on c.args.draft) e (Refused cause step)) is judged) refl (refl, gone),
      λ e u. subst (λ s. g.S.Saying.tells s None e (made.Refused cause step) new said c.say_refusal.new.sayer) same
          (tells e new (uncommitted_on e old new u (uncommitted_same old new gone))),
    ))
