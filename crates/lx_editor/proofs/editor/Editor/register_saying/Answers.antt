use Rattle.std.proofs.Common.{◌≡◌, ◌∙◌, None, length, refl, sym, ap, subst, arith}
use Rattle.lx_node.specs.declared.cause.Cause.TheVariants.{TooManyRules}
use Rattle.lx_editor.specs.declared.outcome.Outcome.TheVariants as made
use Rattle.lx_editor.specs.Editor.{Editor}
use Rattle.lx_editor.specs.Gathering.{recording_all}
use Rattle.lx_editor.proofs.Changed.{uncommitted_pending, uncommitted_same}
use Rattle.lx_editor.proofs.Told.{told, told_without}
use Rattle.lx_editor.proofs.Waiting.{room_for_rule, rule_refused, rule_registered, rules_fit, rules_full}
use Rattle.lx_editor.proofs.editor.Editor.register_saying.Goals as goal

pub returns-clause-registered : goal.returns-clause-registered
returns-clause-registered g c =
    let old : Editor = c.args.self.now in
    let mid : Editor = c.take_draft.new.self in
    let count : c.len.result ≡ length c.self.inside.rules.items = omega (arith, c.len.ensures, c.self.inside.rules.ok.0) in
    let fits = rules_fit old c.len.result (subst (λ (e : Editor). c.len.result ≡ length e.rules) c.self.view_is count) c.if-len-ge-MOST_RULES.false in
    told c.add_saying.result _ _ c.add_saying.ensures.made
    (λ said (outcome, made, tells). (
      outcome,
      rule_registered old mid c.args.rule c.args.moment c.in_ok-draft.draft c.recording-how.result outcome c.add_saying.new.self fits
          c.take_draft.ensures.taken c.in_ok-draft.ensures.begun (c.recording-how.ensures ∙ ap (recording_all old) c.merged_at.ensures) made,
      tells old (uncommitted_pending old mid c.take_draft.ensures.taken),
    ))

pub returns-clause-unchanged : goal.returns-clause-unchanged
returns-clause-unchanged g c =
    let old : Editor = c.args.self.now in
    let count : c.len.result ≡ length c.self.inside.rules.items = omega (arith, c.len.ensures, c.self.inside.rules.ok.0) in
    let fits = rules_fit old c.len.result (subst (λ (e : Editor). c.len.result ≡ length e.rules) c.self.view_is count) c.if-len-ge-MOST_RULES.false in
    told_without c.add_saying.result _ _ c.add_saying.ensures.unchanged (λ same. same ∙ c.take_draft.ensures.taken ∙ sym (room_for_rule old fits))

-- the 257th rule is refused
pub returns-then-len-ge-MOST_RULES-clause-registered : goal.returns-then-len-ge-MOST_RULES-clause-registered
returns-then-len-ge-MOST_RULES-clause-registered g c =
    let old : Editor = c.args.self.now in
    let count : c.len.result ≡ length c.self.inside.rules.items = omega (arith, c.len.ensures, c.self.inside.rules.ok.0) in
    let full = rules_full old c.len.result (subst (λ (e : Editor). c.len.result ≡ length e.rules) c.self.view_is count) c.if-len-ge-MOST_RULES.true in
    told c.say_refused.result _ _ c.say_refused.ensures.said
    (λ said tells. (made.Refused TooManyRules None, rule_refused old c.args.rule c.args.moment full, tells None old old (uncommitted_same old old refl)))
