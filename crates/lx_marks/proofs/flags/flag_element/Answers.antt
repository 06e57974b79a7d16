use Rattle.std.proofs.Common.{◌≡◌, ◌∙◌, ◌||◌, ℕ, Bool, List, sym, ap, subst, slice_set, arith}
use Rattle.std.specs.Map.{keys_of}
use Rattle.lx_trees.specs.Siblings.{NoRepeats}
use Rattle.lx_marks.specs.Marks.{flagged}
use Rattle.lx_marks.specs.Inside.{AreTabled}
use Rattle.lx_marks.proofs.Flagged.{once_flagged}
use Rattle.lx_marks.proofs.Tabled.{flagged_at, keys_of-flagged_at, flagged_behind}
use Rattle.lx_marks.proofs.flags.flag_element.Goals as goal
use Rattle.lx_marks.proofs.flags.flag_element.Goals.{then-before, else-before}

pub fill-requires-clause-once : goal.fill-requires-clause-once
fill-requires-clause-once c =
    let grown : c.push.new.self.items ≡ flagged c.args.key c.args.flag c.args.flags.now.entries.items =
    c.in_ok-push-in-None.ensures.items ∙ sym (flagged_behind c.args.key c.args.flag c.args.flags.now.entries.items (sym c.place_of.ensures ∙ c.in-None.is)) in
    subst (λ (es : List (ℕ × Bool)). NoRepeats (keys_of es)) (sym (c.as_slice.ensures.value ∙ grown)) (once_flagged c.args.key c.args.flag _ c.requires.once)

pub returns-after-before-clause-flagged : goal.returns-after-before-clause-flagged
returns-after-before-clause-flagged c =
    let es = c.args.flags.now.entries.items in
    let raised : c.if-before.t-16 ≡ (c.index.result.now.1 || c.args.flag) = elim c.if-before.branch [ then-before w ↦ grind (arith, w) | else-before w ↦ grind (arith, w) ] in
    ap (λ b. slice_set es c.in-Some.at (c.args.key, b)) (raised ∙ ap (λ (e : ℕ × Bool). e.1 || c.args.flag) c.index.ensures)
    ∙ flagged_at c.args.key c.in-Some.at c.args.flag es c.index.result.now (sym c.place_of.ensures ∙ c.in-Some.is)

pub returns-after-before-clause-kept : goal.returns-after-before-clause-kept
returns-after-before-clause-kept c =
    subst (λ ks. AreTabled ks c.args.flags.now.table.keys)
    (sym (keys_of-flagged_at c.args.key c.in-Some.at _ c.args.flags.now.entries.items (sym c.place_of.ensures ∙ c.in-Some.is))) c.requires.tabled

pub returns-in_ok-push-in-None-clause-flagged : goal.returns-in_ok-push-in-None-clause-flagged
returns-in_ok-push-in-None-clause-flagged c =
    c.in_ok-push-in-None.ensures.items ∙ sym (flagged_behind c.args.key c.args.flag c.args.flags.now.entries.items (sym c.place_of.ensures ∙ c.in-None.is))

pub returns-in_ok-push-in-None-clause-once : goal.returns-in_ok-push-in-None-clause-once
returns-in_ok-push-in-None-clause-once c =
    let grown : c.push.new.self.items ≡ flagged c.args.key c.args.flag c.args.flags.now.entries.items =
    c.in_ok-push-in-None.ensures.items ∙ sym (flagged_behind c.args.key c.args.flag c.args.flags.now.entries.items (sym c.place_of.ensures ∙ c.in-None.is)) in
    subst (λ (es : List (ℕ × Bool)). NoRepeats (keys_of es)) (sym grown) (once_flagged c.args.key c.args.flag _ c.requires.once)

pub returns-after-before-clause-once : goal.returns-after-before-clause-once
returns-after-before-clause-once c =
    subst NoRepeats (sym (keys_of-flagged_at c.args.key c.in-Some.at _ c.args.flags.now.entries.items (sym c.place_of.ensures ∙ c.in-Some.is))) c.requires.once
