use Rattle.std.proofs.Common.{◌≡◌, ◌∙◌, sym, ap, subst, Option, None, Some}
use Rattle.std.specs.Prelude.{IfSome, IfNone}
use Rattle.lx_draft.specs.Working.{Working}
use Rattle.lx_edit.specs.InTurn.{in_turn}
use Rattle.lx_caret.proofs.Lying.{does_lie}
use Rattle.lx_list.specs.Numbering.{number_step}
use Rattle.lx_list.specs.Parts.{part_numbered}
use Rattle.lx_list.proofs.Renumbers.{number_lies}
use Rattle.lx_list.proofs.numbering.number.Goals as goal

some_told : {A : Type 0} (o : Option A) (a : A) (P : A → Type 0) → o ≡ Some a → IfSome o P → P a
some_told None a P is told = absurd (cc)
some_told (Some own) a P is told = let same : own ≡ a = cc in subst P same told

none_told : {A : Type 0} (o : Option A) (P : Type 0) → o ≡ None → IfNone o P → P
none_told None P is told = told
none_told (Some own) P is told = absurd (cc)

pub returns-in-Some-clause-lying : goal.returns-in-Some-clause-lying
returns-in-Some-clause-lying c =
    let v : Working = c.number_untouched.new.draft in
    let left : number_step c.args.draft.now ≡ in_turn part_numbered c.in-Some.parts.items v =
    some_told c.in_ok-parts.field-0 c.in-Some.parts (λ parts. number_step c.args.draft.now ≡ in_turn part_numbered parts.items v) c.in-Some.is
    c.in_ok-parts.ensures.done in
    does_lie _ _ c.number_parts.result
    (λ e. number_lies c.args.draft.now c.number_parts.new.draft c.in_ok-ready.ensures.ready c.in_ok-ready.ensures.held
    (left ∙ ap (λ parts. in_turn part_numbered parts v) (sym c.deref.ensures.value) ∙ e) c.in_ok-ready.ensures.short) c.number_parts.ensures

pub returns-in-None-clause-lying : goal.returns-in-None-clause-lying
returns-in-None-clause-lying c =
    let same : c.number_untouched.new.draft ≡ c.args.draft.now =
    none_told c.in_ok-parts.field-0 (c.number_untouched.new.draft ≡ c.args.draft.now) c.in-None.is c.in_ok-parts.ensures.same in
    does_lie _ _ c.number_tree.result
    (λ e. number_lies c.args.draft.now c.number_tree.new.draft c.in_ok-ready.ensures.ready c.in_ok-ready.ensures.held
    (ap number_step (sym same) ∙ e) c.in_ok-ready.ensures.short) c.number_tree.ensures
