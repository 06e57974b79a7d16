use Rattle.std.proofs.Common.{◌≡◌, ◌∙◌, sym, subst, None}
use Rattle.lx_node.specs.OfKind.{IsOfKind}
use Rattle.lx_node.specs.declared.kind.Kind.TheVariants.{Text}
use Rattle.lx_node.specs.declared.fields.Fields.{Fields}
use Rattle.lx_text.specs.Texts.{slice_fault, TellsFirst}
use Rattle.lx_edit.proofs.Tails.{text_of_kind, tail_fault, tail_refused}
use Rattle.lx_edit.proofs.texts.tail_of.Goals as goal

pub returns-in_ok-with_text-in-Ok-slice-clause-allowed : goal.returns-in_ok-with_text-in-Ok-slice-clause-allowed
returns-in_ok-with_text-in-Ok-slice-clause-allowed c =
    tail_fault c.args.draft.now.forest c.args.key c.in-Ok.text.now c.args.offset c.in-Ok.ensures.found
    ∙ subst (λ n. slice_fault c.in-Ok.text.now.text c.args.offset n ≡ None) c.length_of.ensures
    (subst (λ t. slice_fault t c.args.offset c.length_of.result ≡ None) c.as_str.ensures.text c.in-Ok-slice.ensures.allowed)

pub returns-in_ok-with_text-in-Ok-slice-clause-of_kind : goal.returns-in_ok-with_text-in-Ok-slice-clause-of_kind
returns-in_ok-with_text-in-Ok-slice-clause-of_kind c =
    let P : Fields → Type 0 = λ x. IsOfKind Text x in
    subst P (sym c.in_ok-with_text-in-Ok-slice.ensures) (text_of_kind c.in-Ok.text.now c.in-Ok-slice.tail c.in-Ok.ensures.of_kind)

pub returns-in-Err-slice-clause-refused : goal.returns-in-Err-slice-clause-refused
returns-in-Err-slice-clause-refused c =
    tail_refused c.args.draft.now.forest c.args.key c.in-Ok.text.now c.args.offset c.in-Err-slice.fault c.in-Ok.ensures.found
    (subst (λ n. TellsFirst (slice_fault c.in-Ok.text.now.text c.args.offset n) c.in-Err-slice.fault) c.length_of.ensures
    (subst (λ t. TellsFirst (slice_fault t c.args.offset c.length_of.result) c.in-Err-slice.fault) c.as_str.ensures.text c.in-Err-slice.ensures.refused))
