use Rattle.std.proofs.Common.{◌∙◌, sym, ap, subst}
use Rattle.serde_json.specs.View.{members_view}
use Rattle.lx_fields.specs.Documents.{TellsBad}
use Rattle.lx_fields.specs.Words.{names}
use Rattle.lx_fields.proofs.InOrder.{given_each, each_given, refused_at}
use Rattle.lx_fields.proofs.fields.give_each.Goals as goal

pub returns-in-Ok-false-clause-err : goal.returns-in-Ok-false-clause-err
returns-in-Ok-false-clause-err c =
    let first =
    refused_at c.args.kind c.members.fields c.give_by.new.fields (c.in-Some.text.now, c.in-Some.value.now) c.next.new.self c.members.text-iterator
    c.as_str-text.result.now c.in-Some-name_in.name c.in-Ok-false.field-0 c.in-Some.ensures.steps c.as_str-text.ensures.value
    (sym c.in-Some-name_in.is ∙ c.name_in.ensures) c.in-Ok-false.field-0-test c.in-Ok-false.ensures in
    subst (λ given. TellsBad given c.bad.result)
    (first ∙ c.members.invariant ∙ each_given c.args.kind c.args.members.now.entries c.iter-text-items.ensures.ordered c.args.fields.now) c.bad.ensures

pub returns-clause-ok : goal.returns-clause-ok
returns-clause-ok c =
    sym (each_given c.args.kind c.args.members.now.entries c.iter-text-items.ensures.ordered c.args.fields.now) ∙ sym c.members.invariant
    ∙ ap (λ es. given_each c.args.kind names (members_view es) c.members.fields) c.in-None.ensures.steps.0
