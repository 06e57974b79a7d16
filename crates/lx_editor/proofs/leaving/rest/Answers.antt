use Rattle.std.proofs.Common.{sym, subst}
use Rattle.lx_draft.specs.declared.state.Frozen.{Frozen}
use Rattle.lx_editor.proofs.Began.{began_settled}
use Rattle.lx_editor.specs.Updated.{answers_of, what_is_left}
use Rattle.lx_editor.specs.Judged.{IsLeftOf, IsLeftOfImport, LeavesAtRest}
use Rattle.lx_editor.proofs.Updated.{rest_left, left_stands, import_stands}
use Rattle.lx_editor.proofs.leaving.rest.Goals as goal

pub returns-in-Ok-new-clause-left : goal.returns-in-Ok-new-clause-left
returns-in-Ok-new-clause-left c =
    let frozen = c.in-Ok-freeze.frozen in
    subst (λ (f : Frozen). LeavesAtRest c.args.draft (what_is_left c.args.rules.now f)) (sym c.in-Ok-new.ensures.ok)
    (rest_left c.args.rules.now c.args.draft c.settle.new.draft c.number.new.draft frozen.state.links frozen.state.selection frozen.marks frozen.next_key
    c.in-Ok.ensures.does c.in-Ok-number.ensures.does c.in-Ok-freeze.ensures.ok)

pub returns-in-Ok-new-clause-stands : goal.returns-in-Ok-new-clause-stands
returns-in-Ok-new-clause-stands c =
    let frozen = c.in-Ok-freeze.frozen in
    subst (λ (f : Frozen). IsLeftOf c.args.draft (what_is_left c.args.rules.now f)) (sym c.in-Ok-new.ensures.ok)
    (λ u fresh covers. left_stands c.args.rules.now u c.args.draft c.settle.new.draft c.number.new.draft frozen.state.links frozen.state.selection frozen.marks
    frozen.next_key
    fresh covers c.in-Ok.ensures.does c.in-Ok-number.ensures.does c.in-Ok-number.ensures.numbered c.in-Ok-freeze.ensures.ok c.in-Ok-freeze.ensures.start)

pub returns-in-Ok-new-clause-imported : goal.returns-in-Ok-new-clause-imported
returns-in-Ok-new-clause-imported c =
    let frozen = c.in-Ok-freeze.frozen in
    subst (λ (f : Frozen). IsLeftOfImport c.args.draft (what_is_left c.args.rules.now f)) (sym c.in-Ok-new.ensures.ok)
    (import_stands c.args.rules.now c.args.draft c.settle.new.draft c.number.new.draft frozen.state.links frozen.state.selection frozen.marks frozen.next_key
    c.in-Ok.ensures.does c.in-Ok-number.ensures.does c.in-Ok-number.ensures.numbered c.in-Ok-freeze.ensures.ok c.in-Ok-freeze.ensures.start)

pub number-requires : goal.number-requires
number-requires c = record { since = began_settled (answers_of c.args.rules.now) c.args.draft c.settle.new.draft c.requires.may c.in-Ok.ensures.does }
