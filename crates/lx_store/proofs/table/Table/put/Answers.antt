use Rattle.std.proofs.Common.{◌∙◌, sym, ap, subst, refl}
use Rattle.std.specs.FinMap.{get, insert}
use Rattle.lx_store.specs.Tables.{StandsAt, GoesAt, IsTable}
use Rattle.lx_store.proofs.Chapters.{mapped, on_err}
use Rattle.lx_store.proofs.Sorted.{read_stands, table_set, put_stands, kept_stands, read_goes, table_insert, add_goes}
use Rattle.lx_store.proofs.table.Table.put.Goals as goal

pub invariant_of-self : goal.invariant_of-self
invariant_of-self g c =
    table_set c.self.inside.chapters.items c.number_of-number.result c.in-Ok.place c.index_mut.result.now c.self.invariant
    (subst (λ es. StandsAt es c.number_of-number.result c.in-Ok.place) c.deref.ensures.value c.in-Ok.ensures.stands) c.index_mut.ensures.value
    c.write.new.held

pub invariant_of-self-in-Ok : goal.invariant_of-self-in-Ok
invariant_of-self-in-Ok g c =
    table_set c.self.inside.chapters.items c.number_of-number.result c.in-Ok.place c.index_mut.result.now c.self.invariant
    (subst (λ es. StandsAt es c.number_of-number.result c.in-Ok.place) c.deref.ensures.value c.in-Ok.ensures.stands) c.index_mut.ensures.value
    c.write.new.held

pub invariant_of-self-in-Err : goal.invariant_of-self-in-Err
invariant_of-self-in-Err g c =
    subst IsTable (sym c.in_ok-insert-in-Err.ensures.items)
    (table_insert c.self.inside.chapters.items c.number_of-number.result c.in-Err.place c.self.invariant
    (subst (λ es. GoesAt es c.number_of-number.result c.in-Err.place) c.deref.ensures.value c.in-Err.ensures.goes) c.in_ok-chapter-in-Err.chapter
    c.number_of-number.ensures.small)

pub returns-in_err-write-in-Ok-clause-unchanged : goal.returns-in_err-write-in-Ok-clause-unchanged
returns-in_err-write-in-Ok-clause-unchanged g c =
    on_err _
    (kept_stands c.self.inside.chapters.items c.number_of-number.result c.in-Ok.place c.index_mut.result.now c.self.invariant
    (subst (λ es. StandsAt es c.number_of-number.result c.in-Ok.place) c.deref.ensures.value c.in-Ok.ensures.stands) c.index_mut.ensures.value
    c.write.new.held c.in_err-write-in-Ok.ensures.unchanged ∙ c.self.view_is)

pub returns-in_ok-write-in-Ok-clause-old : goal.returns-in_ok-write-in-Ok-clause-old
returns-in_ok-write-in-Ok-clause-old g c =
    c.in_ok-write-in-Ok.ensures.old
    ∙ sym (read_stands c.self.inside.chapters.items c.number_of-number.result c.in-Ok.place c.index_mut.result.now c.self.invariant
    (subst (λ es. StandsAt es c.number_of-number.result c.in-Ok.place) c.deref.ensures.value c.in-Ok.ensures.stands) c.index_mut.ensures.value c.args.key
    c.slot_of-slot.result c.index_mut.result.now.1.value c.number_of-number.ensures.number c.slot_of-slot.ensures refl)
    ∙ ap (λ m. get m c.args.key) c.self.view_is

pub returns-in_ok-write-in-Ok-clause-put : goal.returns-in_ok-write-in-Ok-clause-put
returns-in_ok-write-in-Ok-clause-put g c =
    put_stands c.self.inside.chapters.items c.number_of-number.result c.in-Ok.place c.index_mut.result.now c.self.invariant
    (subst (λ es. StandsAt es c.number_of-number.result c.in-Ok.place) c.deref.ensures.value c.in-Ok.ensures.stands) c.index_mut.ensures.value c.args.key
    c.slot_of-slot.result c.write.new.held c.args.item c.number_of-number.ensures.number c.slot_of-slot.ensures c.in_ok-write-in-Ok.ensures.written
    c.in_ok-write-in-Ok.ensures.size
    ∙ ap (λ m. insert m c.args.key c.args.item) c.self.view_is

pub returns-in_ok-insert-in-Err-clause-old : goal.returns-in_ok-insert-in-Err-clause-old
returns-in_ok-insert-in-Err-clause-old g c =
    sym (read_goes c.self.inside.chapters.items c.number_of-number.result c.in-Err.place c.self.invariant
    (subst (λ es. GoesAt es c.number_of-number.result c.in-Err.place) c.deref.ensures.value c.in-Err.ensures.goes) c.args.key c.number_of-number.ensures.number)
    ∙ ap (λ m. get m c.args.key) c.self.view_is

pub returns-in_ok-insert-in-Err-clause-put : goal.returns-in_ok-insert-in-Err-clause-put
returns-in_ok-insert-in-Err-clause-put g c =
    ap mapped c.in_ok-insert-in-Err.ensures.items
    ∙ add_goes c.self.inside.chapters.items c.number_of-number.result c.in-Err.place c.self.invariant
    (subst (λ es. GoesAt es c.number_of-number.result c.in-Err.place) c.deref.ensures.value c.in-Err.ensures.goes) c.args.key c.slot_of-slot.result
    c.in_ok-chapter-in-Err.chapter c.args.item c.number_of-number.ensures.small c.number_of-number.ensures.number c.slot_of-slot.ensures
    c.in_ok-chapter-in-Err.ensures.held
    ∙ ap (λ m. insert m c.args.key c.args.item) c.self.view_is
