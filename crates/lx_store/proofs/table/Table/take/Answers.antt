use Rattle.std.proofs.Common.{◌∙◌, sym, ap, subst, refl}
use Rattle.std.specs.FinMap.{get, remove}
use Rattle.lx_store.specs.Tables.{StandsAt, GoesAt}
use Rattle.lx_store.proofs.Chapters.{absent, on_err}
use Rattle.lx_store.proofs.Sorted.{read_stands, table_set, take_stands, kept_stands, read_goes}
use Rattle.lx_store.proofs.table.Table.take.Goals as goal

pub returns-in_default-clause-taken : goal.returns-in_default-clause-taken
returns-in_default-clause-taken g c =
    sym (read_goes c.self.inside.chapters.items c.number_of-number.result c.in_default.field-0 c.self.invariant
    (subst (λ es. GoesAt es c.number_of-number.result c.in_default.field-0) c.deref.ensures.value c.in_default.ensures.goes) c.args.key
    c.number_of-number.ensures.number)
    ∙ ap (λ m. get m c.args.key) c.self.view_is

pub returns-in_default-clause-gone : goal.returns-in_default-clause-gone
returns-in_default-clause-gone g c = absent c.args.self.now c.args.key (sym (returns-in_default-clause-taken g c))

pub invariant_of-self : goal.invariant_of-self
invariant_of-self g c =
    table_set c.self.inside.chapters.items c.number_of-number.result c.in-Ok.place c.index_mut.result.now c.self.invariant
    (subst (λ es. StandsAt es c.number_of-number.result c.in-Ok.place) c.deref.ensures.value c.in-Ok.ensures.stands) c.index_mut.ensures.value
    c.take_out.new.held

pub returns-in_err-taken-clause-unchanged : goal.returns-in_err-taken-clause-unchanged
returns-in_err-taken-clause-unchanged g c =
    on_err _
    (kept_stands c.self.inside.chapters.items c.number_of-number.result c.in-Ok.place c.index_mut.result.now c.self.invariant
    (subst (λ es. StandsAt es c.number_of-number.result c.in-Ok.place) c.deref.ensures.value c.in-Ok.ensures.stands) c.index_mut.ensures.value
    c.take_out.new.held c.in_err-taken.ensures.unchanged ∙ c.self.view_is)

pub invariant_of-self-2 : goal.invariant_of-self-2
invariant_of-self-2 g c =
    table_set c.self.inside.chapters.items c.number_of-number.result c.in-Ok.place c.index_mut.result.now c.self.invariant
    (subst (λ es. StandsAt es c.number_of-number.result c.in-Ok.place) c.deref.ensures.value c.in-Ok.ensures.stands) c.index_mut.ensures.value
    c.take_out.new.held

pub returns-clause-taken : goal.returns-clause-taken
returns-clause-taken g c =
    c.in_ok-taken.ensures.old
    ∙ sym (read_stands c.self.inside.chapters.items c.number_of-number.result c.in-Ok.place c.index_mut.result.now c.self.invariant
    (subst (λ es. StandsAt es c.number_of-number.result c.in-Ok.place) c.deref.ensures.value c.in-Ok.ensures.stands) c.index_mut.ensures.value c.args.key
    c.slot_of-slot.result c.index_mut.result.now.1.value c.number_of-number.ensures.number c.slot_of-slot.ensures refl)
    ∙ ap (λ m. get m c.args.key) c.self.view_is

pub returns-clause-gone : goal.returns-clause-gone
returns-clause-gone g c =
    c.give_up.ensures
    ∙ take_stands c.self.inside.chapters.items c.number_of-number.result c.in-Ok.place c.index_mut.result.now c.self.invariant
    (subst (λ es. StandsAt es c.number_of-number.result c.in-Ok.place) c.deref.ensures.value c.in-Ok.ensures.stands) c.index_mut.ensures.value c.args.key
    c.slot_of-slot.result c.take_out.new.held c.number_of-number.ensures.number c.slot_of-slot.ensures c.in_ok-taken.ensures.written
    c.in_ok-taken.ensures.size
    ∙ ap (λ m. remove m c.args.key) c.self.view_is
