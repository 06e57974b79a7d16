use Rattle.std.proofs.Common.{◌∙◌, sym, ap, subst}
use Rattle.std.specs.FinMap.{get}
use Rattle.lx_store.specs.Tables.{StandsAt, GoesAt}
use Rattle.lx_store.proofs.Sorted.{read_stands, read_goes}
use Rattle.lx_store.proofs.table.Table.get.Goals as goal

pub returns-in-Ok : goal.returns-in-Ok
returns-in-Ok g c =
    c.get.ensures.item
    ∙ sym (read_stands c.self.inside.chapters.items c.number_of.result c.in-Ok.place c.index.result.now c.self.invariant
    (subst (λ es. StandsAt es c.number_of.result c.in-Ok.place) c.deref.ensures.value c.in-Ok.ensures.stands) c.index.ensures c.args.key c.slot_of.result
    c.deref-in-Ok.result.now c.number_of.ensures.number c.slot_of.ensures c.deref-in-Ok.ensures)
    ∙ ap (λ m. get m c.args.key) c.self.view_is

pub returns-in-Err : goal.returns-in-Err
returns-in-Err g c =
    sym (read_goes c.self.inside.chapters.items c.number_of.result c.in-Err.field-0 c.self.invariant
    (subst (λ es. GoesAt es c.number_of.result c.in-Err.field-0) c.deref.ensures.value c.in-Err.ensures.goes) c.args.key c.number_of.ensures.number)
    ∙ ap (λ m. get m c.args.key) c.self.view_is
