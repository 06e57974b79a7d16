use Rattle.std.proofs.Common.{◌∙◌, ◌+◌, ◌*◌, sym, ap, subst, arith}
use Rattle.std.specs.FinMap.{get}
use Rattle.lx_store.specs.Tables.{StandsAt, GoesAt}
use Rattle.lx_store.proofs.Sorted.{read_stands, read_goes}
use Rattle.lx_store.proofs.table.Table.chapter.Goals as goal

pub returns-in-Ok : goal.returns-in-Ok
returns-in-Ok g c slot low =
    sym (read_stands c.self.inside.chapters.items c.args.number c.in-Ok.place c.index.result.now c.self.invariant
    (subst (λ es. StandsAt es c.args.number c.in-Ok.place) c.deref.ensures.value c.in-Ok.ensures.stands) c.index.ensures (c.args.number * 1024 + slot) slot
    c.deref-in-Ok.result.now (omega (arith, low)) (omega (arith, low)) c.deref-in-Ok.ensures)
    ∙ ap (λ m. get m (c.args.number * 1024 + slot)) c.self.view_is

pub returns-in-Err : goal.returns-in-Err
returns-in-Err g c slot low =
    sym (read_goes c.self.inside.chapters.items c.args.number c.in-Err.field-0 c.self.invariant
    (subst (λ es. GoesAt es c.args.number c.in-Err.field-0) c.deref.ensures.value c.in-Err.ensures.goes) (c.args.number * 1024 + slot) (omega (arith, low)))
    ∙ ap (λ m. get m (c.args.number * 1024 + slot)) c.self.view_is
