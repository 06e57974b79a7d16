use Rattle.std.proofs.Common.{◌∙◌, sym, ap, subst, arith}
use Rattle.lx_store.specs.Pages.{slot_at}
use Rattle.lx_store.specs.Tables.{StandsAt, IsTable}
use Rattle.lx_store.proofs.Chapters.{mapped}
use Rattle.lx_store.proofs.Sorted.{table_remove, give_up_stands}
use Rattle.lx_store.proofs.table.Table.give_up.Goals as goal

pub invariant_of-self : goal.invariant_of-self
invariant_of-self g c =
    subst IsTable (sym c.remove.ensures.items) (table_remove c.self.inside.chapters.items c.args.number c.in-Ok.place c.index.result.now c.self.invariant
    (subst (λ es. StandsAt es c.args.number c.in-Ok.place) c.deref.ensures.value c.in-Ok.ensures.stands) c.index.ensures)

pub returns-then-is_empty : goal.returns-then-is_empty
returns-then-is_empty g c =
    ap mapped c.remove.ensures.items
    ∙ give_up_stands c.self.inside.chapters.items c.args.number c.in-Ok.place c.index.result.now c.self.invariant
    (subst (λ es. StandsAt es c.args.number c.in-Ok.place) c.deref.ensures.value c.in-Ok.ensures.stands) c.index.ensures
    (λ slot. ap (λ xs. slot_at xs slot) (sym c.deref-2.ensures) ∙ c.is_empty.ensures (grind (arith, c.if-is_empty.true)) slot)
    ∙ c.self.view_is
