use Rattle.std.proofs.Common.{option_map, is_some, IfSome, ◌∙◌, sym, ap, subst, refl}
use Rattle.std.specs.FinMap.{get}
use Rattle.lx_store.specs.Edits.{with_item, with_edit}
use Rattle.lx_store.specs.Tables.{StandsAt, GoesAt}
use Rattle.lx_store.proofs.Chapters.{on_err}
use Rattle.lx_store.proofs.Sorted.{read_stands, table_set, edit_stands, kept_stands, read_goes}
use Rattle.lx_store.proofs.table.Table.change.Goals as goal

pub returns-in_default-clause-found : goal.returns-in_default-clause-found
returns-in_default-clause-found g c =
    ap is_some
    (sym (read_goes c.self.inside.chapters.items c.number_of-number.result c.in_default.field-0 c.self.invariant
    (subst (λ es. GoesAt es c.number_of-number.result c.in_default.field-0) c.deref.ensures.value c.in_default.ensures.goes) c.args.key
    c.number_of-number.ensures.number) ∙ ap (λ m. get m c.args.key) c.self.view_is)

pub returns-in_default-clause-changed : goal.returns-in_default-clause-changed
returns-in_default-clause-changed g c =
    ap (λ o. with_item c.args.self.now c.args.key (option_map (g.E.Edit.edited c.args.edit) o))
    (sym (read_goes c.self.inside.chapters.items c.number_of-number.result c.in_default.field-0 c.self.invariant
    (subst (λ es. GoesAt es c.number_of-number.result c.in_default.field-0) c.deref.ensures.value c.in_default.ensures.goes) c.args.key
    c.number_of-number.ensures.number) ∙ ap (λ m. get m c.args.key) c.self.view_is)

pub change-requires-clause-fits : goal.change-requires-clause-fits
change-requires-clause-fits g c =
    subst (λ o. IfSome o (g.E.Edit.fits c.args.edit))
    (ap (λ m. get m c.args.key) (sym c.self.view_is)
    ∙ read_stands c.self.inside.chapters.items c.number_of-number.result c.in-Ok.place c.index_mut.result.now c.self.invariant
    (subst (λ es. StandsAt es c.number_of-number.result c.in-Ok.place) c.deref.ensures.value c.in-Ok.ensures.stands) c.index_mut.ensures.value c.args.key
    c.slot_of-slot.result c.index_mut.result.now.1.value c.number_of-number.ensures.number c.slot_of-slot.ensures refl)
    c.requires

pub invariant_of-self : goal.invariant_of-self
invariant_of-self g c =
    table_set c.self.inside.chapters.items c.number_of-number.result c.in-Ok.place c.index_mut.result.now c.self.invariant
    (subst (λ es. StandsAt es c.number_of-number.result c.in-Ok.place) c.deref.ensures.value c.in-Ok.ensures.stands) c.index_mut.ensures.value
    c.change.new.held

pub returns-in_err-change-clause-unchanged : goal.returns-in_err-change-clause-unchanged
returns-in_err-change-clause-unchanged g c =
    on_err _
    (kept_stands c.self.inside.chapters.items c.number_of-number.result c.in-Ok.place c.index_mut.result.now c.self.invariant
    (subst (λ es. StandsAt es c.number_of-number.result c.in-Ok.place) c.deref.ensures.value c.in-Ok.ensures.stands) c.index_mut.ensures.value
    c.change.new.held c.in_err-change.ensures.unchanged ∙ c.self.view_is)

pub invariant_of-self-2 : goal.invariant_of-self-2
invariant_of-self-2 g c =
    table_set c.self.inside.chapters.items c.number_of-number.result c.in-Ok.place c.index_mut.result.now c.self.invariant
    (subst (λ es. StandsAt es c.number_of-number.result c.in-Ok.place) c.deref.ensures.value c.in-Ok.ensures.stands) c.index_mut.ensures.value
    c.change.new.held

pub returns-clause-found : goal.returns-clause-found
returns-clause-found g c =
    c.in_ok-change.ensures.found
    ∙ ap is_some
    (sym (read_stands c.self.inside.chapters.items c.number_of-number.result c.in-Ok.place c.index_mut.result.now c.self.invariant
    (subst (λ es. StandsAt es c.number_of-number.result c.in-Ok.place) c.deref.ensures.value c.in-Ok.ensures.stands) c.index_mut.ensures.value c.args.key
    c.slot_of-slot.result c.index_mut.result.now.1.value c.number_of-number.ensures.number c.slot_of-slot.ensures refl)
    ∙ ap (λ m. get m c.args.key) c.self.view_is)

pub returns-clause-changed : goal.returns-clause-changed
returns-clause-changed g c =
    edit_stands c.self.inside.chapters.items c.number_of-number.result c.in-Ok.place c.index_mut.result.now c.self.invariant
    (subst (λ es. StandsAt es c.number_of-number.result c.in-Ok.place) c.deref.ensures.value c.in-Ok.ensures.stands) c.index_mut.ensures.value c.args.key
    c.slot_of-slot.result c.change.new.held (g.E.Edit.edited c.args.edit) c.number_of-number.ensures.number c.slot_of-slot.ensures
    c.in_ok-change.ensures.changed c.in_ok-change.ensures.size
    ∙ ap (with_edit (g.E.Edit.edited c.args.edit) c.args.key) c.self.view_is
