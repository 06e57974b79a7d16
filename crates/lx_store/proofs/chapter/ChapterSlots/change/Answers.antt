use Rattle.std.proofs.Common.{◌%◌, option_map, is_some, IfSome, length, set, sym, ap, ◌∙◌, subst}
use Rattle.lx_store.specs.Pages.{slot_at, joined}
use Rattle.lx_store.proofs.Joined.{chapter_size, slot_read, slot_set}
use Rattle.lx_store.proofs.chapter.ChapterSlots.change.Goals as goal

pub change-requires-clause-fits : goal.change-requires-clause-fits
change-requires-clause-fits g c =
    let read = slot_read c.self.inside.leaves.items c.args.slot c.index_mut-leaf.result.now c.self.invariant c.requires.slot c.index_mut-leaf.ensures.value in
    subst (λ o. IfSome o (g.E.Edit.fits c.args.edit)) (ap (λ xs. slot_at xs c.args.slot) (sym c.self.view_is) ∙ sym read) c.requires.fits

pub returns-clause-found : goal.returns-clause-found
returns-clause-found g c =
    let read = slot_read c.self.inside.leaves.items c.args.slot c.index_mut-leaf.result.now c.self.invariant c.requires.slot c.index_mut-leaf.ensures.value in
    c.in_ok-change.ensures.found ∙ ap is_some (read ∙ ap (λ xs. slot_at xs c.args.slot) c.self.view_is)

pub returns-clause-changed : goal.returns-clause-changed
returns-clause-changed g c =
    let read = slot_read c.self.inside.leaves.items c.args.slot c.index_mut-leaf.result.now c.self.invariant c.requires.slot c.index_mut-leaf.ensures.value in
    slot_set c.self.inside.leaves.items c.args.slot c.index_mut-leaf.result.now c.self.invariant c.requires.slot c.index_mut-leaf.ensures.value
    c.change.new.self (option_map (g.E.Edit.edited c.args.edit) (slot_at c.index_mut-leaf.result.now (c.args.slot % 32)))
    c.in_ok-change.ensures.changed
    ∙ ap (λ o. set (joined c.self.inside.leaves.items) c.args.slot (option_map (g.E.Edit.edited c.args.edit) o)) read
    ∙ ap (λ xs. set xs c.args.slot (option_map (g.E.Edit.edited c.args.edit) (slot_at xs c.args.slot))) c.self.view_is

pub returns-clause-size : goal.returns-clause-size
returns-clause-size g c = ap length (sym c.self.view_is) ∙ chapter_size c.self.inside.leaves.items c.self.invariant
