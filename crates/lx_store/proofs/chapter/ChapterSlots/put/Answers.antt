use Rattle.std.proofs.Common.{Some, length, set, sym, ap, ◌∙◌}
use Rattle.lx_store.specs.Pages.{slot_at}
use Rattle.lx_store.proofs.Joined.{chapter_size, slot_read, slot_set}
use Rattle.lx_store.proofs.chapter.ChapterSlots.put.Goals as goal

pub returns-clause-old : goal.returns-clause-old
returns-clause-old g c =
    c.in_ok-put.ensures.old
    ∙ slot_read c.self.inside.leaves.items c.args.slot c.index_mut-leaf.result.now c.self.invariant c.requires c.index_mut-leaf.ensures.value
    ∙ ap (λ xs. slot_at xs c.args.slot) c.self.view_is

pub returns-clause-written : goal.returns-clause-written
returns-clause-written g c =
    slot_set c.self.inside.leaves.items c.args.slot c.index_mut-leaf.result.now c.self.invariant c.requires c.index_mut-leaf.ensures.value
    c.put.new.self (Some c.args.item) c.in_ok-put.ensures.written
    ∙ ap (λ xs. set xs c.args.slot (Some c.args.item)) c.self.view_is

pub returns-clause-size : goal.returns-clause-size
returns-clause-size g c = ap length (sym c.self.view_is) ∙ chapter_size c.self.inside.leaves.items c.self.invariant
