use Rattle.std.proofs.Common.{length, sym, ap, ◌∙◌}
use Rattle.lx_store.specs.Pages.{slot_at}
use Rattle.lx_store.proofs.Joined.{chapter_size, slot_read}
use Rattle.lx_store.proofs.chapter.ChapterSlots.get.Goals as goal

pub returns-clause-item : goal.returns-clause-item
returns-clause-item g c =
    c.get.ensures ∙ slot_read c.self.inside.leaves.items c.args.slot c.index.result.now c.self.invariant c.requires c.index.ensures
    ∙ ap (λ xs. slot_at xs c.args.slot) c.self.view_is

pub returns-clause-size : goal.returns-clause-size
returns-clause-size g c = ap length (sym c.self.view_is) ∙ chapter_size c.self.inside.leaves.items c.self.invariant
