use Rattle.std.proofs.Common.{sym, ap, ◌∙◌}
use Rattle.lx_store.specs.Pages.{slot_at, joined}
use Rattle.lx_store.proofs.Joined.{joined_free}
use Rattle.lx_store.proofs.chapter.Chapter.is_empty.Goals as goal

pub returns : goal.returns
returns g c _ slot =
    ap (λ xs. slot_at xs slot) (sym (ap joined c.deref-leaf-items.ensures.value ∙ c.self.view_is))
    ∙ joined_free c.deref-leaf-items.result.now c.loop-leaf.leaf-index c.loop-leaf-test.false c.loop-leaf.invariant slot
