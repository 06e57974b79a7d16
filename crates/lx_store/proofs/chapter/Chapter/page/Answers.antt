use Rattle.std.proofs.Common.{◌∙◌, ◌+◌, ◌*◌, [], sym, ap}
use Rattle.std.proofs.lemmas.List.{get_or_read_under}
use Rattle.lx_store.specs.Pages.{slot_at}
use Rattle.lx_store.proofs.Joined.{slot_joined}
use Rattle.lx_store.proofs.chapter.Chapter.page.Goals as goal

pub returns : goal.returns
returns g c slot low =
    c.page.ensures slot
    ∙ ap (λ page. slot_at page slot)
    (get_or_read_under c.self.inside.leaves.items c.args.place 32 c.index.result.now [] c.index.ensures c.requires (sym c.self.invariant))
    ∙ sym (slot_joined c.self.inside.leaves.items c.args.place slot low)
    ∙ ap (λ slots. slot_at slots (c.args.place * 32 + slot)) c.self.view_is
