use Rattle.std.proofs.Common.{◌∙◌}
use Rattle.lx_caret.proofs.MovedIn.{few_moved}
use Rattle.lx_caret.proofs.joining.join_line.Goals as goal

pub move_in-requires : goal.move_in-requires
move_in-requires c =
    few_moved c.args.draft.now c.links.result.now c.links-2.result.now c.args.line c.args.block c.inline_place-index.result c.deref.result.now
    c.links.ensures.holds
    c.links.ensures.forest c.links-2.ensures.forest c.inline_place-index.ensures.within (c.deref.ensures.value ∙ c.in_ok-keys.ensures)
