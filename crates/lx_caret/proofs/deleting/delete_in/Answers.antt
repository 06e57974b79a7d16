use Rattle.std.proofs.Common.{◌∙◌, sym}
use Rattle.lx_caret.proofs.Erased.{more_place}
use Rattle.lx_caret.proofs.deleting.delete_in.Goals as goal

pub erase-requires : goal.erase-requires
erase-requires c =
    more_place c.args.back c.args.draft.now.forest c.args.point.now c.requires.lies (sym c.has_more.ensures ∙ c.if-has_more.true)
