use Rattle.std.proofs.Common.{◌∙◌, ap, sym}
use Rattle.lx_text.specs.Texts.{is_offset}
use Rattle.lx_caret.proofs.Erased.{offset_of}
use Rattle.lx_caret.proofs.deleting.end_in.Goals as goal

pub reach-requires : goal.reach-requires
reach-requires c =
    ap (is_offset c.args.at) c.as_str.ensures.text
    ∙ offset_of c.args.draft.now.forest c.args.key c.args.at c.in-Some.text.now (sym c.in-Some.ensures) c.requires
