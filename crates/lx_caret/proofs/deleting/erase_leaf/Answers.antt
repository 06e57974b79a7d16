use Rattle.std.proofs.Common.{◌∙◌, ap}
use Rattle.lx_text.specs.Texts.{is_offset}
use Rattle.lx_forest.specs.Lookups.{fields_of}
use Rattle.lx_draft.specs.Selecting.{text_of}
use Rattle.lx_caret.specs.Deleting.{edge}
use Rattle.lx_caret.proofs.Erased.{edge_place}
use Rattle.lx_caret.proofs.deleting.erase_leaf.Goals as goal

pub erase-requires : goal.erase-requires
erase-requires c =
    ap (λ n. is_offset n (text_of (fields_of c.args.draft.now.forest c.args.key))) (c.edge-at.ensures ∙ ap (edge c.args.back) c.text_length-length.ensures)
    ∙ edge_place c.args.back (fields_of c.args.draft.now.forest c.args.key)
