use Rattle.std.proofs.Common.{◌∙◌, sym, ap, chars}
use Rattle.std.specs.Prelude.{not}
use Rattle.lx_draft.proofs.Respelled.{placed_cut, differ_by_piece}
use Rattle.lx_draft.proofs.draft.Draft.differs_from.Goals as goal

pub has_piece-requires : goal.has_piece-requires
has_piece-requires c = record {
  before = _;
  within = _;
  behind = _;
  cuts = placed_cut c.args.key c.args.piece c.args.self.now.forest c.in-Ok.text.now c.requires c.in-Ok.ensures.found;
}

pub returns : goal.returns
returns c =
    ap not (c.has_piece.ensures _ _ _ (placed_cut c.args.key c.args.piece c.args.self.now.forest c.in-Ok.text.now c.requires c.in-Ok.ensures.found))
    ∙ sym (differ_by_piece c.args.key c.args.piece (chars c.args.new.now) c.args.self.now.forest c.in-Ok.text.now c.requires c.in-Ok.ensures.found)
