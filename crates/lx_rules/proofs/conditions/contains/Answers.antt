use Rattle.lx_rules.proofs.Pieces.{piece_same, piece_told}
use Rattle.lx_rules.proofs.conditions.contains.Goals as goal

pub returns : goal.returns
returns c =
    record {
      same = piece_same c.contains.result c.args.piece.now c.args.text.now c.contains.ensures.cases c.utf8.text c.utf8.piece;
      told = piece_told c.contains.result c.args.piece.now c.args.text.now c.contains.ensures.cases c.utf8.text c.utf8.piece;
    }
