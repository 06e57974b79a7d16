use Rattle.std.proofs.Common.{subst}
use Rattle.lx_node.specs.Counted.{AreCounted}
use Rattle.lx_node.proofs.counts.count_piece.Goals as goal

pub returns : goal.returns
returns c = λ before within behind cuts.
    subst (AreCounted c.count.result) (c.piece_of.ensures before within behind cuts) c.count.ensures
