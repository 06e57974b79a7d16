use Rattle.std.proofs.Common.{arith}
use Rattle.lx_text.proofs.Segmented.{last_start}
use Rattle.lx_text.proofs.clusters.last_word.Goals as goal

pub loop-piece-init : goal.loop-piece-init
loop-piece-init c = (omega arith, last_start c.args.text.now _ c.utf8.text c.split_word_bounds-pieces.ensures.left)
