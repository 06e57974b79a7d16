use Rattle.std.proofs.Common.{length}
use Rattle.lx_tests.proofs.moves.+are_once.Given as goal

abbrev pub decreases-are_once : goal.decreases-are_once
decreases-are_once l = length l.keys.now
