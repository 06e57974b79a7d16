use Rattle.std.proofs.Common.{length}
use Rattle.lx_draft.proofs.Measured.{left_from}
use Rattle.lx_editor.proofs.Gathered.{IsGathered}
use Rattle.lx_editor.proofs.marking.keys_of_type.Given as goal

abbrev pub invariant-loop-at : goal.invariant-loop-at
invariant-loop-at l = IsGathered l.fn.on l.links l.keys.items l.at

abbrev pub decreases-loop-at : goal.decreases-loop-at
decreases-loop-at l = length (left_from l.links l.at)
