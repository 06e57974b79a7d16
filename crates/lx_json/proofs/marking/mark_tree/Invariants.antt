use Rattle.std.proofs.Common.{length}
use Rattle.lx_draft.proofs.Measured.{left_from}
use Rattle.lx_json.proofs.Walked.{IsMarkedTo}
use Rattle.lx_json.proofs.marking.mark_tree.Given as goal

abbrev pub invariant-loop-at : goal.invariant-loop-at
invariant-loop-at l = IsMarkedTo l.initial.draft l.draft l.at

abbrev pub decreases-loop-at : goal.decreases-loop-at
decreases-loop-at l = length (left_from l.draft.forest l.at)
