use Rattle.std.proofs.Common.{◌-◌}
use Rattle.lx_edit.specs.Texts.{enough, join_back}
use Rattle.lx_edit.proofs.Joined.{Left}
use Rattle.lx_edit.proofs.around.join_back.Given as goal

-- what is left comes to what all comes to
abbrev pub invariant-back : goal.invariant-back
invariant-back l = Left join_back l.at l.draft (join_back enough l.fn.key l.fn.draft)

-- each removal and each joining takes a count
abbrev pub decreases-back : goal.decreases-back
decreases-back l = 100000 - l.draft.counted
