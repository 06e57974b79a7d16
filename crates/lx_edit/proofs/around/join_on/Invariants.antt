use Rattle.std.proofs.Common.{◌-◌}
use Rattle.lx_edit.specs.Texts.{enough, join_on}
use Rattle.lx_edit.proofs.Joined.{Left}
use Rattle.lx_edit.proofs.around.join_on.Given as goal

-- what is left comes to what all comes to
abbrev pub invariant-on : goal.invariant-on
invariant-on l = Left join_on l.key l.draft (join_on enough l.fn.key l.fn.draft)

-- each removal and each joining takes a count
abbrev pub decreases-on : goal.decreases-on
decreases-on l = 100000 - l.draft.counted
