use Rattle.std.proofs.Common.{◌≡◌, length}
use Rattle.lx_step.specs.Patches.{with_members}
use Rattle.lx_rules.proofs.changes.differs.Given as goal

abbrev pub invariant-loop-member : goal.invariant-loop-member
invariant-loop-member l = with_members l.rest l.fields ≡ with_members l.members l.fields

abbrev pub decreases-loop-member : goal.decreases-loop-member
decreases-loop-member l = length l.rest
