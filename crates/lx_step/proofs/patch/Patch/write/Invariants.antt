use Rattle.std.proofs.Common.{◌≡◌, drop}
use Rattle.lx_step.specs.Patches.{with_members}
use Rattle.lx_step.proofs.patch.Patch.write.Given as goal

abbrev pub invariant-loop-member : goal.invariant-loop-member
invariant-loop-member l = with_members (drop l.member-index l.member-items) l.fields ≡ with_members l.fn.self.members l.initial.fields
