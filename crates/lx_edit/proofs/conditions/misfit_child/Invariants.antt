use Rattle.std.proofs.Common.{◌≡◌}
use Rattle.lx_edit.specs.Conditions.{misfit_among}
use Rattle.lx_edit.proofs.conditions.misfit_child.Given as goal

-- the first misfit is among those that are left
abbrev pub invariant-loop-child : goal.invariant-loop-child
invariant-loop-child l = misfit_among l.links l.outer l.child-iterator ≡ misfit_among l.links l.outer l.initial.child-iterator
