use Rattle.std.proofs.Common.{◌≡◌, ◌++◌}
use Rattle.lx_edit.proofs.places.children_of.Given as goal

-- the keys so far, and those that are left
abbrev pub invariant-loop-child : goal.invariant-loop-child
invariant-loop-child l = l.keys.items ++ l.child-iterator ≡ l.initial.child-iterator
