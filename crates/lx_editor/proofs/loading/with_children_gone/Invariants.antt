use Rattle.std.proofs.Common.{◌≡◌}
use Rattle.lx_editor.specs.Judged.{with_leaves}
use Rattle.lx_editor.proofs.loading.with_children_gone.Given as goal

-- what is left of the children is still to come
abbrev pub invariant-loop-child : goal.invariant-loop-child
invariant-loop-child l = with_leaves l.child-iterator l.shown ≡ with_leaves l.initial.child-iterator l.marks
