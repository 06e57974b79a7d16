use Rattle.lx_forest.specs.Lookups.{children_of}
use Rattle.lx_caret.proofs.Inlined.{IsPassed}
use Rattle.lx_caret.proofs.joining.inline_place.Given as goal

-- what was passed and what is left come to what all come to
abbrev pub invariant-loop-child : goal.invariant-loop-child
invariant-loop-child l = IsPassed l.links l.block (children_of l.links l.fn.line) l.child-iterator l.so_far l.here
