use Rattle.std.proofs.Common.{◌≡◌, ◌+◌, length}
use Rattle.lx_forest.specs.Lookups.{size_of}
use Rattle.lx_blocks.specs.Places.{before_holder, children_before}
use Rattle.lx_blocks.proofs.places.children_before.Given as goal

-- those that were passed and those that are left are all, and none that was passed holds the key
abbrev pub invariant-loop-child : goal.invariant-loop-child
invariant-loop-child l =
    (l.passed + length l.child-iterator ≡ size_of l.links l.fn.outer)
    × (l.passed + length (before_holder l.links l.key l.child-iterator) ≡ length (children_before l.links l.fn.outer l.key))
