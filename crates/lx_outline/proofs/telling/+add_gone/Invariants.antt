use Rattle.std.proofs.Common.{◌+◌, ◌*◌}
use Rattle.lx_trees.specs.NamedTrees.{total}
use Rattle.lx_forest.specs.Lookups.{alone}
use Rattle.lx_outline.proofs.Parts.{AreTaken}
use Rattle.lx_outline.proofs.telling.+add_gone.Given as goal

abbrev pub decreases-add_gone : goal.decreases-add_gone
decreases-add_gone l = 2 * total (alone l.key l.before.now) + 1

abbrev pub decreases-add_lost : goal.decreases-add_lost
decreases-add_lost l = 2 * total (alone l.key l.before.now)

-- each child that is gone is left, or is among the keys
abbrev pub invariant-add_lost-loop-child : goal.invariant-add_lost-loop-child
invariant-add_lost-loop-child l = AreTaken l.before l.after l.fn.keys l.keys l.initial.child-iterator l.child-iterator
