use Rattle.std.proofs.Common.{◌≡◌, ◌++◌}
use Rattle.lx_forest.specs.Views.{kinds_of}
use Rattle.lx_links.proofs.links.Links.child_kinds.Given as goal

-- the kinds so far, and those of the children that are left
abbrev pub invariant-loop-child : goal.invariant-loop-child
invariant-loop-child l = l.kinds.items ++ kinds_of l.self l.child-iterator ≡ kinds_of l.self l.initial.child-iterator
