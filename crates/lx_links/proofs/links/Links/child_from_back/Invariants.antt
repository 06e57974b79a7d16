use Rattle.std.proofs.Common.{◌≡◌, ◌≤◌, ◌-◌}
use Rattle.std.specs.List.{slice_get}
use Rattle.lx_forest.specs.Lookups.{children_of, size_of}
use Rattle.lx_links.proofs.links.Links.child_from_back.Given as goal

-- so many have been passed
abbrev pub invariant-loop-passed : goal.invariant-loop-passed
invariant-loop-passed l = record {
  here : l.at ≡ slice_get (children_of l.self l.fn.parent) (size_of l.self l.fn.parent - 1 - l.passed);
  most : l.passed ≤ l.behind;
}

abbrev pub decreases-loop-passed : goal.decreases-loop-passed
decreases-loop-passed l = l.behind - l.passed
