use Rattle.std.proofs.Common.{◌≡◌, ◌≤◌, ◌-◌}
use Rattle.std.specs.List.{slice_get}
use Rattle.lx_forest.specs.Lookups.{children_of}
use Rattle.lx_links.proofs.links.Links.child_from_front.Given as goal

-- so many have been passed
abbrev pub invariant-loop-passed : goal.invariant-loop-passed
invariant-loop-passed l = record {
  here : l.at ≡ slice_get (children_of l.self l.fn.parent) l.passed;
  most : l.passed ≤ l.before;
}

abbrev pub decreases-loop-passed : goal.decreases-loop-passed
decreases-loop-passed l = l.before - l.passed
