use Rattle.std.proofs.Common.{◌≡◌, ◌+◌}
use Rattle.lx_forest.specs.Lookups.{siblings, parent_of}
use Rattle.lx_trees.proofs.Positions.{place_in}
use Rattle.lx_links.proofs.links.Links.index_of.Given as goal

-- the one that is reached is a sibling, and so many places before the one asked for
abbrev pub invariant-loop-previous : goal.invariant-loop-previous
invariant-loop-previous l = record {
  sibling : parent_of l.self l.at ≡ parent_of l.self l.fn.key;
  place : place_in (siblings l.self l.fn.key) l.at + l.index ≡ place_in (siblings l.self l.fn.key) l.fn.key;
}

abbrev pub decreases-loop-previous : goal.decreases-loop-previous
decreases-loop-previous l = place_in (siblings l.self l.fn.key) l.at
