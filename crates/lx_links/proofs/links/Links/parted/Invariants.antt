use Rattle.std.proofs.Common.{◌≡◌, true, length}
use Rattle.lx_forest.specs.Lookups as lookups
use Rattle.lx_links.specs.Parted.{IsLevel}
use Rattle.lx_links.proofs.links.Links.parted.Given as goal

abbrev pub invariant-loop-x : goal.invariant-loop-x
invariant-loop-x l = record {
  level : IsLevel l.self l.x l.y;
  first : lookups.is_within l.self l.x l.fn.a ≡ true;
  second : lookups.is_within l.self l.y l.fn.b ≡ true;
}

abbrev pub decreases-loop-x : goal.decreases-loop-x
decreases-loop-x l = length (lookups.ancestors l.self l.x)
