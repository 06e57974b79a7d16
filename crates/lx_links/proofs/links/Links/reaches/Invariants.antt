use Rattle.std.proofs.Common.{◌≡◌, length}
use Rattle.lx_forest.specs.Lookups as lookups
use Rattle.lx_links.proofs.links.Links.reaches.Given as goal

abbrev pub invariant-loop-at : goal.invariant-loop-at
invariant-loop-at l = lookups.is_within l.self l.fn.outer l.fn.key ≡ lookups.is_within l.self l.fn.outer l.at

abbrev pub decreases-loop-at : goal.decreases-loop-at
decreases-loop-at l = length (lookups.ancestors l.self l.at)
