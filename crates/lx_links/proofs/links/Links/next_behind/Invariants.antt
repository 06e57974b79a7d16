use Rattle.std.proofs.Common.{◌≡◌, Some}
use Rattle.lx_forest.specs.Lookups as lookups
use Rattle.lx_links.proofs.links.Links.next_behind.Given as goal

-- after the key reached is what comes after the one asked for
abbrev pub invariant-loop-next : goal.invariant-loop-next
invariant-loop-next l = record {
  depth : lookups.depth l.self l.at ≡ Some l.above;
  behind : lookups.behind l.self l.fn.key ≡ lookups.behind l.self l.at;
}

abbrev pub decreases-loop-next : goal.decreases-loop-next
decreases-loop-next l = l.above
