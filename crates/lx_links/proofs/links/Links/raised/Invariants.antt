use Rattle.std.proofs.Common.{◌≡◌, ◌≤◌, ◌-◌, length}
use Rattle.lx_forest.specs.Lookups as lookups
use Rattle.lx_links.proofs.links.Links.raised.Given as goal

abbrev pub invariant-loop-left : goal.invariant-loop-left
invariant-loop-left l = record {
  within : lookups.is_within l.self l.at l.fn.key ≡ lookups.has l.fn.key l.self;
  above : length (lookups.ancestors l.self l.at) - l.left ≡ length (lookups.ancestors l.self l.fn.key) - l.fn.steps;
  most : l.left ≤ l.fn.steps;
  attached : lookups.is_attached l.self l.at ≡ lookups.is_attached l.self l.fn.key;
  same : l.left ≡ l.fn.steps → l.at ≡ l.fn.key;
}

abbrev pub decreases-loop-left : goal.decreases-loop-left
decreases-loop-left l = l.left
