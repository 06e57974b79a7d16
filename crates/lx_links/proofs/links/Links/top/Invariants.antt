use Rattle.std.proofs.Common.{◌≡◌, length, ◌+◌}
use Rattle.lx_forest.specs.Lookups as lookups
use Rattle.lx_links.proofs.links.Links.top.Given as goal

-- the steps so far and those that are left are all of them, and what is attached stays so
abbrev pub invariant-loop-parent : goal.invariant-loop-parent
invariant-loop-parent l = record {
  steps : l.steps + length (lookups.ancestors l.self l.at) ≡ length (lookups.ancestors l.self l.fn.key);
  attached : lookups.is_attached l.self l.fn.key ≡ lookups.is_attached l.self l.at;
}

abbrev pub decreases-loop-parent : goal.decreases-loop-parent
decreases-loop-parent l = length (lookups.ancestors l.self l.at)
