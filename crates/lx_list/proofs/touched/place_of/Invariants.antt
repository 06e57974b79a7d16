use Rattle.std.proofs.Common.{◌≡◌, ℕ, Bool, ◌≤◌, ◌-◌, length}
use Rattle.std.specs.Prelude.{filter}
use Rattle.lx_forest.specs.Lookups.{preorder}
use Rattle.lx_list.proofs.KeptLists.{place}
use Rattle.lx_list.proofs.touched.place_of.Given as goal

-- those that were passed come before it
abbrev pub invariant-loop-at : goal.invariant-loop-at
invariant-loop-at l = record {
  within : l.at ≤ length l.keys;
  before : (p : ℕ → Bool) → l.keys ≡ filter p (preorder l.links) → l.at ≤ place p l.list (preorder l.links);
}

abbrev pub decreases-loop-at : goal.decreases-loop-at
decreases-loop-at l = length l.keys - l.at
