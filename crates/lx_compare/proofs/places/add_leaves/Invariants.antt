use Rattle.std.proofs.Common.{◌≡◌, ℕ, true, take}
use Rattle.lx_trees.specs.Siblings.{is_among}
use Rattle.lx_compare.specs.Places.{AreKept, IsListed}
use Rattle.lx_compare.proofs.places.add_leaves.Given as goal

abbrev pub invariant-loop-key : goal.invariant-loop-key
invariant-loop-key l = record {
  kept : AreKept l.fn.keys.items l.keys.items;
  listed : (q : ℕ) → is_among q (take l.key-index l.leaves) ≡ true → IsListed l.old l.new l.keys.items q;
}
