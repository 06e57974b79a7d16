use Rattle.std.proofs.Common.{◌≡◌, ℕ, true, take}
use Rattle.lx_trees.specs.Siblings.{is_among}
use Rattle.lx_compare.specs.Marking.{AreFounded, Grows, IsSettled}
use Rattle.lx_compare.proofs.comparing.mark_among.Given as goal

abbrev pub invariant-loop-key : goal.invariant-loop-key
invariant-loop-key l = record {
  founded : AreFounded l.old l.new l.marks;
  grows : Grows l.fn.marks l.marks;
  settled : (q : ℕ) → is_among q (take l.key-index l.keys) ≡ true → IsSettled l.old l.new l.marks q;
}
