use Rattle.std.proofs.Common.{◌≡◌, ℕ, true, take}
use Rattle.lx_trees.specs.Siblings.{is_among}
use Rattle.lx_outline.specs.Events.{IsCreated}
use Rattle.lx_outline.proofs.telling.created_among.Given as goal

abbrev pub invariant-loop-key : goal.invariant-loop-key
invariant-loop-key l = record {
  each : (q : ℕ) → is_among q l.keys ≡ true → IsCreated l.before l.after q;
  all : (q : ℕ) → is_among q (take l.key-index l.marked) ≡ true → IsCreated l.before l.after q → is_among q l.keys ≡ true;
}
