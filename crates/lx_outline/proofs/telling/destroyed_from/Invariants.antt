use Rattle.std.proofs.Common.{◌≡◌, ℕ, true, take}
use Rattle.lx_trees.specs.Siblings.{is_among}
use Rattle.lx_forest.specs.Lookups.{has}
use Rattle.lx_marks.specs.Marks.{is_touched}
use Rattle.lx_outline.specs.Parts.{AreGone, HasLost}
use Rattle.lx_outline.proofs.telling.destroyed_from.Given as goal

abbrev pub invariant-loop-key : goal.invariant-loop-key
invariant-loop-key l = record {
  gone : AreGone l.before l.after l.gone;
  told : (p : ℕ) → is_among p (take l.key-index l.keys) ≡ true → is_touched l.marks p ≡ true → has p l.after ≡ true → HasLost l.before l.after p l.gone;
}
