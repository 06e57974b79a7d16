use Rattle.std.proofs.Common.{◌≡◌, ◌⊎◌, ℕ, true, drop}
use Rattle.lx_marks.specs.Marks.{is_true_flag, flag_in}
use Rattle.lx_compare.specs.Places.{AreKept, IsListed}
use Rattle.lx_compare.proofs.places.add_elements.Given as goal

-- each element that is marked itself is left, or is listed
abbrev pub invariant-loop-key : goal.invariant-loop-key
invariant-loop-key l = record {
  kept : AreKept l.fn.keys.items l.keys.items;
  listed : (q : ℕ) → is_true_flag (flag_in l.elements q) ≡ true → (is_true_flag (flag_in (drop l.key-index l.elements) q) ≡ true) ⊎ IsListed l.old l.new l.keys.items q;
}
