use Rattle.std.proofs.Common.{ℕ, ◌≡◌, cond, None, take}
use Rattle.std.specs.FinMap.{get}
use Rattle.lx_trees.specs.Siblings.{is_among}
use Rattle.lx_links.proofs.sweep.take_all.Given as goal

-- the nodes of the keys so far are out
abbrev pub invariant-loop-key : goal.invariant-loop-key
invariant-loop-key l = (q : ℕ) → get l.store q ≡ cond (is_among q (take l.key-index l.keys)) None (get l.fn.store q)
