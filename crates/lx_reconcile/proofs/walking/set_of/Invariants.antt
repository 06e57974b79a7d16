use Rattle.std.proofs.Common.{◌≡◌, take}
use Rattle.lx_reconcile.proofs.walking.set_of.Given as goal

abbrev pub invariant-loop-key : goal.invariant-loop-key
invariant-loop-key l = l.made.keys ≡ take l.key-index l.keys
