use Rattle.std.proofs.Common.{◌≡◌, take, map}
use Rattle.lx_reconcile.specs.declared.moves.Move.TheVariants.{Stay}
use Rattle.lx_reconcile.proofs.walking.all_stay.Given as goal

abbrev pub invariant-loop-key : goal.invariant-loop-key
invariant-loop-key l = l.moves.items ≡ map Stay (take l.key-index l.keys)
