use Rattle.std.proofs.Common.{take}
use Rattle.lx_reconcile.specs.Families.{AreFamilies}
use Rattle.lx_reconcile.proofs.family.families_of.Given as goal

abbrev pub invariant-loop-key : goal.invariant-loop-key
invariant-loop-key l = AreFamilies l.hosts.tree (take l.key-index l.key-items) l.made
