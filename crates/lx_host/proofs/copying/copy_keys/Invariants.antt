use Rattle.std.proofs.Common.{◌≡◌, []}
use Rattle.std.specs.Prelude.{nat_eq}
use Rattle.indexmap.specs.IndexMap.{insert_all}
use Rattle.lx_host.proofs.copying.copy_keys.Given as goal

-- those that are left, after those so far
abbrev pub invariant-loop-key : goal.invariant-loop-key
invariant-loop-key l = insert_all nat_eq l.made.entries l.key-iterator ≡ insert_all nat_eq [] l.initial.key-iterator
