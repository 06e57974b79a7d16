use Rattle.std.proofs.Common.{◌≡◌, []}
use Rattle.std.specs.Prelude.{nat_eq}
use Rattle.indexmap.specs.IndexMap.{insert_all}
use Rattle.lx_host.proofs.copying.copy_hosts.Given as goal

-- those that are left, after those so far
abbrev pub invariant-loop-id : goal.invariant-loop-id
invariant-loop-id l = insert_all nat_eq l.made.entries l.id-iterator ≡ insert_all nat_eq [] l.initial.id-iterator
