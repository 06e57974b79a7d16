use Rattle.std.proofs.Common.{◌≡◌, ◌*◌, ◌++◌, take}
use Rattle.std.specs.Map.{keys_of}
use Rattle.lx_store.specs.Tables.{keyed}
use Rattle.lx_store.proofs.table.push_keys.Given as goal

-- the keys of the slots so far
abbrev pub invariant-loop-slot : goal.invariant-loop-slot
invariant-loop-slot g l = l.keys.items ≡ l.fn.keys.items ++ keys_of (keyed (l.number * 1024) (take l.slot l.chapter))
