use Rattle.std.proofs.Common.{◌≡◌, ◌++◌, drop}
use Rattle.std.specs.Map.{keys_of}
use Rattle.lx_store.specs.Tables.{items_of, slots_of}
use Rattle.lx_store.proofs.table.Table.keys.Given as goal

-- the keys so far and those of the chapters that are left
abbrev pub invariant-loop-chapter : goal.invariant-loop-chapter
invariant-loop-chapter g l = l.keys.items ++ keys_of (items_of slots_of (drop l.chapter-index l.chapter-items)) ≡ keys_of (items_of slots_of l.chapter-items)
