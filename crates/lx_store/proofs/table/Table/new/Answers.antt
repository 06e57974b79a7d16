use Rattle.lx_store.proofs.Sorted.{no_chapters}
use Rattle.lx_store.proofs.table.Table.new.Goals as goal

pub invariant_of-result : goal.invariant_of-result
invariant_of-result g c = no_chapters c.new.result.items c.new.ensures.items
