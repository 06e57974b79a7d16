use Rattle.std.proofs.Common.{◌≡◌, replicate, None}
use Rattle.lx_store.proofs.page.PageSlots.new.Given as goal

-- as many empty slots as rounds
abbrev pub invariant-loop : goal.invariant-loop
invariant-loop g l = l.slots.items ≡ replicate l.counter None
