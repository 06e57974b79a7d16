use Rattle.std.proofs.Common.{◌≡◌, replicate, []}
use Rattle.lx_store.proofs.chapter.ChapterSlots.new.Given as goal

-- as many leaves without a page as rounds
abbrev pub invariant-loop : goal.invariant-loop
invariant-loop g l = l.leaves.items ≡ replicate l.counter []
