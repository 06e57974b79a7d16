use Rattle.std.proofs.Common.{◌≡◌, ◌<◌, ℕ, []}
use Rattle.lx_store.specs.Pages.{page_at}
use Rattle.lx_store.proofs.chapter.Chapter.is_empty.Given as goal

-- the leaves so far have no page
abbrev pub invariant-loop-leaf : goal.invariant-loop-leaf
invariant-loop-leaf g l = (place : ℕ) → place < l.leaf-index → page_at l.leaf-items place ≡ []
