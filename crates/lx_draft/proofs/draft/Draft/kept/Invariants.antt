use Rattle.std.proofs.Common.{◌≡◌, take, filter}
use Rattle.lx_forest.specs.Lookups.{has}
use Rattle.lx_draft.proofs.draft.Draft.kept.Given as goal

-- those of the keys so far that are there
abbrev pub invariant-loop-key : goal.invariant-loop-key
invariant-loop-key l = l.kept.items ≡ filter (λ k. has k l.self.forest) (take l.key-index l.keys)
