use Rattle.std.proofs.Common.{◌≡◌, filter, drop}
use Rattle.lx_forest.specs.Lookups.{has}
use Rattle.lx_history.specs.Changes.{marked_elements}
use Rattle.lx_history.specs.Few.{with_keys}
use Rattle.lx_history.proofs.few.with_elements.Given as goal

-- what is left, after what there is so far
abbrev pub invariant-loop-key : goal.invariant-loop-key
invariant-loop-key l =
    with_keys (filter (λ k. has k l.links) (marked_elements (drop l.key-index l.elements))) l.few
    ≡ with_keys (filter (λ k. has k l.links) (marked_elements l.elements)) l.fn.few
