use Rattle.std.proofs.Common.{◌≡◌, is_some, filter, drop}
use Rattle.lx_history.specs.Changes.{text_fields_at}
use Rattle.lx_history.specs.Few.{with_keys}
use Rattle.lx_history.proofs.few.with_leaves.Given as goal

-- what is left, after what there is so far
abbrev pub invariant-loop-key : goal.invariant-loop-key
invariant-loop-key l =
    with_keys (filter (λ k. is_some (text_fields_at l.links k)) (drop l.key-index l.leaves)) l.few
    ≡ with_keys (filter (λ k. is_some (text_fields_at l.links k)) l.leaves) l.fn.few
