use Rattle.std.proofs.Common.{rules, ◌∙◌, ◌+◌, sym, ap, refl, is_some, filter, drop}
use Rattle.std.proofs.lemmas.Option.{slice_get_read}
use Rattle.lx_history.specs.Changes.{text_fields_at}
use Rattle.lx_history.specs.Few.{with_keys}
use Rattle.lx_history.proofs.Finding.{stopped, leaves_step}
use Rattle.lx_history.proofs.few.with_leaves.Goals as goal

pub returns-then-is_several : goal.returns-then-is_several
returns-then-is_several c =
    stopped (filter (λ k. is_some (text_fields_at c.args.links.now k)) (drop (c.loop-key.key-index + 1) c.args.leaves.now)) c.with_leaf-few.result _
    (search (rules, c.if-is_several.ensures))
    (ap (with_keys (filter (λ k. is_some (text_fields_at c.args.links.now k)) (drop (c.loop-key.key-index + 1) c.args.leaves.now))) c.with_leaf-few.ensures
    ∙ sym (leaves_step (λ k. is_some (text_fields_at c.args.links.now k)) c.args.leaves.now c.loop-key.key-index c.key-item.result c.loop-key.few
    (slice_get_read c.args.leaves.now _ c.loop-key.key-index c.key-item.result refl c.loop-key-test.true c.key-item.is))
    ∙ c.loop-key.invariant)
