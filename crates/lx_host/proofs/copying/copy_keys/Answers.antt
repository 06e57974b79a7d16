use Rattle.std.proofs.Common.{◌∙◌, sym, ap, []}
use Rattle.std.specs.Prelude.{nat_eq}
use Rattle.indexmap.specs.IndexMap.{insert_all}
use Rattle.lx_host.proofs.Copied.{all_inserted}
use Rattle.lx_host.proofs.copying.copy_keys.Goals as goal

pub returns : goal.returns
returns c =
    let gives = c.into_iter-key-iterator.ensures.into_iter_gives in
    sym (ap (insert_all nat_eq c.loop-key.made.entries) (c.in-None.ensures.steps.0)) ∙ c.loop-key.invariant
    ∙ ap (insert_all nat_eq []) gives.0 ∙ all_inserted _ gives.4
