use Rattle.std.proofs.Common.{◌∙◌, ap, filter}
use Rattle.lx_forest.specs.Lookups.{has}
use Rattle.lx_history.specs.Changes.{marked_elements}
use Rattle.lx_history.specs.Few.{with_keys}
use Rattle.lx_history.proofs.Finding.{found}
use Rattle.lx_history.proofs.few.few_changed.Goals as goal

pub returns : goal.returns
returns c =
    found c.args.links.now c.args.marks.now c.leaves.result.now c.with_leaves-few.result c.with_elements.result c.leaves.ensures.leaves
    c.with_leaves-few.ensures
    (c.with_elements.ensures
    ∙ ap (λ es. with_keys (filter (λ k. has k c.args.links.now) (marked_elements es)) c.with_leaves-few.result) c.elements.ensures)
