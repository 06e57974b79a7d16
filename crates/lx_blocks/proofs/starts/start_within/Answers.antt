use Rattle.std.proofs.Common.{◌≡◌, ◌∙◌, ap, sym, false}
use Rattle.lx_forest.specs.Lookups.{has}
use Rattle.lx_edit.specs.Edits.{element_point}
use Rattle.lx_blocks.specs.Starts.{start_at}
use Rattle.lx_blocks.proofs.Downward.{no_leaf}
use Rattle.lx_blocks.proofs.starts.start_within.Goals as goal

pub returns-else-has : goal.returns-else-has
returns-else-has c =
    let absent : has c.args.key c.args.draft.now.forest ≡ false = sym (c.if-has.ensures.has ∙ ap (has c.args.key) c.links-links.ensures.forest) in
    c.element_point.ensures ∙ ap (λ k. element_point k 0) c.root.ensures
    ∙ sym (ap (start_at c.args.draft.now.forest) (no_leaf c.args.draft.now.forest c.args.key absent))
