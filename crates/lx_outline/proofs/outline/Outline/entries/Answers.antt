use Rattle.std.proofs.Common.{◌≡◌, ◌∙◌, rules}
use Rattle.lx_forest.specs.Lookups.{preorder}
use Rattle.lx_outline.specs.Outline.{entries_kept}
use Rattle.lx_outline.proofs.Listed.{kept_among}
use Rattle.lx_outline.proofs.outline.Outline.entries.Goals as goal

pub returns-clause-told : goal.returns-clause-told
returns-clause-told c is =
    let f = c.args.state.now.links in
    let kept : c.loop-at.entries.items ≡ entries_kept c.args.self.now.headings (preorder f) = search rules in
    kept ∙ kept_among c.args.self.now f (preorder f) is
