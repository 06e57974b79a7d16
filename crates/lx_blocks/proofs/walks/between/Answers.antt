use Rattle.std.proofs.Common.{◌∙◌, ap, not}
use Rattle.std.specs.Prelude.{filter}
use Rattle.lx_forest.specs.Lookups.{is_within}
use Rattle.lx_blocks.proofs.Steps.{left_until}
use Rattle.lx_blocks.proofs.walks.between.Goals as goal

pub returns-clause-covered : goal.returns-clause-covered
returns-clause-covered c =
    let f = c.args.links.now in
    c.keep_without.ensures ∙ ap (filter (λ k. not (is_within f k c.args.end.now.key)))
    (c.in_ok-keys.ensures
    ∙ left_until f c.args.start.now c.args.end.now c.first_behind-from.result c.first_behind-stop.result c.first_behind-stop.ensures.at
    c.first_behind-from.ensures.left c.first_behind-stop.ensures.left)
