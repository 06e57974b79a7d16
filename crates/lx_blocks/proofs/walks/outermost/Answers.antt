use Rattle.std.proofs.Common.{◌∙◌, ◌||◌, ℕ, Bool, true, ap}
use Rattle.std.specs.Prelude.{filter, option_map, unwrap_or}
use Rattle.lx_forest.specs.Lookups.{parent_of, is_within}
use Rattle.lx_blocks.proofs.Cuts.{outer_tie}
use Rattle.lx_blocks.proofs.walks.outermost.Goals as goal

pub returns : goal.returns
returns c =
    let f = c.args.links.now in
    let test : ℕ → Bool = λ k. unwrap_or (option_map (λ p. is_within f p c.args.start.now.key || is_within f p c.args.end.now.key) (parent_of f k)) true in
    c.keep_outermost.ensures ∙ ap (filter test) c.in_ok-keys.ensures.covered
    ∙ outer_tie f c.args.start.now c.args.end.now c.between.ensures.sound c.requires.start
