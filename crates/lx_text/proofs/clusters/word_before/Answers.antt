use Rattle.std.proofs.Common.{◌∙◌, ◌-◌, ap}
use Rattle.std.specs.Prelude.{chars}
use Rattle.lx_text.proofs.Segmented.{word_before_told}
use Rattle.lx_text.proofs.clusters.word_before.Goals as goal

pub returns-in-Some-clause-start : goal.returns-in-Some-clause-start
returns-in-Some-clause-start c =
    c.saturating_sub.ensures ∙ ap (λ n. c.args.at - n) c.last_word.ensures
    ∙ word_before_told (chars c.args.text.now) (chars c.in-Some.front.now) c.args.at c.ranges.at.fits c.in-Some.ensures.front
