use Rattle.std.proofs.Common.{◌∙◌, ◌+◌, min, ap}
use Rattle.std.specs.Prelude.{chars}
use Rattle.lx_text.proofs.Segmented.{word_after_told}
use Rattle.lx_text.proofs.clusters.word_after.Goals as goal

pub returns-in-Some-clause-end : goal.returns-in-Some-clause-end
returns-in-Some-clause-end c =
    c.saturating_add.ensures ∙ ap (λ n. min (c.args.at + n) 4294967295) c.first_word.ensures
    ∙ word_after_told (chars c.args.text.now) (chars c.in-Some.rest.now) c.args.at c.in-Some.ensures.rest
