use Rattle.std.specs.Str.{chars}
use Rattle.lx_step.proofs.Words.{same_by}
use Rattle.lx_update.proofs.holding.is_word.Goals as goal

pub returns : goal.returns
returns c = same_by c.is.result c.args.text.now (chars c.args.word.now) c.is.ensures
