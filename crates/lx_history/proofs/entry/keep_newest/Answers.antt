use Rattle.std.proofs.Common.{◌∙◌, ap, sym, subst}
use Rattle.lx_history.specs.Told.{states, AreTold}
use Rattle.lx_history.proofs.Told.{states_take, told_take}
use Rattle.lx_history.proofs.entry.keep_newest.Goals as goal

pub returns-clause-states : goal.returns-clause-states
returns-clause-states c = ap states c.truncate.ensures.items ∙ states_take 500 c.args.entries.now.items

pub returns-clause-told : goal.returns-clause-told
returns-clause-told c = λ beside told. subst (AreTold beside) (sym c.truncate.ensures.items) (told_take 500 beside c.args.entries.now.items told)
