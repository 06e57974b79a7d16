use Rattle.std.proofs.Common.{arith}
use Rattle.std.specs.Str.{chars}
use Rattle.lx_text.proofs.Told.{missed_at}
use Rattle.lx_text.proofs.offsets.parted.Goals as goal

pub returns-else-behind-eq0-clause-found : goal.returns-else-behind-eq0-clause-found
returns-else-behind-eq0-clause-found c =
    missed_at c.args.offset _ (chars c.args.text.now) c.parted_within-behind.ensures.within (omega (arith, c.if-behind-eq0.false))
