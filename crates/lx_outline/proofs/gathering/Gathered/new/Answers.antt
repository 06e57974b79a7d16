use Rattle.std.proofs.Common.{chars, ap, ◌∙◌}
use Rattle.std.proofs.lemmas.Str.{chars-nil}
use Rattle.lx_outline.proofs.gathering.Gathered.new.Goals as goal

pub returns : goal.returns
returns c = ap chars c.new.ensures.bytes ∙ chars-nil
