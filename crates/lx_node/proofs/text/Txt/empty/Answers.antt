use Rattle.std.proofs.Common.{◌∙◌, ap, sym, subst}
use Rattle.std.proofs.lemmas.Str.{chars-nil}
use Rattle.std.specs.Str.{chars}
use Rattle.lx_node.specs.Counted.{AreCounted}
use Rattle.lx_node.proofs.text.Txt.empty.Goals as goal

pub invariant_of-result : goal.invariant_of-result
invariant_of-result c = subst (AreCounted c.none.result) (sym (ap chars c.new.ensures.bytes ∙ chars-nil)) c.none.ensures

pub returns : goal.returns
returns c = ap chars c.new.ensures.bytes ∙ chars-nil
