use Rattle.std.proofs.Common.{◌≡◌, drop}
use Rattle.lx_fields.specs.Words as words
use Rattle.lx_fields.proofs.words.kind_in.Given as goal

abbrev pub invariant-kinds : goal.invariant-kinds
invariant-kinds l = words.kind_in (drop l.kind-index l.kinds) l.text ≡ words.kind_in l.kinds l.text
