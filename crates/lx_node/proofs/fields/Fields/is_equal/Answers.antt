use Rattle.std.proofs.Common.{◌≡◌, arith}
use Rattle.lx_node.specs.Same.{same_fields}
use Rattle.lx_node.proofs.Same.{fields_told}
use Rattle.lx_node.proofs.fields.Fields.is_equal.Goals as goal

pub returns-in-Element-Element-clause-told : goal.returns-in-Element-Element-clause-told
unfolding same_fields
returns-in-Element-Element-clause-told c =
    let same : c.is_equal.result ≡ same_fields c.args.self.now c.args.other.now = grind arith in
    fields_told c.args.self.now c.args.other.now c.is_equal.result same

pub returns-in-Text-Text-clause-told : goal.returns-in-Text-Text-clause-told
unfolding same_fields
returns-in-Text-Text-clause-told c =
    let same : c.is_equal-in-Text-Text.result ≡ same_fields c.args.self.now c.args.other.now = grind arith in
    fields_told c.args.self.now c.args.other.now c.is_equal-in-Text-Text.result same
