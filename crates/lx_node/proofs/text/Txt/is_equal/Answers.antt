use Rattle.std.proofs.Common.{◌∙◌}
use Rattle.lx_node.proofs.Same.{same_bytes}
use Rattle.lx_node.proofs.text.Txt.is_equal.Goals as goal

pub returns-clause-same : goal.returns-clause-same
returns-clause-same c =
    c.eq.ensures
    ∙ same_bytes c.args.self.now c.args.other.now c.as_str.result.now c.as_str-2.result.now c.as_str.ensures.bytes c.as_str.ensures.text
    c.as_str-2.ensures.bytes c.as_str-2.ensures.text
