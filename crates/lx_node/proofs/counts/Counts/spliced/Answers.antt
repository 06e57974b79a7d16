use Rattle.std.proofs.Common.{◌∙◌, ◌+◌, ap, min}
use Rattle.lx_node.proofs.CodeUnits.{counted-spliced}
use Rattle.lx_node.proofs.counts.Counts.spliced.Goals as goal

pub returns : goal.returns
returns c =
    counted-spliced c.args.self c.args.piece c.args.new c.saturating_add.result c.saturating_add-2.result
    (c.saturating_add.ensures ∙ ap (λ n. min (n + c.args.new.characters) 18446744073709551615) c.saturating_sub.ensures)
    (c.saturating_add-2.ensures ∙ ap (λ n. min (n + c.args.new.units) 18446744073709551615) c.saturating_sub-2.ensures)
