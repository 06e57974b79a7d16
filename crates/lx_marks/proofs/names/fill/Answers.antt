use Rattle.std.proofs.Common.{◌∙◌}
use Rattle.lx_marks.proofs.Tabled.{tabled_more}
use Rattle.lx_marks.proofs.names.fill.Goals as goal

pub keys-preserved : goal.keys-preserved
keys-preserved c =
    c.in-Ok.ensures.keys ∙ tabled_more c.args.keys.now c.keys.table.keys c.keys.at c.index-keys-at.result c.requires.once c.keys.invariant c.keys-test.true c.index-keys-at.is
