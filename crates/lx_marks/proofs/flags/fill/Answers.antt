use Rattle.std.proofs.Common.{◌∙◌}
use Rattle.std.specs.Map.{keys_of}
use Rattle.lx_marks.proofs.Tabled.{tabled_more, read_key}
use Rattle.lx_marks.proofs.flags.fill.Goals as goal

pub entries-preserved : goal.entries-preserved
entries-preserved c =
    let (below, is) = read_key c.args.entries.now c.entries.at c.index-entries-at.result c.entries-test.true in
    c.in-Ok.ensures.keys ∙ tabled_more (keys_of c.args.entries.now) c.entries.table.keys c.entries.at _ c.requires.once c.entries.invariant below is
