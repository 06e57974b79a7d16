use Rattle.std.proofs.Common.{◌∙◌}
use Rattle.lx_reconcile.proofs.Between.{last_read}
use Rattle.lx_reconcile.proofs.windows.last_key.Goals as goal

pub returns : goal.returns
returns c = c.copied.ensures ∙ last_read c.args.keys.now.items c.args.keys.now.len c.back.result c.args.keys.now.ok.0 c.back.ensures.item
