use Rattle.std.proofs.Common.{◌∙◌, sym, ap, option_map}
use Rattle.lx_reconcile.proofs.Children.{is_found}
use Rattle.lx_reconcile.proofs.looks.found.Goals as goal

pub unreachable-requires : goal.unreachable-requires
unreachable-requires g c =
    is_found (g.L.Look.forest c.args.source.now) c.args.key c.requires.there
    (sym (ap (option_map g.L.Item.Looked.lent) c.in-None.is) ∙ c.look.ensures.found c.requires.there)
