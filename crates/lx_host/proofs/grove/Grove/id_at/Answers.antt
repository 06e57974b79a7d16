use Rattle.std.proofs.Common.{sym, ap, ◌∙◌, option_map, slice_get}
use Rattle.std.proofs.lemmas.Option.{slice_get-map}
use Rattle.lx_host.specs.Stands.{GroveView}
use Rattle.lx_host.proofs.grove.Grove.id_at.Goals as goal

pub returns-in-None : goal.returns-in-None
returns-in-None c =
    ap (option_map (λ e. e.0)) (rw c.in-None.is at c.get_index.ensures.entry)
    ∙ sym (slice_get-map (λ e. e.0) c.self.inside.table.entries c.args.place)
    ∙ ap (λ (v : GroveView). slice_get v.ids c.args.place) c.self.view_is
