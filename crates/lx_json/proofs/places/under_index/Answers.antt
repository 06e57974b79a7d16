use Rattle.std.proofs.Common.{◌∙◌, ap, subst, rules, ◌≡◌}
use Rattle.std.specs.Str.{chars}
use Rattle.lx_json.specs.Nodes.{index_place}
use Rattle.lx_json.specs.Growing.{IsUnder}
use Rattle.lx_json.proofs.Spelled.{chars-index_place}
use Rattle.lx_json.proofs.places.under_index.Goals as goal

pub returns-in-Ok : goal.returns-in-Ok
returns-in-Ok c =
    let told : c.as_str.result.now ≡ index_place c.args.index = search rules in
    subst (λ place. IsUnder place c.args.fault c.under.result) (ap chars told ∙ chars-index_place c.args.index c.ranges.index.fits) c.under.ensures
