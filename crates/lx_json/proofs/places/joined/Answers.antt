use Rattle.std.proofs.Common.{◌∙◌, ap, rules}
use Rattle.std.specs.Str.{chars}
use Rattle.std.proofs.lemmas.Str.{chars-append}
use Rattle.lx_json.proofs.places.joined.Goals as goal

pub returns : goal.returns
returns c =
    c.of.ensures ∙ ap chars (search rules) ∙ chars-append c.args.front.now c.args.rest.now c.utf8.front
