use Rattle.std.proofs.Common.{◌∙◌, ◌++◌, ap, refl, codes}
use Rattle.std.specs.Str.{chars}
use Rattle.lx_node.specs.declared.cause.Cause.TheVariants.{BadState}
use Rattle.lx_json.proofs.Spelled.{chars_plain}
use Rattle.lx_json.proofs.places.bad_member.Goals as goal

pub returns-in-Ok : goal.returns-in-Ok
returns-in-Ok c = ap (λ place. BadState place) (c.in-Ok.ensures ∙ ap (λ front. front ++ chars c.args.name.now) (chars_plain (codes "/") refl))
