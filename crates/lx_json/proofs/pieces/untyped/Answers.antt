use Rattle.std.proofs.Common.{[], ap, codes, refl}
use Rattle.std.specs.Str.{chars}
use Rattle.serde_json.specs.View.{view}
use Rattle.lx_json.specs.Reading.{kind_by, missing}
use Rattle.lx_json.proofs.Spelled.{chars_plain}
use Rattle.lx_json.proofs.Told.{tells_at}
use Rattle.lx_json.proofs.pieces.untyped.Goals as goal

pub returns-in-Some-clause-err : goal.returns-in-Some-clause-err
returns-in-Some-clause-err c =
    tells_at [] (chars (codes "")) c.bad_state.result _ (chars_plain [] refl) c.bad_state.ensures (ap (λ o. kind_by o missing (view c.args.object.now)) c.in-Some.is)
