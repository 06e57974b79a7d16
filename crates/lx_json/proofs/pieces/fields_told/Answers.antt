use Rattle.std.proofs.Common.{◌∙◌, ap, sym, codes, refl}
use Rattle.std.specs.Str.{chars}
use Rattle.lx_json.specs.Reading.{member_place}
use Rattle.lx_json.proofs.Spelled.{chars_plain}
use Rattle.lx_json.proofs.Kinded.{bad_children}
use Rattle.lx_json.proofs.Told.{tells_at}
use Rattle.lx_json.proofs.pieces.fields_told.Goals as goal

pub returns-then-is_bad-clause-err : goal.returns-then-is_bad-clause-err
returns-then-is_bad-clause-err c =
    tells_at (member_place (codes "children")) (member_place (chars (codes "children"))) c.bad_member.result _ (ap member_place (chars_plain (codes "children") refl))
    c.bad_member.ensures
    (bad_children _ _ c.in-Ok.fields (sym c.has_bad_children-is_bad.ensures ∙ c.if-is_bad.true) c.in-Ok.ensures.ok)
