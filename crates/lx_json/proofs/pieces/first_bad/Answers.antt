use Rattle.std.proofs.Common.{◌∙◌, ap, sym, codes, Err, refl}
use Rattle.std.specs.Str.{chars}
use Rattle.lx_node.specs.declared.cause.Cause.TheVariants.{BadState}
use Rattle.lx_json.specs.Reading.{member_place, first_bad, fields_or_bad}
use Rattle.lx_json.proofs.Spelled.{chars_plain}
use Rattle.lx_json.proofs.Kinded.{first_children, first_named}
use Rattle.lx_json.proofs.Told.{tells_as, tells_at}
use Rattle.lx_json.proofs.pieces.first_bad.Goals as goal
use Rattle.lx_json.proofs.pieces.first_bad.Goals.{then-is_bad+in_default, else-is_bad}

pub returns-in-Greater : goal.returns-in-Greater
returns-in-Greater c =
    tells_at (member_place (codes "children")) (member_place (chars (codes "children"))) c.bad_member.result _ (ap member_place (chars_plain (codes "children") refl))
    c.bad_member.ensures
    (first_children c.args.is_bad c.args.name.now c.utf8.name c.if-is_bad.true (sym c.cmp.ensures ∙ c.in-Greater.is))

pub returns : goal.returns
returns c = tells_as (BadState (member_place (chars c.args.name.now))) c.bad_member-2.result _ c.bad_member-2.ensures
    (elim c.if-is_bad.branch [
      | then-is_bad+in_default w ↦
          ap (λ b. fields_or_bad (first_bad b (Err (chars c.args.name.now)))) w.if-is_bad.true
          ∙ first_named c.args.name.now c.utf8.name (λ is. w.in_default.not-Greater (w.cmp.ensures ∙ is))
      | else-is_bad w ↦ ap (λ b. fields_or_bad (first_bad b (Err (chars c.args.name.now)))) w.if-is_bad.false
    ])
