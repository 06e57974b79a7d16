use Rattle.std.proofs.Common.{◌∙◌, ap, sym, codes, None, Some, Ok, Err, if◌then◌else◌, refl}
use Rattle.std.specs.Str.{chars}
use Rattle.serde_json.specs.View.{view}
use Rattle.lx_node.specs.declared.cause.Cause.TheVariants.{BadState}
use Rattle.lx_fields.specs.Types.{kind_of_type, kind_told}
use Rattle.lx_json.specs.Reading.{placed_kind}
use Rattle.lx_json.proofs.Spelled.{chars_plain}
use Rattle.lx_json.proofs.Kinded.{placed_top}
use Rattle.lx_json.proofs.Told.{tells_at}
use Rattle.lx_json.proofs.pieces.typed.Goals as goal

pub returns-in_default-kind : goal.returns-in_default-kind
returns-in_default-kind c = record {
  ok = tt;
  err =
      tells_at (codes "/type") (chars (codes "/type")) c.bad_state.result _ (chars_plain (codes "/type") refl) c.bad_state.ensures
      (ap (λ o. placed_kind o (kind_of_type c.args.text.now) c.args.text.now (view c.args.object.now)) c.in-None.is
      ∙ ap (λ o. placed_kind None o c.args.text.now (view c.args.object.now)) (sym c.in-Some.ensures)
      ∙ placed_top c.in-Some.kind c.args.text.now (view c.args.object.now) c.in_default-kind.not-Root);
}

pub returns-else-may_hold-clause-err : goal.returns-else-may_hold-clause-err
returns-else-may_hold-clause-err c =
    tells_at (codes "/type") (chars (codes "/type")) c.bad_state-else-may_hold.result _ (chars_plain (codes "/type") refl) c.bad_state-else-may_hold.ensures
    (ap (λ o. placed_kind o (kind_of_type c.args.text.now) c.args.text.now (view c.args.object.now)) c.in-Some-above.is
    ∙ ap (λ o. placed_kind (Some c.in-Some-above.parent) o c.args.text.now (view c.args.object.now)) (sym c.in-Some.ensures)
    ∙ ap (λ b. if b then Ok (kind_told c.in-Some.kind (view c.args.object.now)) else Err (BadState (codes "/type")))
    (sym c.may_hold.ensures ∙ c.if-may_hold.false))
