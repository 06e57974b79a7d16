use Rattle.std.proofs.Common.{[], ◌∙◌, ap, sym, codes, refl}
use Rattle.std.specs.Str.{chars}
use Rattle.serde_json.specs.Find.{get}
use Rattle.serde_json.specs.View.{view}
use Rattle.lx_json.specs.Reading.{kind_by, missing, typed}
use Rattle.lx_json.proofs.Spelled.{chars_plain}
use Rattle.lx_json.proofs.Kinded.{typed_unlike, kind_unlike, told_kind}
use Rattle.lx_json.proofs.Told.{tells_at, told_of}
use Rattle.lx_json.proofs.pieces.kind_of.Goals as goal

pub returns-in_default-clause-kind : goal.returns-in_default-clause-kind
returns-in_default-clause-kind c =
    told_of c.untyped.result _ _ c.untyped.ensures.ok (λ kind is. told_kind c.args.above missing (view c.args.object.now) kind is)

pub returns-then-is_null-clause-kind : goal.returns-then-is_null-clause-kind
returns-then-is_null-clause-kind c =
    told_of c.untyped-then-is_null.result _ _ c.untyped-then-is_null.ensures.ok (λ kind is. told_kind c.args.above missing (view c.args.object.now) kind is)

pub returns-in-Some-as_str-clause-kind : goal.returns-in-Some-as_str-clause-kind
returns-in-Some-as_str-clause-kind c =
    told_of c.typed.result _ _ c.typed.ensures.ok (λ kind is. told_kind c.args.above (typed c.in-Some-as_str.text.now) (view c.args.object.now) kind is)

pub returns-in-None-clause-err : goal.returns-in-None-clause-err
returns-in-None-clause-err c =
    tells_at [] (chars (codes "")) c.bad_state.result _ (chars_plain [] refl) c.bad_state.ensures
    (ap (λ t. kind_by c.args.above t (view c.args.object.now))
    (typed_unlike (get (codes "type") (view c.args.object.now)) (view c.in-Some.told.now) (sym c.in-Some.ensures)
    (sym c.is_null.ensures ∙ c.if-is_null.false) (sym c.in-None.ensures))
    ∙ kind_unlike c.args.above (view c.args.object.now))
