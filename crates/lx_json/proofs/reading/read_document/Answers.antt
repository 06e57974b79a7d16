use Rattle.std.proofs.Common.{◌∙◌, ap, sym, [], codes, refl}
use Rattle.std.specs.Str.{chars}
use Rattle.serde_json.specs.View.{view}
use Rattle.lx_json.specs.Importing.{root_in}
use Rattle.lx_json.specs.Growing.{rooted_by}
use Rattle.lx_json.proofs.Spelled.{chars_plain}
use Rattle.lx_json.proofs.Rooted.{document_of-object, document_of-other, rooted_up}
use Rattle.lx_json.proofs.Told.{tells_at, tells_same, tells_up}
use Rattle.lx_json.proofs.reading.read_document.Goals as goal

pub returns-then-not-is_object-clause-err : goal.returns-then-not-is_object-clause-err
returns-then-not-is_object-clause-err c =
    tells_at [] (chars (codes "")) c.bad_state.result _ (chars_plain [] refl) c.bad_state.ensures
    (document_of-other (view c.args.document.now) (sym c.is_object.ensures ∙ c.if-not-is_object.true))

pub returns-in-Ok-clause-ok : goal.returns-in-Ok-clause-ok
returns-in-Ok-clause-ok c =
    ap (rooted_by c.args.next_key)
    (document_of-object (view c.args.document.now) (sym c.is_object.ensures ∙ c.if-not-is_object.false) ∙ ap root_in (sym c.in-Some.ensures))
    ∙ rooted_up (codes "/root") c.args.next_key _ c.in-Ok.growth c.in-Ok.ensures.ok

pub returns-in-Err-clause-err : goal.returns-in-Err-clause-err
returns-in-Err-clause-err c =
    tells_same c.under.result _ _
    (document_of-object (view c.args.document.now) (sym c.is_object.ensures ∙ c.if-not-is_object.false) ∙ ap root_in (sym c.in-Some.ensures))
    (tells_up (codes "/root") c.in-Err.fault c.under.result _ (rw (chars_plain (codes "/root") refl) at c.under.ensures) c.in-Err.ensures.err)

pub returns-in-None-clause-err : goal.returns-in-None-clause-err
returns-in-None-clause-err c =
    tells_at (codes "/root") (chars (codes "/root")) c.bad_state-in-None.result _ (chars_plain (codes "/root") refl) c.bad_state-in-None.ensures
    (document_of-object (view c.args.document.now) (sym c.is_object.ensures ∙ c.if-not-is_object.false) ∙ ap root_in (sym c.in-None.ensures))
