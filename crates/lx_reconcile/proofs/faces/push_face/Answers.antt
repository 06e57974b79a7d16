use Rattle.std.proofs.Common.{◌∙◌, sym}
use Rattle.std.proofs.lemmas.Result.{on_ok_weaker}
use Rattle.lx_reconcile.proofs.Changed.{same_face, face_alike, face_written}
use Rattle.lx_reconcile.proofs.faces.push_face.Goals as goal

pub returns-then-is_same-clause-face : goal.returns-then-is_same-clause-face
returns-then-is_same-clause-face c =
    λ key tag ending. same_face c.args.host key tag c.args.was.now.kind c.args.now.now.kind c.args.was.now.fields c.args.now.now.fields ending _
    (c.is_same.ensures.0 c.if-is_same.true)

pub returns-clause-face : goal.returns-clause-face
returns-clause-face c =
    on_ok_weaker c.push_other_text.result
    (λ text. face_alike c.args.host c.args.was.now.kind c.args.now.now.kind c.args.was.now.fields c.args.now.now.fields c.in-Text-Text.old
    c.in-Text-Text.new _ _
    c.in-Text-Text.is-0 c.in-Text-Text.is-1 (c.show_alike.ensures c.if-show_alike.true) text)
    c.push_other_text.ensures

pub returns-2-clause-face : goal.returns-2-clause-face
returns-2-clause-face c =
    on_ok_weaker c.push_text.result
    (λ text. face_written c.args.host c.args.was.now.kind c.args.now.now.kind c.args.was.now.fields c.args.now.now.fields c.in_ok-old.old.attrs
    c.in_ok-new.new.attrs c.in_ok-old.old.text c.in_ok-new.new.text _ _ _
    c.in_ok-old.ensures.attributes c.in_ok-new.ensures.attributes c.in_ok-old.ensures.text c.in_ok-new.ensures.text
    (rw (c.items.ensures.items, c.items-2.ensures.items) at c.in_ok-push_attributes.ensures) text)
    c.push_text.ensures

pub push_text-requires : goal.push_text-requires
push_text-requires c = record { stays = λ none. c.in_ok-old.ensures.text ∙ c.requires.stays (sym c.in_ok-new.ensures.text ∙ none) }
