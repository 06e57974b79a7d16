use Rattle.std.proofs.Common.{chars, ◌++◌, if◌then◌else◌, nat_lt, codes, [], take, ap, ◌∙◌, sym}
use Rattle.std.proofs.lemmas.Str.{chars-nil}
use Rattle.lx_render.specs.Render.{spaced}
use Rattle.lx_render.proofs.Words.{spaced-next}
use Rattle.lx_render.proofs.classes.spaced.Goals as goal

pub loop-place-init : goal.loop-place-init
loop-place-init c = ap chars c.new-text.ensures.bytes ∙ chars-nil

pub loop-place-preserved : goal.loop-place-preserved
loop-place-preserved c =
    let next = spaced-next c.args.words.now c.loop-place.place c.index-words-place.result c.loop-place-test.true in
    let space = if nat_lt 0 c.loop-place.place then codes " " else [] in
    c.in_ok-push.ensures
    ∙ ap (λ text. text ++ chars c.as_str.result.now) (c.in_ok-push_space.ensures ∙ ap (λ text. text ++ space) c.loop-place.invariant)
    ∙ ap (λ word. spaced (take c.loop-place.place c.args.words.now) ++ space ++ word) (c.as_str.ensures.text ∙ c.index-words-place.is)
    ∙ sym next
