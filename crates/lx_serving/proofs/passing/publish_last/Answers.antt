use Rattle.std.proofs.Common.{◌≡◌, Some}
use Rattle.std.proofs.lemmas.Result.{on_ok_weaker}
use Rattle.lx_serving.proofs.Following.{fits_ahead, level_ahead}
use Rattle.lx_serving.proofs.passing.publish_last.Goals as goal

pub publish-requires-clause-fit : goal.publish-requires-clause-fit
publish-requires-clause-fit c =
    let last : Some c.in-Some.batch.now ≡ c.args.editor.now.last = c.in-Some.ensures.last in
    fits_ahead c.args.editor.now c.args.hub.now c.in-Some.batch.now c.in_ok-ops-in-Some.ops c.requires.ahead last c.in_ok-ops-in-Some.ensures

pub returns-in_ok-ops-in-Some-clause-level : goal.returns-in_ok-ops-in-Some-clause-level
returns-in_ok-ops-in-Some-clause-level c =
    let last : Some c.in-Some.batch.now ≡ c.args.editor.now.last = c.in-Some.ensures.last in
    on_ok_weaker c.publish.result
    (level_ahead c.args.editor.now c.args.hub.now c.publish.new.self c.in-Some.batch.now c.in_ok-ops-in-Some.ops c.requires.ahead last
    c.in_ok-ops-in-Some.ensures)
    c.publish.ensures.published
