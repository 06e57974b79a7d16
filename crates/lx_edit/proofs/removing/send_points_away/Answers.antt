use Rattle.std.proofs.Common.{◌≡◌, sym, false, rules}
use Rattle.lx_select.specs.Selection.{has_point_on}
use Rattle.lx_draft.specs.Working.{Working}
use Rattle.lx_edit.proofs.Climbed.{sent_away-apart}
use Rattle.lx_edit.proofs.removing.send_points_away.Goals as goal

pub returns-then-not-has_point_on : goal.returns-then-not-has_point_on
returns-then-not-has_point_on c =
    let w : Working = c.args.draft.now in
    let away : has_point_on c.args.key w.selection ≡ false = search rules in
    sym (sent_away-apart c.args.key w away)
