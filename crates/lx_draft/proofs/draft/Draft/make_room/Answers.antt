use Rattle.std.proofs.Common.{◌≡◌, sym, ap, subst, false, rules}
use Rattle.lx_select.specs.Selection.{each_point, has_point_on}
use Rattle.lx_select.specs.Rules.{put_moves}
use Rattle.lx_select.proofs.Apart.{put-apart}
use Rattle.lx_forest.specs.Lookups.{children_of}
use Rattle.lx_draft.specs.Working.{Working}
use Rattle.lx_draft.specs.Inside.{working_of}
use Rattle.lx_draft.specs.Beside.{gap_index}
use Rattle.lx_draft.proofs.draft.Draft.make_room.Goals as goal

pub returns-else-has_point_on : goal.returns-else-has_point_on
returns-else-has_point_on c =
    let w : Working = working_of c.self.inside in
    let away : has_point_on c.args.parent w.selection ≡ false = search rules in
    subst (λ (v : Working). v
    ≡ record v { selection = each_point (put_moves c.args.parent (gap_index c.args.before (children_of v.forest c.args.parent))) v.selection })
    c.self.view_is
    (ap (λ s. record w { selection = s }) (sym (put-apart c.args.parent (gap_index c.args.before (children_of w.forest c.args.parent)) w.selection away)))
