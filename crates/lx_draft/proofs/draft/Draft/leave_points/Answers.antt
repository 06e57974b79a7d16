use Rattle.std.proofs.Common.{◌≡◌, ◌∙◌, sym, ap, subst, false, rules}
use Rattle.lx_forest.specs.Lookups.{parent_of, index_of}
use Rattle.lx_draft.specs.Working.{Working}
use Rattle.lx_draft.specs.Inside.{working_of}
use Rattle.lx_draft.specs.Steps.{take_points, has_point_counting}
use Rattle.lx_draft.proofs.Points.{no_points_taken}
use Rattle.lx_draft.proofs.draft.Draft.leave_points.Goals as goal

pub returns-then-not-counts_children : goal.returns-then-not-counts_children
returns-then-not-counts_children c =
    let w : Working = working_of c.self.inside in
    let away : has_point_counting c.in-Some.parent w.selection ≡ false = search rules in
    subst (λ (v : Working). v ≡ record v { selection = take_points (parent_of v.forest c.args.key) (index_of v.forest c.args.key) v.selection }) c.self.view_is
    (ap (λ s. record w { selection = s })
    (sym (no_points_taken (parent_of w.forest c.args.key) (index_of w.forest c.args.key) c.in-Some.parent w.selection
    (sym c.parent.ensures.parent ∙ c.in-Some.is) away)))
