use Rattle.std.proofs.Common.{◌≡◌, sym, ap, subst, true, arith}
use Rattle.lx_trees.specs.Siblings.{is_among, is_place}
use Rattle.lx_forest.specs.Lookups.{children_of, IsForest}
use Rattle.lx_draft.specs.Working.{Working}
use Rattle.lx_draft.specs.Inside.{working_of}
use Rattle.lx_draft.specs.Beside.{gap_index}
use Rattle.lx_draft.proofs.Gaps.{gap_read}
use Rattle.lx_draft.proofs.draft.Draft.index_of_gap.Goals as goal

pub returns-in-Some : goal.returns-in-Some
returns-in-Some c =
    let w : Working = working_of c.self.inside in
    let order : IsForest w.forest = subst (λ (v : Working). IsForest v.forest) (sym c.self.view_is) c.requires.order in
    let place = subst (λ (v : Working). is_place c.args.before (children_of v.forest c.args.parent) ≡ true) (sym c.self.view_is) c.requires.place in
    let among : is_among c.in-Some.before (children_of w.forest c.args.parent) ≡ true =
    subst (λ o. is_place o (children_of w.forest c.args.parent) ≡ true) c.in-Some.is place in
    let read = gap_read w.forest c.args.parent c.in-Some.before order among in
    let named = ap (λ o. gap_index o (children_of w.forest c.args.parent)) (sym c.in-Some.is) in
    subst (λ (v : Working). c.unwrap_or.result ≡ gap_index c.args.before (children_of v.forest c.args.parent)) c.self.view_is
    (grind (arith, read, named, c.index_of.ensures.index, c.unwrap_or.ensures))
