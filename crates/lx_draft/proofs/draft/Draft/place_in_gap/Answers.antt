use Rattle.std.proofs.Common.{◌≡◌, subst}
use Rattle.std.specs.Prelude.{OnErr}
use Rattle.lx_trees.specs.Trees.{nil}
use Rattle.lx_draft.specs.Inside.{working_of}
use Rattle.lx_draft.specs.Raised.{IsRaisedBut}
use Rattle.lx_draft.proofs.Put.{MayPlace, may_place_in}
use Rattle.lx_draft.proofs.Kept.{after_error}
use Rattle.lx_draft.proofs.Drafted.{drafted_put_both, drafted_lost, put_raised, failed_told}
use Rattle.lx_draft.proofs.draft.Draft.place_in_gap.Goals as goal
use Rattle.lx_draft.proofs.draft.Draft.place_in_gap.Goals.{After-place, In-Ok, in-Ok, in-Err}

-- nothing refuses the put
may : (c : After-place) → MayPlace (working_of c.self.inside).forest c.args.key c.args.parent c.args.before
may c = may_place_in _ c.args.self.now _ _ _ _ c.self.view_is c.requires.order c.requires.fault c.requires.here

-- so where the links answer an error, they have failed
lost : (c : After-place) → OnErr c.place.result (c.place.new.self ≡ nil)
lost c = after_error _ _ _ _ (may c).free c.place.ensures.refused

-- the parent of each marked node is still marked too, but maybe not that of the one that was put there
raised : (c : In-Ok) → IsRaisedBut c.place.new.self c.args.key c.self.inside.marks × IsRaisedBut c.place.new.self c.args.key c.self.inside.fresh
raised c =
    let at = may (goal.at.In-Ok c).After-place in
    put_raised (working_of c.self.inside) _ c.args.parent c.args.before _ _ at.order at.can c.in-Ok.ensures.placed.1 c.self.invariant

pub mark_both_near-requires-clause-marks : goal.mark_both_near-requires-clause-marks
mark_both_near-requires-clause-marks c = (raised (goal.at.mark_both_near-requires-clause-marks c).In-Ok).0

pub mark_both_near-requires-clause-fresh : goal.mark_both_near-requires-clause-fresh
mark_both_near-requires-clause-fresh c = (raised (goal.at.mark_both_near-requires-clause-fresh c).In-Ok).1

pub invariant_of-self : goal.invariant_of-self
invariant_of-self c =
    let at = may (goal.at.invariant_of-self c).After-place in
    let told = c.mark_both_near.ensures in
    drafted_put_both c.mark_both_near.result (working_of c.self.inside) _ c.args.parent c.args.before c.args.key _ _ _ _ _ _ at.order at.can
    c.in-Ok.ensures.placed.1
    told.same told.marks told.fresh told.failed c.self.invariant

pub invariant_of-self-in-Err : goal.invariant_of-self-in-Err
invariant_of-self-in-Err c =
    let gone = subst (λ r. OnErr r (c.place.new.self ≡ nil)) c.in-Err.is (lost (goal.at.invariant_of-self-in-Err c).After-place) in
    drafted_lost (working_of c.self.inside) _ _ _ _ _ gone c.self.invariant

pub returns-clause-failed : goal.returns-clause-failed
returns-clause-failed c =
    elim c.match-place.branch [
      | in-Ok b ↦ failed_told _ _ _ _ b.result-is b.self-is b.mark_both_near.ensures.failed
      | in-Err b ↦
          failed_told _ _ _ _ b.result-is b.self-is
          (subst (λ r. OnErr r (c.place.new.self ≡ nil)) b.in-Err.is (lost (goal.at.returns-clause-failed c).After-place))
    ]
