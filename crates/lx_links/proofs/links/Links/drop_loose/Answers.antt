use Rattle.std.proofs.Common.{◌≡◌, ◌∙◌, sym, ap, cond, None}
use Rattle.std.specs.FinMap.{get}
use Rattle.lx_trees.specs.Siblings.{is_among}
use Rattle.lx_forest.specs.Edits.{drop_detached}
use Rattle.lx_links.specs.Stands.{Holds}
use Rattle.lx_links.specs.Sums.{sums_of, plus}
use Rattle.lx_links.proofs.Refused.{any_err}
use Rattle.lx_links.proofs.Swept.{swept_stands}
use Rattle.lx_links.proofs.Stood.{stood_by, fails, is_now, held_living}
use Rattle.lx_links.proofs.Summed.{failed_counts, counts_now, counted_by, drop_counts, is_part, less_part}
use Rattle.lx_links.proofs.links.Links.drop_loose.Goals as goal
use Rattle.lx_links.proofs.links.Links.drop_loose.Goals.{In-Some, In_ok-take_all}

-- the nodes that were taken out stand for the forest as it was
holds : (c : In-Some) → Holds c.in-Some.store c.args.self.now
holds c = stood_by _ c.self.inside.stands _ c.in-Some.store c.self.view_is (sym c.take.ensures.value ∙ c.in-Some.is)

-- and without those that were found, for the forest without what is detached
stands : (c : In_ok-take_all) → Holds c.take_all.new.store (drop_detached c.args.self.now)
stands c =
    swept_stands _ _ _ _ (holds (goal.at.In_ok-take_all c).In-Some) c.in_ok-keys.ensures.found
    (λ q. c.in_ok-take_all.ensures q ∙ ap (λ xs. cond (is_among q xs) None (get c.in-Some.store q)) c.as_slice.ensures.value)

sums : (c : In_ok-take_all) → c.self.inside.sums ≡ plus (sums_of (drop_detached c.args.self.now)) c.in_ok-keys.field-0.sums
sums c =
    drop_counts _ _ _ (counted_by _ _ c.self.inside.stands _ _ c.self.view_is (holds (goal.at.In_ok-take_all c).In-Some) c.self.invariant)
    c.in_ok-keys.ensures.sums

pub returns-in_default-clause-failed : goal.returns-in_default-clause-failed
returns-in_default-clause-failed c = fails _ _ c.take.ensures.after

pub returns-in_err-keys-clause-failed : goal.returns-in_err-keys-clause-failed
returns-in_err-keys-clause-failed c = any_err c.from_residual.result (fails _ _ c.take.ensures.after)

pub returns-in_err-take_all-clause-failed : goal.returns-in_err-take_all-clause-failed
returns-in_err-take_all-clause-failed c = any_err c.from_residual-in_err-take_all.result (fails _ _ c.take.ensures.after)

pub invariant_of-self-inside-2 : goal.invariant_of-self-inside-2
invariant_of-self-inside-2 c = (record { value = _; stands = stands (goal.at.invariant_of-self-inside-2 c).In_ok-take_all }, tt)

pub returns-clause-dropped : goal.returns-clause-dropped
returns-clause-dropped c = is_now _ _ _ (stands (goal.at.returns-clause-dropped c).In_ok-take_all)

pub returns-clause-living : goal.returns-clause-living
returns-clause-living c = held_living _ _ (holds (goal.at.returns-clause-living c).In-Some)

pub invariant_of-self : goal.invariant_of-self
invariant_of-self c = failed_counts _ _ _ c.take.ensures.after

pub invariant_of-self-in_err-keys : goal.invariant_of-self-in_err-keys
invariant_of-self-in_err-keys c = failed_counts _ _ _ c.take.ensures.after

pub invariant_of-self-in_err-take_all : goal.invariant_of-self-in_err-take_all
invariant_of-self-in_err-take_all c = failed_counts _ _ _ c.take.ensures.after

pub less-self-inside-requires : goal.less-self-inside-requires
less-self-inside-requires c = is_part _ _ _ (sums (goal.at.less-self-inside-requires c).In_ok-take_all)

pub invariant_of-self-2 : goal.invariant_of-self-2
invariant_of-self-2 c =
    let at = goal.at.invariant_of-self-2 c in
    counts_now _ _ _ _ (stands at.In_ok-take_all) (c.less-self-inside.ensures ∙ less_part _ _ _ (sums at.In_ok-take_all))
