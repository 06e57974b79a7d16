use Rattle.std.proofs.Common.{◌≡◌, None, ◌∙◌, sym, refl}
use Rattle.lx_forest.specs.Edits.{with_fields}
use Rattle.lx_links.specs.Sums.{sums_of, plus}
use Rattle.lx_links.specs.Faults.{set_fault}
use Rattle.lx_links.specs.Stands.{Holds}
use Rattle.lx_links.proofs.Edited.{set_stands}
use Rattle.lx_links.proofs.Refused.{set_missing, set_wrong, set_fine, refused_by, failed_by_memory}
use Rattle.lx_links.proofs.Seen.{seen_in, absent_in}
use Rattle.lx_links.proofs.Stood.{stood_by, fails, is_now}
use Rattle.lx_links.proofs.Summed.{failed_counts, counts_now, counted_few, few_own, set_counts, is_part, less_part}
use Rattle.lx_links.proofs.links.Links.set.Goals as goal
use Rattle.lx_links.proofs.links.Links.set.Goals.{After-take, In-Some-take, In_ok-set_fields}

-- nothing speaks against the set, since the fields are of the kind of the node
fine : (c : After-take) → set_fault c.args.key c.args.fields c.args.self.now ≡ None
fine c = set_fine c.args.key _ _ _ (seen_in _ c.in-Some.node _ _ c.node.ensures.node c.in-Some.is) (sym c.is_of_kind.ensures ∙ c.if-not-is_of_kind.false)

-- the nodes that were taken out stand for the forest as it was
holds : (c : In-Some-take) → Holds c.in-Some-take.store c.args.self.now
holds c = stood_by _ c.self.inside.stands _ c.in-Some-take.store c.self.view_is (sym c.take.ensures.value ∙ c.in-Some-take.is)

-- and once they are changed, for the forest with the node's new fields
stands : (c : In_ok-set_fields) → Holds c.set_fields.new.store (with_fields c.args.key c.args.fields c.args.self.now)
stands c = let at = goal.at.In_ok-set_fields c in set_stands _ _ _ _ _ (holds at.In-Some-take) (fine at.After-take) c.in_ok-set_fields.ensures

-- the sums with those of the new fields are those of the forest afterwards with those of the old fields
sums : (c : In-Some-take)
    → plus c.self.inside.sums c.of-new.result ≡ plus (sums_of (with_fields c.args.key c.args.fields c.args.self.now)) c.of-old.result
sums c =
    set_counts _ _ _ _ c.self.inside.stands _ _ _ _ _ c.in-Some.node c.self.view_is (holds c) c.self.invariant
    c.node.ensures.node c.in-Some.is c.of-old.ensures c.of-new.ensures

pub returns-in_default-clause-refused : goal.returns-in_default-clause-refused
returns-in_default-clause-refused c =
    refused_by _ _ _ _ _ c.unknown.ensures c.in_ok-living.ensures.living
    (set_missing _ c.args.fields _ (absent_in _ _ c.args.key c.node.ensures.node c.in_default.is)) refl

pub returns-then-not-is_of_kind-clause-refused : goal.returns-then-not-is_of_kind-clause-refused
returns-then-not-is_of_kind-clause-refused c =
    let seen = seen_in _ c.in-Some.node c.args.self.now c.args.key c.node.ensures.node c.in-Some.is in
    (c.in_ok-living.ensures.living, set_wrong _ _ _ _ seen (sym c.is_of_kind.ensures ∙ c.if-not-is_of_kind.true), refl)

pub returns-in_default-take-clause-refused : goal.returns-in_default-take-clause-refused
returns-in_default-take-clause-refused c = (λ lives. fine (goal.at.returns-in_default-take-clause-refused c).After-take, fails _ _ c.take.ensures.after)

pub returns-in_err-set_fields-clause-refused : goal.returns-in_err-set_fields-clause-refused
returns-in_err-set_fields-clause-refused c =
    failed_by_memory _ _ _ _ c.from_residual-in_err-set_fields.ensures.1 (fine (goal.at.returns-in_err-set_fields-clause-refused c).After-take)
    (fails _ _ c.take.ensures.after)

pub invariant_of-self-inside-2 : goal.invariant_of-self-inside-2
invariant_of-self-inside-2 c = (record { value = _; stands = stands (goal.at.invariant_of-self-inside-2 c).In_ok-set_fields }, tt)

pub returns-clause-set : goal.returns-clause-set
returns-clause-set c = let at = goal.at.returns-clause-set c in (fine at.After-take, is_now _ _ _ (stands at.In_ok-set_fields))

pub invariant_of-self : goal.invariant_of-self
invariant_of-self c = failed_counts _ _ _ c.take.ensures.after

pub invariant_of-self-in_err-set_fields : goal.invariant_of-self-in_err-set_fields
invariant_of-self-in_err-set_fields c = failed_counts _ _ _ c.take.ensures.after

pub plus-requires : goal.plus-requires
plus-requires c = record {
  few = counted_few _ _ c.self.inside.stands _ _ c.self.view_is (holds (goal.at.plus-requires c).In-Some-take) c.self.invariant;
  few_more = few_own _ _ _ c.of-new.ensures;
}

pub less-self-inside-requires : goal.less-self-inside-requires
less-self-inside-requires c = is_part _ _ _ (c.plus.ensures ∙ sums (goal.at.less-self-inside-requires c).In-Some-take)

pub invariant_of-self-2 : goal.invariant_of-self-2
invariant_of-self-2 c =
    let at = goal.at.invariant_of-self-2 c in
    counts_now _ _ _ _ (stands at.In_ok-set_fields) (c.less-self-inside.ensures ∙ less_part _ _ _ (c.plus.ensures ∙ sums at.In-Some-take))
