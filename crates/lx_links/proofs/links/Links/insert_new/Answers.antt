use Rattle.std.proofs.Common.{◌∙◌, sym, arith}
use Rattle.lx_forest.specs.Edits.{with_new}
use Rattle.lx_links.specs.Stands.{Holds}
use Rattle.lx_links.proofs.Edited.{few_held, put_stands}
use Rattle.lx_links.proofs.Refused.{any_err}
use Rattle.lx_links.proofs.Stood.{stood_by, fails, is_now, held_living}
use Rattle.lx_links.proofs.Summed.{failed_counts, counts_now, counted_by, counted_few, few_own, new_counts}
use Rattle.lx_links.proofs.links.Links.insert_new.Goals as goal
use Rattle.lx_links.proofs.links.Links.insert_new.Goals.{In-Some, In_ok-put_node}

-- the nodes that were taken out stand for the forest as it was
holds : (c : In-Some) → Holds c.in-Some.store c.args.self.now
holds c = stood_by _ c.self.inside.stands _ c.in-Some.store c.self.view_is (sym c.take.ensures.value ∙ c.in-Some.is)

-- and with the node that was put there, for the forest with the new one
stands : (c : In_ok-put_node) → Holds c.put_node.new.store (with_new (record { key = c.args.key; kind = c.args.kind; fields = c.args.fields }) c.args.self.now)
stands c =
    put_stands _ _ _ _ _ _ _ (holds (goal.at.In_ok-put_node c).In-Some) c.requires.free c.requires.room c.requires.of_kind c.lone_node.ensures
    c.in_ok-put_node.ensures

pub returns-in_default-clause-failed : goal.returns-in_default-clause-failed
returns-in_default-clause-failed c = fails _ _ c.take.ensures.after

pub put_node-requires : goal.put_node-requires
put_node-requires c = omega (arith, few_held _ _ (holds (goal.at.put_node-requires c).In-Some), c.requires.room)

pub returns-in_err-put_node-clause-failed : goal.returns-in_err-put_node-clause-failed
returns-in_err-put_node-clause-failed c = any_err c.from_residual.result (fails _ _ c.take.ensures.after)

pub invariant_of-self-inside-2 : goal.invariant_of-self-inside-2
invariant_of-self-inside-2 c = (record { value = _; stands = stands (goal.at.invariant_of-self-inside-2 c).In_ok-put_node }, tt)

pub returns-clause-added : goal.returns-clause-added
returns-clause-added c = is_now _ _ _ (stands (goal.at.returns-clause-added c).In_ok-put_node)

pub returns-clause-living : goal.returns-clause-living
returns-clause-living c = held_living _ _ (holds (goal.at.returns-clause-living c).In-Some)

pub invariant_of-self : goal.invariant_of-self
invariant_of-self c = failed_counts _ _ _ c.take.ensures.after

pub invariant_of-self-in_err-put_node : goal.invariant_of-self-in_err-put_node
invariant_of-self-in_err-put_node c = failed_counts _ _ _ c.take.ensures.after

pub plus-self-inside-requires : goal.plus-self-inside-requires
plus-self-inside-requires c = record {
  few = counted_few _ _ c.self.inside.stands _ _ c.self.view_is (holds (goal.at.plus-self-inside-requires c).In-Some) c.self.invariant;
  few_more = few_own _ _ _ c.of-more.ensures;
}

pub invariant_of-self-2 : goal.invariant_of-self-2
invariant_of-self-2 c =
    let at = goal.at.invariant_of-self-2 c in
    counts_now _ _ _ _ (stands at.In_ok-put_node)
    (c.plus-self-inside.ensures
    ∙ new_counts _ _ _ _ (counted_by _ _ c.self.inside.stands _ _ c.self.view_is (holds at.In-Some) c.self.invariant) c.of-more.ensures)
