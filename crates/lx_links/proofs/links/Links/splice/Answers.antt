use Rattle.std.proofs.Common.{◌≡◌, ◌∙◌, List, ℕ, ◌++◌, Some, sym, chars}
use Rattle.lx_node.specs.Cuts.{Cuts}
use Rattle.lx_node.specs.declared.fields.TextFields.{TextFields}
use Rattle.lx_node.specs.declared.fields.Fields.{Fields}
use Rattle.lx_node.specs.declared.fields.Fields.TheVariants as fields
use Rattle.lx_forest.specs.Lookups.{fields_of}
use Rattle.lx_forest.specs.Edits.{with_fields}
use Rattle.lx_links.specs.Stands.{Holds}
use Rattle.lx_links.specs.Sums.{own_sums, sums_of, plus}
use Rattle.lx_links.proofs.Refused.{any_err}
use Rattle.lx_links.proofs.Spliced.{TextNode, fits_text, text_node, splice_stands, text_of_node, node_refielded}
use Rattle.lx_links.proofs.Stood.{stood_by, fails, is_now, held_living}
use Rattle.lx_links.proofs.Summed.{failed_counts, counts_now, counted_by, counted_few, few_own, node_counts, is_part, less_part}
use Rattle.lx_links.proofs.links.Links.splice.Goals as goal
use Rattle.lx_links.proofs.links.Links.splice.Goals.{In-Some, In_ok-splice_node, After-node_sums-more}

-- the nodes that were taken out stand for the forest as it was, and the key's is a text
holds : (c : In-Some) → Holds c.in-Some.store c.args.self.now
holds c = stood_by _ c.self.inside.stands _ c.in-Some.store c.self.view_is (sym c.take.ensures.value ∙ c.in-Some.is)

node : (c : In-Some) → TextNode c.in-Some.store c.args.self.now c.args.key
node c = text_node c.in-Some.store c.args.self.now c.args.key c.args.front c.args.piece (holds c) c.requires

-- and once its text is spliced, for the forest with that text
stands : (c : In_ok-splice_node) (t : TextFields) (before within behind : List ℕ)
    → fields_of c.args.self.now c.args.key ≡ Some (fields.Text t) → Cuts c.args.front c.args.piece before within behind t.text
    → Holds c.splice_node.new.store (with_fields c.args.key (fields.Text (record t { text = before ++ chars c.args.new.now ++ behind })) c.args.self.now)
stands c t before within behind is cuts =
    let at = (goal.at.In_ok-splice_node c).In-Some in
    let n = node at in
    splice_stands _ _ _ _ t _ (holds at) c.requires.kind_is is n
    (c.in_ok-splice_node.ensures n.node t before within behind n.there (text_of_node _ _ _ t n is) cuts)

fields_now : (c : In_ok-splice_node) → Fields
fields_now c = fields.Text (record c.requires.text { text = c.requires.cut.before ++ chars c.args.new.now ++ c.requires.cut.behind })

stands_now : (c : In_ok-splice_node) → Holds c.splice_node.new.store (with_fields c.args.key (fields_now c) c.args.self.now)
unfolding fields_now
stands_now c = stands c c.requires.text c.requires.cut.before c.requires.cut.within c.requires.cut.behind c.requires.fields_is c.requires.cut.cuts

-- what the node has of the sums then
more : (c : After-node_sums-more)
    → c.node_sums-more.result
    ≡ own_sums (node (goal.at.After-node_sums-more c).In-Some).node.kind (fields_now (goal.at.After-node_sums-more c).In_ok-splice_node)
unfolding fields_now
more c =
    let n = node (goal.at.After-node_sums-more c).In-Some in
    let cut = c.requires.cut in
    c.node_sums-more.ensures _
    (node_refielded c.in-Some.store c.splice_node.new.store c.args.key n.node _
    (c.in_ok-splice_node.ensures n.node c.requires.text cut.before cut.within cut.behind n.there (text_of_node _ _ _ c.requires.text n c.requires.fields_is)
    cut.cuts) n.there)

-- the sums with these are those of the forest afterwards with what the node had
sums : (c : After-node_sums-more)
    → plus c.self.inside.sums c.node_sums-more.result
    ≡ plus (sums_of (with_fields c.args.key (fields_now (goal.at.After-node_sums-more c).In_ok-splice_node) c.args.self.now)) c.node_sums-old.result
sums c =
    let at = (goal.at.After-node_sums-more c).In-Some in
    let n = node at in
    node_counts _ _ _ c.args.self.now c.args.key _ n.node ((holds at).stands.in_order)
    (counted_by _ _ c.self.inside.stands _ _ c.self.view_is (holds at) c.self.invariant) n.told (c.node_sums-old.ensures n.node n.there) (more c)

pub splice_node-requires : goal.splice_node-requires
splice_node-requires c = λ n there.
    fits_text c.in-Some.store c.args.self.now c.args.key c.requires.text (record { front = c.args.front; piece = c.args.piece; text = c.args.new }) n
    (node (goal.at.splice_node-requires c).In-Some) c.requires.fields_is c.requires.cut there

pub returns-in_default-clause-failed : goal.returns-in_default-clause-failed
returns-in_default-clause-failed c = fails _ _ c.take.ensures.after

pub returns-in_err-splice_node-clause-failed : goal.returns-in_err-splice_node-clause-failed
returns-in_err-splice_node-clause-failed c = any_err c.from_residual.result (fails _ _ c.take.ensures.after)

pub invariant_of-self-inside-2 : goal.invariant_of-self-inside-2
invariant_of-self-inside-2 c = (record { value = _; stands = stands_now (goal.at.invariant_of-self-inside-2 c).In_ok-splice_node }, tt)

pub returns-clause-spliced : goal.returns-clause-spliced
returns-clause-spliced c =
    λ t before within behind is cuts. is_now _ _ _ (stands (goal.at.returns-clause-spliced c).In_ok-splice_node t before within behind is cuts)

pub returns-clause-living : goal.returns-clause-living
returns-clause-living c = held_living _ _ (holds (goal.at.returns-clause-living c).In-Some)

pub invariant_of-self : goal.invariant_of-self
invariant_of-self c = failed_counts _ _ _ c.take.ensures.after

pub invariant_of-self-in_err-splice_node : goal.invariant_of-self-in_err-splice_node
invariant_of-self-in_err-splice_node c = failed_counts _ _ _ c.take.ensures.after

pub plus-requires : goal.plus-requires
plus-requires c =
    let at = goal.at.plus-requires c in
    record {
      few = counted_few _ _ c.self.inside.stands _ _ c.self.view_is (holds at.In-Some) c.self.invariant;
      few_more = few_own _ _ _ (more at.After-node_sums-more);
    }

pub less-self-inside-requires : goal.less-self-inside-requires
less-self-inside-requires c = is_part _ _ _ (c.plus.ensures ∙ sums (goal.at.less-self-inside-requires c).After-node_sums-more)

pub invariant_of-self-2 : goal.invariant_of-self-2
invariant_of-self-2 c =
    let at = goal.at.invariant_of-self-2 c in
    counts_now _ _ _ _ (stands_now at.In_ok-splice_node) (c.less-self-inside.ensures ∙ less_part _ _ _ (c.plus.ensures ∙ sums at.After-node_sums-more))
