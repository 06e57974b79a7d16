use Rattle.std.proofs.Common.{◌≡◌, ◌∙◌, [], ◌∷◌, ℕ, sym, ap, rules, arith}
use Rattle.std.specs.Prelude.{option_map}
use Rattle.std.specs.Option.{option_copied}
use Rattle.serde_json.specs.View.{view}
use Rattle.lx_node.specs.Kinds.{is_inline}
use Rattle.lx_forest.specs.Lookups.{alone}
use Rattle.lx_links.proofs.Read.{IsRead, is_read}
use Rattle.lx_json.proofs.BackWritten.{is_found}
use Rattle.lx_blocks.specs.Blocks.{is_at}
use Rattle.lx_clip.specs.Covers.{covers, item_if, label_for}
use Rattle.lx_clip.specs.Extents.{seen}
use Rattle.lx_clip.specs.Slices as slices
use Rattle.lx_clip.proofs.Covered.{is_kind, kind_read, text_read, element_read, leaf_read, as_written, as_element, as_inline, some_kind, child_left, covered_more, covered_past, all_covered, all_inline, all_given}
use Rattle.lx_clip.proofs.GivenBack.{as_given, as_element_given}
use Rattle.lx_clip.proofs.covering.+cover.Goals as goal
use Rattle.lx_clip.proofs.covering.+cover.Goals.{cover-In-Some}

pub cover-unreachable-requires : goal.cover-unreachable-requires
cover-unreachable-requires t c = is_found c.args.links.now c.args.key c.requires.there (sym (ap option_copied c.in_default.is) ∙ c.node.ensures.node)

-- ---- a node

read : {t : ℕ} (c : cover-In-Some t) → IsRead c.args.links.now c.args.key c.in-Some.node.now
read c = is_read c.args.links.now c.args.key c.in-Some.node.now c.node.ensures.sound (sym (ap option_copied c.in-Some.is) ∙ c.node.ensures.node)

kind : {t : ℕ} (c : cover-In-Some t) → is_at is_inline c.args.links.now c.args.key ≡ is_inline c.in-Some.node.now.kind
kind c = is_kind is_inline c.args.links.now c.args.key c.in-Some.node.now (sym (ap option_copied c.in-Some.is) ∙ c.node.ensures.node)

pub cover-returns-in-Text-clause-written : goal.cover-returns-in-Text-clause-written
cover-returns-in-Text-clause-written t c =
    as_written c.text_cover.result (covers (seen c.args.extent.now) (alone c.args.key c.args.links.now)) _
    (text_read (seen c.args.extent.now) c.args.links.now c.args.key c.in-Some.node.now c.in-Text.text
    (read (goal.at.cover-returns-in-Text-clause-written t c).In-Some) c.in-Text.is) c.text_cover.ensures.written

pub cover-returns-in-Text-clause-inline : goal.cover-returns-in-Text-clause-inline
cover-returns-in-Text-clause-inline t c =
    let node = (goal.at.cover-returns-in-Text-clause-inline t c).In-Some in
    as_inline c.text_cover.result c.in-Some.node.now.kind (covers (seen c.args.extent.now) (alone c.args.key c.args.links.now)) _
    (kind_read (seen c.args.extent.now) c.args.links.now c.args.key c.in-Some.node.now (read node)) (kind node)
    (as_written c.text_cover.result (covers (seen c.args.extent.now) (alone c.args.key c.args.links.now)) _
    (text_read (seen c.args.extent.now) c.args.links.now c.args.key c.in-Some.node.now c.in-Text.text (read node) c.in-Text.is) c.text_cover.ensures.written)

pub cover-returns-in-Ok-clause-written : goal.cover-returns-in-Ok-clause-written
cover-returns-in-Ok-clause-written t c =
    let e = seen c.args.extent.now in
    let f = c.args.links.now in
    as_written c.element_cover.result (covers e (alone c.args.key f)) _
    (element_read e f c.args.key c.in-Some.node.now c.in-Element.field-0 (read (goal.at.cover-returns-in-Ok-clause-written t c).In-Some) c.in-Element.is)
    (as_element c.element_cover.result e (label_for c.args.key c.in-Some.node.now) c.in-Ok.below.values.items (slices.covers_below e f c.args.key)
    c.in-Ok.ensures.written c.element_cover.ensures.written)

pub cover-returns-in-Ok-clause-inline : goal.cover-returns-in-Ok-clause-inline
cover-returns-in-Ok-clause-inline t c =
    let e = seen c.args.extent.now in
    let f = c.args.links.now in
    let node = (goal.at.cover-returns-in-Ok-clause-inline t c).In-Some in
    as_inline c.element_cover.result c.in-Some.node.now.kind (covers e (alone c.args.key f)) _ (kind_read e f c.args.key c.in-Some.node.now (read node))
    (kind node)
    (as_written c.element_cover.result (covers e (alone c.args.key f)) _
    (element_read e f c.args.key c.in-Some.node.now c.in-Element.field-0 (read node) c.in-Element.is)
    (as_element c.element_cover.result e (label_for c.args.key c.in-Some.node.now) c.in-Ok.below.values.items (slices.covers_below e f c.args.key)
    c.in-Ok.ensures.written c.element_cover.ensures.written))

pub cover-returns-in_default-fields-clause-written : goal.cover-returns-in_default-fields-clause-written
cover-returns-in_default-fields-clause-written t c =
    as_written c.leaf_cover.result (covers (seen c.args.extent.now) (alone c.args.key c.args.links.now)) _
    (leaf_read (seen c.args.extent.now) c.args.links.now c.args.key c.in-Some.node.now
    (read (goal.at.cover-returns-in_default-fields-clause-written t c).In-Some) c.in_default-fields.not-Text
    c.in_default-fields.not-Element)
    c.leaf_cover.ensures.written

pub cover-returns-in_default-fields-clause-inline : goal.cover-returns-in_default-fields-clause-inline
cover-returns-in_default-fields-clause-inline t c =
    let node = (goal.at.cover-returns-in_default-fields-clause-inline t c).In-Some in
    as_inline c.leaf_cover.result c.in-Some.node.now.kind (covers (seen c.args.extent.now) (alone c.args.key c.args.links.now)) _
    (kind_read (seen c.args.extent.now) c.args.links.now c.args.key c.in-Some.node.now (read node)) (kind node)
    (as_written c.leaf_cover.result (covers (seen c.args.extent.now) (alone c.args.key c.args.links.now)) _
    (leaf_read (seen c.args.extent.now) c.args.links.now c.args.key c.in-Some.node.now (read node) c.in_default-fields.not-Text c.in_default-fields.not-Element)
    c.leaf_cover.ensures.written)

-- ---- what is covered of it is given back

pub cover-returns-in-Text-clause-told : goal.cover-returns-in-Text-clause-told
cover-returns-in-Text-clause-told t c =
    as_given c.text_cover.result (covers (seen c.args.extent.now) (alone c.args.key c.args.links.now)) _
    (text_read (seen c.args.extent.now) c.args.links.now c.args.key c.in-Some.node.now c.in-Text.text
    (read (goal.at.cover-returns-in-Text-clause-told t c).In-Some) c.in-Text.is) c.text_cover.ensures.told

pub cover-returns-in-Ok-clause-told : goal.cover-returns-in-Ok-clause-told
cover-returns-in-Ok-clause-told t c =
    let e = seen c.args.extent.now in
    let f = c.args.links.now in
    as_given c.element_cover.result (covers e (alone c.args.key f)) _
    (element_read e f c.args.key c.in-Some.node.now c.in-Element.field-0 (read (goal.at.cover-returns-in-Ok-clause-told t c).In-Some) c.in-Element.is)
    (as_element_given c.element_cover.result e (label_for c.args.key c.in-Some.node.now) c.in-Ok.below.values.items (slices.covers_below e f c.args.key)
    c.in-Ok.ensures.written c.in-Ok.ensures.told c.element_cover.ensures.told)

pub cover-returns-in_default-fields-clause-told : goal.cover-returns-in_default-fields-clause-told
cover-returns-in_default-fields-clause-told t c =
    as_given c.leaf_cover.result (covers (seen c.args.extent.now) (alone c.args.key c.args.links.now)) _
    (leaf_read (seen c.args.extent.now) c.args.links.now c.args.key c.in-Some.node.now
    (read (goal.at.cover-returns-in_default-fields-clause-told t c).In-Some) c.in_default-fields.not-Text
    c.in_default-fields.not-Element)
    c.leaf_cover.ensures.told

-- ---- the children

pub covers_below-cover-requires : goal.covers_below-cover-requires
covers_below-cover-requires t c =
    let first : c.loop-child.child-iterator ≡ c.in-Some.child ∷ c.next.new.self = search rules in
    let h =
    child_left (seen c.args.extent.now) c.args.links.now c.args.key c.in-Some.child c.into_iter-child-iterator.result c.loop-child.child-iterator
    c.next.new.self c.loop-child.covered.values.items
    c.loop-child.covered.inline c.children-child-items.ensures.sound
    (c.into_iter-child-iterator.ensures.into_iter_gives ∙ c.children-child-items.ensures.children) c.loop-child.invariant first in
    (omega (arith, h.smaller), h.there)

pub covers_below-loop-child-preserved-in-Ok : goal.covers_below-loop-child-preserved-in-Ok
covers_below-loop-child-preserved-in-Ok t c =
    let first : c.loop-child.child-iterator ≡ c.in-Some.child ∷ c.next.new.self = search rules in
    covered_more (seen c.args.extent.now) c.args.links.now c.into_iter-child-iterator.result c.loop-child.child-iterator c.next.new.self c.in-Some.child
    c.loop-child.covered.values.items _
    c.loop-child.covered.inline _ c.in-Ok-Some.value c.loop-child.invariant first c.in-Ok.ensures.values c.in-Ok.ensures.inline
    (c.in-Ok-Some.ensures.written ∙ ap (λ o. item_if (option_map view o)) c.in-Ok-Some.field-0-is)
    (some_kind c.in-Ok-Some.field-0 c.in-Ok-Some.value c.in-Ok-Some.field-0-is c.in-Ok-Some.ensures.inline) c.in-Ok-Some.ensures.told

pub covers_below-loop-child-preserved : goal.covers_below-loop-child-preserved
covers_below-loop-child-preserved t c =
    let first : c.loop-child.child-iterator ≡ c.in-Some.child ∷ c.next.new.self = search rules in
    covered_past (seen c.args.extent.now) c.args.links.now c.into_iter-child-iterator.result c.loop-child.child-iterator c.next.new.self c.in-Some.child
    c.loop-child.covered.values.items
    c.loop-child.covered.inline c.loop-child.invariant first (c.in-Ok-None.ensures.written ∙ ap (λ o. item_if (option_map view o)) c.in-Ok-None.field-0-is)

pub covers_below-returns-clause-written : goal.covers_below-returns-clause-written
covers_below-returns-clause-written t c =
    let none : c.loop-child.child-iterator ≡ [] = search rules in
    all_covered (seen c.args.extent.now) c.args.links.now c.args.key c.into_iter-child-iterator.result c.loop-child.child-iterator
    c.loop-child.covered.values.items c.loop-child.covered.inline
    (c.into_iter-child-iterator.ensures.into_iter_gives ∙ c.children-child-items.ensures.children) none c.loop-child.invariant

pub covers_below-returns-clause-inline : goal.covers_below-returns-clause-inline
covers_below-returns-clause-inline t c =
    let none : c.loop-child.child-iterator ≡ [] = search rules in
    all_inline (seen c.args.extent.now) c.args.links.now c.args.key c.into_iter-child-iterator.result c.loop-child.child-iterator
    c.loop-child.covered.values.items c.loop-child.covered.inline
    (c.into_iter-child-iterator.ensures.into_iter_gives ∙ c.children-child-items.ensures.children) none c.loop-child.invariant

pub covers_below-returns-clause-told : goal.covers_below-returns-clause-told
covers_below-returns-clause-told t c =
    let none : c.loop-child.child-iterator ≡ [] = search rules in
    all_given (seen c.args.extent.now) c.args.links.now c.args.key c.into_iter-child-iterator.result c.loop-child.child-iterator
    c.loop-child.covered.values.items c.loop-child.covered.inline
    (c.into_iter-child-iterator.ensures.into_iter_gives ∙ c.children-child-items.ensures.children) none c.loop-child.invariant
