use Rattle.std.proofs.Common.{◌≡◌, ◌∙◌, rules, ap, ap₂, subst, arith, true, Option, None, Some}
use Rattle.std.specs.Prelude.{IfSome, sum_by}
use Rattle.lx_trees.specs.Siblings.{is_among}
use Rattle.lx_node.specs.Strings.{capped}
use Rattle.lx_forest.specs.Forest.{Forest}
use Rattle.lx_forest.specs.Weights.{weight}
use Rattle.lx_links.specs.Sums.{items_in, item_characters_in}
use Rattle.lx_list.specs.Parts.{AreParts, items_of, part_characters}
use Rattle.lx_list.specs.Touched.{touched_lists}
use Rattle.lx_list.proofs.Parted.{parts_small}
use Rattle.lx_list.proofs.Rewritten.{WasRead, IsTheRest, items_left, characters_left, are_lists, the_rest, number_left}
use Rattle.lx_list.proofs.numbering.number_untouched.Goals as goal
use Rattle.lx_list.proofs.numbering.number_untouched.Goals.{Else-not-may_write}

some_told : {A : Type 0} (o : Option A) (a : A) (P : A → Type 0) → o ≡ Some a → IfSome o P → P a
some_told None a P is told = absurd (cc)
some_told (Some own) a P is told = let same : own ≡ a = cc in subst P same told

-- what was read before the counts are taken
read : (c : Else-not-may_write)
    → WasRead c.args.draft.now c.in-Some.parts.items c.items-items.result c.item_characters-characters.result c.in_ok-loose_items.loose_items
    c.in_ok-loose_items.loose_characters c.in-Some-weigh_parts.own.items c.in-Some-weigh_parts.own.characters
read c =
    let f : Forest = c.args.draft.now.forest in
    record {
      parts_are = subst (λ lists. AreParts f lists c.in-Some.parts.items) (c.deref.ensures.value ∙ c.in_ok-lists.ensures)
          (some_told c.in_ok-parts.field-0 c.in-Some.parts (λ parts. AreParts f c.deref.result.now parts.items) c.in-Some.is c.in_ok-parts.ensures);
      items = c.items-items.ensures ∙ ap (weight items_in) c.links-links.ensures.forest;
      characters = c.item_characters-characters.ensures ∙ ap (λ g. capped (weight item_characters_in g)) c.links-links.ensures.forest;
      loose_items = c.in_ok-loose_items.ensures.items;
      loose_characters = c.in_ok-loose_items.ensures.characters;
      own_items = c.in-Some-weigh_parts.ensures.items ∙ ap₂ (λ g parts. sum_by (items_of g) parts) c.links-links.ensures.forest c.deref-2.ensures.value;
      own_characters =
          c.in-Some-weigh_parts.ensures.characters ∙ ap₂ (λ g parts. sum_by (part_characters g) parts) c.links-links.ensures.forest c.deref-2.ensures.value;
      few = search rules;
      small = search rules;
    }

rest : (c : Else-not-may_write)
    → IsTheRest c.args.draft.now c.items-items.result c.item_characters-characters.result c.in_ok-loose_items.loose_items
    c.in_ok-loose_items.loose_characters c.in-Some-weigh_parts.own.items c.in-Some-weigh_parts.own.characters
    (items_left c.args.draft.now c.in-Some.parts.items) (characters_left c.args.draft.now c.in-Some.parts.items)
rest c = the_rest c.args.draft.now c.in-Some.parts.items _ _ _ _ _ _ c.requires.ready.in_order c.requires.held (read c)

pub parts_of-requires-clause-are_lists : goal.parts_of-requires-clause-are_lists
parts_of-requires-clause-are_lists c q among =
    are_lists c.args.draft.now q (subst (λ xs. is_among q xs ≡ true) (c.deref.ensures.value ∙ c.in_ok-lists.ensures) among)

pub overflow_sub-others : goal.overflow_sub-others
overflow_sub-others c = omega (arith, (rest c).items)

pub overflow_sub-others-2 : goal.overflow_sub-others-2
overflow_sub-others-2 c = omega (arith, (rest (goal.at.overflow_sub-others-2 c).Else-not-may_write).items)

pub overflow_sub-characters : goal.overflow_sub-characters
overflow_sub-characters c = omega (arith, (rest (goal.at.overflow_sub-characters c).Else-not-may_write).characters)

pub overflow_sub-characters-2 : goal.overflow_sub-characters-2
overflow_sub-characters-2 c = omega (arith, (rest (goal.at.overflow_sub-characters-2 c).Else-not-may_write).characters)

pub returns-then-rewrite-clause-done : goal.returns-then-rewrite-clause-done
returns-then-rewrite-clause-done c =
    number_left c.args.draft.now c.rewrite.new.self c.in-Some.parts.items _ _ _ _ _ _ c.requires.since c.requires.ready.in_order c.requires.held
    c.requires.suited (read (goal.at.returns-then-rewrite-clause-done c).Else-not-may_write) (c.rewrite.ensures.rewritten c.if-rewrite.true)

pub returns-then-rewrite-clause-small : goal.returns-then-rewrite-clause-small
returns-then-rewrite-clause-small c =
    parts_small c.args.draft.now (touched_lists c.args.draft.now.forest c.args.draft.now.marks) c.in-Some.parts.items c.links-links.ensures.holds
    c.requires.suited (read (goal.at.returns-then-rewrite-clause-small c).Else-not-may_write).parts_are
