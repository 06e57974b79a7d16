use Rattle.std.proofs.Common.{◌∙◌, ◌++◌, ◌∷◌, [], ◌+◌, ◌||◌, cond, sym, ap}
use Rattle.lx_forest.specs.Lookups.{fields_of, next_of}
use Rattle.lx_list.specs.Nesting.{is_nesting}
use Rattle.lx_list.specs.Numbered.{item_number}
use Rattle.lx_list.specs.Parts.{is_end}
use Rattle.lx_list.proofs.Runs.{IsGathering, gathering_as, gathers_one, gathered_part}
use Rattle.lx_list.proofs.parts.part_around.Goals as goal
use Rattle.lx_list.proofs.parts.part_around.Goals.{After-next-at}

pub returns-then-has_number : goal.returns-then-has_number
returns-then-has_number c =
    gathered_part c.args.draft.now c.requires.since c.args.list c.args.window c.in-Some.number c.loop-at.keys.items c.loop-at.due c.loop-at.is_past
    c.loop-at.at c.in-Some-at.item c.requires.order c.requires.is_list c.loop-at.invariant c.if-is_past.true c.in-Some-at.is
    (sym (ap (λ f. item_number (fields_of f c.in-Some-at.item)) c.links-links.ensures.forest) ∙ c.has_number.ensures c.if-has_number.true)

-- what is known of an item that was gathered, with the names that its facts have
gathered : (c : After-next-at) → IsGathering c.args.draft.now c.args.list c.args.window c.in-Some.number (c.loop-at.keys.items ++ c.in-Some-at.item ∷ [])
    c.in-Some-counted_on.next (c.loop-at.is_past || is_end c.args.window c.in-Some-at.item) (next_of c.args.draft.now.forest c.in-Some-at.item)
gathered c =
    gathers_one c.args.draft.now c.args.list c.args.window c.in-Some.number c.loop-at.keys.items c.loop-at.due c.in-Some-counted_on.next c.loop-at.is_past
    c.loop-at.at c.in-Some-at.item c.requires.order c.loop-at.invariant c.in-Some-at.is
    (c.in-Some-counted_on.ensures ∙ ap (λ t. cond t c.loop-at.due (c.loop-at.due + 1))
    (c.is_nesting.ensures ∙ ap (λ f. is_nesting f c.in-Some-at.item) c.links-links.ensures.forest))

pub loop-at-preserved : goal.loop-at-preserved
loop-at-preserved c =
    gathering_as c.args.draft.now c.args.list c.args.window c.in-Some.number c.in-Some-counted_on.next c.in_ok-push.ensures.items c.passes_end-is_past.ensures
    (c.next-at.ensures.next ∙ ap (λ f. next_of f c.in-Some-at.item) c.links-links.ensures.forest)
    (gathered (goal.at.loop-at-preserved c).After-next-at)
