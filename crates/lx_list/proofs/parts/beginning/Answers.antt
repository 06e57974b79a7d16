use Rattle.std.proofs.Common.{◌≡◌, ◌∙◌, ℕ, true, Some, sym, ap, subst}
use Rattle.lx_forest.specs.Lookups.{fields_of, first_child, previous_of}
use Rattle.lx_list.specs.Numbering.{list_start}
use Rattle.lx_list.specs.Numbered.{item_number}
use Rattle.lx_list.specs.Parts.{IsBehind, IsBeginning}
use Rattle.lx_list.proofs.Runs.{begins_first, begins_within}
use Rattle.lx_list.proofs.parts.beginning.Goals as goal
use Rattle.lx_list.proofs.parts.beginning.Goals.{After-first-first, After-number_after}

-- the first item of all
first : (c : After-first-first) → IsBeginning c.args.draft.now c.args.list c.args.window c.first-first.result c.start_of-start.result
first c =
    begins_first c.args.draft.now c.args.list c.args.window c.first-first.result c.start_of-start.result c.requires.order c.requires.some c.requires.none
    (c.first-first.ensures.first ∙ ap (λ f. first_child f c.args.list) c.links-links.ensures.forest)
    (c.start_of-start.ensures.start ∙ ap (λ f. list_start (fields_of f c.args.list)) c.links-links.ensures.forest)

pub returns-in_default-previous : goal.returns-in_default-previous
returns-in_default-previous c = first (goal.at.returns-in_default-previous c).After-first-first

pub returns-then-not-starts_with : goal.returns-then-not-starts_with
returns-then-not-starts_with c = first (goal.at.returns-then-not-starts_with c).After-first-first

-- the first item of the window, where the list begins with its start
within : (c : After-number_after) (before number : ℕ) → c.previous.result ≡ Some before → c.starts_with.result ≡ true
    → IsBehind c.links-links.result.now before number → IsBeginning c.args.draft.now c.args.list c.args.window (Some c.in-Some.front) number
within c before number previous starts behind =
    begins_within c.args.draft.now c.requires.since c.args.list c.args.window c.in-Some.front before number c.requires.order
    c.requires.is_list c.requires.some (sym c.first_in.ensures ∙ c.in-Some.is)
    (sym (ap (λ f. previous_of f c.in-Some.front) c.links-links.ensures.forest) ∙ sym c.previous.ensures.previous ∙ previous)
    (λ q e. sym (ap (λ f. item_number (fields_of f q)) c.links-links.ensures.forest)
    ∙ c.starts_with.ensures starts q (ap (λ f. first_child f c.args.list) c.links-links.ensures.forest ∙ e)
    ∙ ap Some (c.start_of-start.ensures.start ∙ ap (λ f. list_start (fields_of f c.args.list)) c.links-links.ensures.forest))
    (subst (λ f. IsBehind f before number) c.links-links.ensures.forest behind)

pub returns-in-Some-number_after : goal.returns-in-Some-number_after
returns-in-Some-number_after c =
    within (goal.at.returns-in-Some-number_after c).After-number_after c.in-Some-previous.before c.in-Some-number_after.number c.in-Some-previous.is
    c.if-not-starts_with.false c.in-Some-number_after.ensures
