-- What registering a rule makes of an editor.
use Rattle.std.specs.Prelude.{ℕ, ◌+◌, true, false, nat_lt, ◌++◌, if◌then◌else◌, List, [], ◌∷◌, length, filter, Option, None, Result, Ok, Err}
use Rattle.lx_node.specs.declared.cause.Cause.{Cause}
use Rattle.lx_node.specs.declared.cause.Cause.TheVariants.{TooManyRules}
use Rattle.lx_step.specs.declared.line.Tags.{Tags}
use Rattle.lx_step.specs.declared.rule.Rule.{Rule}
use Rattle.lx_step.specs.declared.rule.TypeRow.{TypeRow}
use Rattle.lx_forest.specs.Forest.{Forest}
use Rattle.lx_forest.specs.Lookups.{preorder, kind_of}
use Rattle.lx_draft.specs.Working.{Working}
use Rattle.lx_draft.specs.Steps.{mark_uncounted_step}
use Rattle.lx_edit.specs.InTurn.{in_turn}
use Rattle.lx_rules.specs.Types.{is_of_row}
use Rattle.lx_rules.specs.declared.any_rule.AnyRule.{AnyRule}
use Rattle.lx_rules.specs.declared.any_rule.AnyRule.TheVariants.{Script}
use Rattle.lx_editor.specs.declared.outcome.Outcome.{Outcome}
use Rattle.lx_editor.specs.Editor.{standing_rules, Editor}
use Rattle.lx_editor.specs.Gathering.{begun, recording, recording_all}
use Rattle.lx_editor.specs.Updated.{Settled, rested_by, IsMadeOf}

-- the most rules that an editor has: 256 that were registered, and those that are built in
abbrev pub most_rules : ℕ
most_rules = 256 + length standing_rules

-- the keys of the nodes of a type in the root's tree, in preorder
abbrev pub of_type : TypeRow → Forest → List ℕ
of_type row f = filter (λ q. is_of_row row.0 (kind_of f q)) (preorder f)

-- the nodes of a type are marked, which takes no count
abbrev pub marked_for : TypeRow → Working → Result Working Cause
marked_for row w = in_turn mark_uncounted_step (of_type row w.forest) w

-- what is left for a commit where nodes were marked
abbrev pub left_with : List AnyRule → Result Working Cause → Result Settled (Cause × Option ℕ)
left_with rules (Ok w) = rested_by rules w
left_with rules (Err cause) = Err (cause, None)

-- what is left for a commit where the nodes of a type were marked
unfoldable pub left_for : List AnyRule → TypeRow → Working → Result Settled (Cause × Option ℕ)
left_for rules row w = left_with rules (marked_for row w)

-- the rules with one more after them
abbrev pub with_rule : List AnyRule → Rule → List AnyRule
with_rule rules rule = rules ++ Script rule ∷ []

-- the editor with one more rule
abbrev pub with_one_more : Rule → Editor → Editor
with_one_more rule e = record e { rules = with_rule e.rules rule }

-- What is left for a commit where a rule is registered: the nodes of its type are marked. The 257th is refused.
abbrev pub left_by_rule : Editor → Rule → Result Settled (Cause × Option ℕ)
left_by_rule old rule =
    if nat_lt (length old.rules) most_rules then left_for (with_rule old.rules rule) rule.on (begun old) else Err (TooManyRules, None)

-- the tags with which what a rule makes of the state goes into the history's current entry
abbrev pub merging : Tags
merging = record { historic = false; merge = true; push = false }

-- the editor after a registering took in what is pending, which the 257th doesn't
abbrev pub unless_full : Editor → Editor
unless_full old = record old { pending = if nat_lt (length old.rules) most_rules then None else old.pending }

-- the outcome that a registering at this time may have, and the editor that it may leave
unfoldable pub IsRegistered : Editor → Rule → ℕ → Outcome → Editor → Type 0
IsRegistered old rule moment outcome new =
    IsMadeOf (left_by_rule old rule) (unless_full old) (recording_all old (recording merging moment)) outcome new
