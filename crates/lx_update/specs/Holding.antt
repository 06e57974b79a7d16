-- Whether the conditions hold under which a listener runs its steps.
use Rattle.std.specs.Prelude.{ℕ, List, codes, chars, ◌&&◌, Bool, true, false, Option, None, Some, option_and_then}
use Rattle.lx_node.specs.Same.{same_text}
use Rattle.lx_node.specs.Kinds.{type_name}
use Rattle.lx_node.specs.declared.kind.Kind.{Kind}
use Rattle.lx_select.specs.declared.selection.Selection.{Selection}
use Rattle.lx_select.specs.declared.selection.Selection.TheVariants as selection
use Rattle.lx_forest.specs.Lookups.{kind_of}
use Rattle.lx_step.specs.declared.command.Payload.{Payload}
use Rattle.lx_step.specs.declared.command.Payload.TheVariants as payload
use Rattle.lx_step.specs.declared.listener.When.{When}
use Rattle.lx_draft.specs.Working.{Working}
use Rattle.lx_update.specs.Scripts.{anchor_of, block_around}

-- whether the payload is this text
abbrev pub is_payload_text : List ℕ → Payload → Bool
is_payload_text text (payload.Text other) = same_text text other
is_payload_text text other = false

-- the word for the kind of a selection
abbrev pub selection_word : Selection → List ℕ
selection_word selection.Nothing = codes "none"
selection_word (selection.Range anchor focus format) = codes "range"
selection_word (selection.Nodes keys) = codes "nodes"
selection_word (selection.Cells table anchor focus) = codes "cells"

-- whether there is a kind, and its type is this text
abbrev pub is_type : List ℕ → Option Kind → Bool
is_type text None = false
is_type text (Some kind) = same_text text (chars (type_name kind))

-- the kind of the text block in which the anchor lies
abbrev pub block_kind : Working → Option Kind
block_kind w = option_and_then (kind_of w.forest) (block_around w.forest (anchor_of w.selection))

-- whether a condition holds, if it is given: one that isn't given asks nothing
abbrev pub if_told : (List ℕ → Bool) → Option (List ℕ) → Bool
if_told test None = true
if_told test (Some text) = test text

-- whether each condition of a listener that is given holds
unfoldable pub conditions_hold : When → Payload → Working → Bool
conditions_hold when sent w =
    if_told (λ text. is_payload_text text sent) when.payload
    && if_told (λ text. same_text text (chars (selection_word w.selection))) when.selection
    && if_told (λ text. is_type text (block_kind w)) when.block
