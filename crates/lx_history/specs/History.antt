-- The history machine: the states to go back to and forth to, the current one, and the last typing.
use Rattle.std.specs.Prelude.{ℕ, ◌+◌, ◌≤◌, ◌≡◌, ◌&&◌, Bool, not, nat_lt, is_some, if◌then◌else◌, take, length, List, [], ◌∷◌, Option, None, Some}
use Rattle.lx_marks.specs.Marks.{Marked}
use Rattle.lx_step.specs.declared.built_in.Turn.{Turn}
use Rattle.lx_step.specs.declared.built_in.Turn.TheVariants.{Undo, Redo}
use Rattle.lx_step.specs.declared.line.Tags.{Tags}
use Rattle.lx_draft.specs.declared.state.State.{State}
use Rattle.lx_history.specs.declared.kinds.Action.{Action}
use Rattle.lx_history.specs.declared.kinds.Action.TheVariants.{Push, Merge, Discard}
use Rattle.lx_history.specs.declared.kinds.Change.{Change}
use Rattle.lx_history.specs.declared.kinds.Change.TheVariants.{Other}
use Rattle.lx_history.specs.Changes.{typing_of, is_typing, is_touched_alone, selects_nothing, is_unmarked}

-- Entries to go back to and to go forth to, which are states, the newest first; the current state, if there is one; the
-- last kind of typing and its time; and the delay, within which typing goes on.
pub record History : Type 0 where
  pub delay : ℕ
  pub undo : List State
  pub redo : List State
  pub current : Option State
  pub last : Change
  pub moment : ℕ

-- a history without entries, with this delay
abbrev pub new_history : ℕ → History
new_history delay = record { delay = delay; undo = []; redo = []; current = None; last = Other; moment = 0 }

-- how many entries a history has at most
abbrev pub most_entries : ℕ
most_entries = 500

-- ---- what a commit does: the first that fits

-- What a commit does to the history, by its tags and by: there is a current entry; nothing is marked; nothing is
-- selected; the typing goes on in time; one text was marked and is as before.
abbrev pub chosen : Tags → Bool → Bool → Bool → Bool → Bool → Action
chosen tags has_current unmarked nothing goes_on touched =
    if tags.historic then Discard else
    (if tags.merge && not tags.push then Merge else
    (if not has_current then Push else
    (if unmarked then (if nothing then Discard else Merge) else
    (if not tags.push && goes_on then Merge else
    (if touched then Merge else Push)))))

-- what a commit of this kind of typing does to the history, by the states, the marks, the tags and the time
abbrev pub action_by : History → State → State → Marked → Tags → ℕ → Change → Action
action_by h before after marks tags moment change =
    chosen tags (is_some h.current) (is_unmarked marks) (selects_nothing after.selection) (is_typing change h.last && nat_lt moment (h.moment + h.delay))
    (is_touched_alone marks.leaves before.links after.links)

-- what a commit does to the history
unfoldable pub action_of : History → State → State → Marked → Tags → ℕ → Action
action_of h before after marks tags moment = action_by h before after marks tags moment (typing_of before after marks)

-- ---- recording

-- entries with one more in front, if there is one
abbrev pub entry_before : Option State → List State → List State
entry_before None entries = entries
entry_before (Some state) entries = state ∷ entries

-- The history with the new state after the current one, which is then the newest entry, and the oldest goes if there
-- are too many; with it in its place; or as before.
abbrev pub history_recorded : Action → State → History → History
history_recorded Push after h = record h { undo = take most_entries (entry_before h.current h.undo); redo = []; current = Some after }
history_recorded Merge after h = record h { current = Some after }
history_recorded Discard after h = h

-- the kind of typing that is kept: none of a historic commit
abbrev pub change_told : Tags → Change → Change
change_told tags change = if tags.historic then Other else change

-- the history after a commit
unfoldable pub noted : State → State → Marked → Tags → ℕ → History → History
noted before after marks tags moment h =
    record (history_recorded (action_of h before after marks tags moment) after h) { last = change_told tags (typing_of before after marks); moment = moment }

-- ---- going back and forth

-- what an undo makes of a history with these entries to go back to, if there are any
abbrev pub undone_to : ℕ → List State → History → Option History
undone_to moment [] h = None
undone_to moment (state ∷ entries) h =
    Some (record h { undo = entries; redo = entry_before h.current h.redo; current = Some state; last = Other; moment = moment })

-- the history after an undo
unfoldable pub undone : ℕ → History → Option History
undone moment h = undone_to moment h.undo h

-- what a redo makes of a history with these entries to go forth to, if there are any
abbrev pub redone_to : ℕ → List State → History → Option History
redone_to moment [] h = None
redone_to moment (state ∷ entries) h =
    Some (record h { undo = entry_before h.current h.undo; redo = entries; current = Some state; last = Other; moment = moment })

-- the history after a redo
unfoldable pub redone : ℕ → History → Option History
redone moment h = redone_to moment h.redo h

-- the first of some states, if there is one
abbrev pub first : List State → Option State
first [] = None
first (state ∷ entries) = Some state

-- the entry to which the history goes next, if there is one
abbrev pub next_entry : Turn → History → Option State
next_entry Undo h = first h.undo
next_entry Redo h = first h.redo

-- the history after an undo or a redo
abbrev pub history_turned : Turn → ℕ → History → Option History
history_turned Undo moment h = undone moment h
history_turned Redo moment h = redone moment h

-- ---- forgetting

-- a history that has forgotten its entries
abbrev pub cleared : History → History
cleared h = record h { undo = []; redo = []; current = None; last = Other }

-- ---- what holds of every history

-- there are no more entries than may be, and none where nothing is current
pub record IsHistory (h : History) : Type 0 where
  pub few : length h.undo + length h.redo ≤ most_entries
  pub none : h.current ≡ None → (h.undo ≡ []) × (h.redo ≡ [])
