-- Updates that wait for a line which commits them, and what such a line begins with.
use Rattle.std.specs.Prelude.{◌≡◌, ◌≤◌, ℕ, ◌+◌, ◌==◌, Bool, not, List, Option, None, Some, option_map, unwrap_or, Result, Ok, Err}
use Rattle.std.specs.Global.{Box}
use Rattle.lx_step.specs.declared.line.Tags.{Tags}
use Rattle.lx_step.specs.declared.step.Step.{Step}
use Rattle.lx_step.specs.Lines.{untagged, both_tags}
use Rattle.lx_draft.specs.Covering as drafts
use Rattle.lx_draft.specs.Working.{Working, started}
use Rattle.lx_update.specs.Lines.{deferred_run, left_draft}
use Rattle.lx_update.specs.Refusals.{Refused as RefusedAt}
use Rattle.lx_editor.specs.declared.outcome.Outcome.{Outcome}
use Rattle.lx_editor.specs.declared.outcome.Outcome.TheVariants.{Gathered, Refused}
use Rattle.lx_editor.specs.declared.pending.Pending.{Pending}
use Rattle.lx_editor.specs.declared.recording.Recording.{Recording}
use Rattle.lx_editor.specs.Editor.{Editor}

-- ---- what a line begins with

-- what is pending lies in a box
abbrev pub unboxed : Option (Box Pending) → Option Pending
unboxed p = option_map (λ (b : Box Pending). b.value) p

-- a draft of what is committed
abbrev pub started_of : Editor → Working
started_of e = started e.tree e.selection e.next_key

-- so many lines that left this draft, with what their tags say together
abbrev pub pending_with : Working → ℕ → Tags → Pending
pending_with draft lines tags = record { draft = draft; lines = lines; tags = tags }

-- what is pending, or else no line, and a draft of what is committed
abbrev pub pending_of : Editor → Pending
pending_of e = unwrap_or e.pending (pending_with (started_of e) 0 untagged)

-- the draft that a line begins with
abbrev pub begun : Editor → Working
begun e = (pending_of e).draft

-- whether lines are gathered
abbrev pub is_gathering : Editor → Bool
is_gathering e = not ((pending_of e).lines == 0)

-- the editor with nothing pending
abbrev pub with_nothing_pending : Editor → Editor
with_nothing_pending e = record e { pending = None }

-- how a commit is recorded: by its tags, and at its time
abbrev pub recording : Tags → ℕ → Recording
recording tags moment = record { tags = tags; moment = moment }

-- A commit that takes in lines which are gathered is recorded by the tags of all of them, and at the time of the last.
abbrev pub recording_all : Editor → Recording → Recording
recording_all e how = recording (both_tags (pending_of e).tags how.tags) how.moment

-- What is pending goes on from such a draft: the marks of its own draft show all that the lines have changed, and each
-- line has taken a count.
pub record IsPending (start : Working) (p : Pending) : Type 0 where
  pub covered : drafts.AreCovered start p.draft
  pub counted : p.lines ≤ p.draft.counted

-- ---- an update that waits

-- what is pending with one line more, which left this draft
abbrev pub with_line : Tags → Pending → Working → Pending
with_line tags p w = pending_with w (p.lines + 1) (both_tags p.tags tags)

-- the editor with that pending
abbrev pub with_pending : Editor → Pending → Editor
with_pending e p = record e { pending = Some p }

-- It is refused, and nothing is pending any more; or one line more is.
abbrev pub IsGatheredOf : Result Working RefusedAt → Editor → Tags → Outcome → Editor → Type 0
IsGatheredOf (Err refused) old tags outcome new = (outcome ≡ Refused refused.0 refused.1) × (new ≡ with_nothing_pending old)
IsGatheredOf (Ok w) old tags outcome new = (outcome ≡ Gathered ((pending_of old).lines + 1)) × (new ≡ with_pending old (with_line tags (pending_of old) w))

-- what steps that wait leave of what a line begins with
abbrev pub gathered_by : Editor → List Step → Result Working RefusedAt
gathered_by old steps = left_draft (deferred_run old.listeners steps (begun old))

-- the outcome that an update has which waits, and the editor that it leaves
unfoldable pub IsDeferred : Editor → List Step → Tags → Outcome → Editor → Type 0
IsDeferred old steps tags outcome new = IsGatheredOf (gathered_by old steps) old tags outcome new
