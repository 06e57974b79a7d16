-- How an editor may answer lines, and how the bytes of replies follow from them.
use Rattle.std.specs.Prelude.{◌≡◌, ◌⊎◌, ℕ, nat_lt, List, [], ◌∷◌, ◌++◌, length, if◌then◌else◌, Bool, true, false, Option, None, Some, option_map, Result, Ok, Err}
use Rattle.serde_json.specs.View.{view}
use Rattle.lx_node.specs.declared.cause.Cause.{Cause}
use Rattle.lx_host.specs.Html.{html_of}
use Rattle.lx_forest.specs.Forest.{Forest}
use Rattle.lx_render.specs.Render.{render}
use Rattle.lx_step.specs.declared.command.Command.{Command}
use Rattle.lx_step.specs.declared.line.Line.{Line}
use Rattle.lx_step.specs.declared.line.Form.{Form}
use Rattle.lx_step.specs.declared.line.Form.TheVariants.{Update, Defer, Flush, Dispatch, Rule, Listener, Load, Show, Clear}
use Rattle.lx_step.specs.declared.line.Shown.{Shown}
use Rattle.lx_step.specs.declared.line.Shown.TheVariants.{State, View, Selection, History, Slice}
use Rattle.lx_step.specs.declared.line.Tags.{Tags}
use Rattle.lx_step.specs.declared.listener.Listener.{Listener as ListenerOf}
use Rattle.lx_step.specs.Spelled.{steps_of}
use Rattle.lx_rules.specs.declared.any_rule.AnyRule.{AnyRule}
use Rattle.lx_script.specs.declared.reply.Reply.{Reply}
use Rattle.lx_script.specs.declared.reply.Reply.TheVariants as reply
use Rattle.lx_script.specs.Grammar.{Reads}
use Rattle.lx_script.specs.Replies.{reply_text, slice_text, state_text}
use Rattle.lx_json.specs.Exporting.{exported}
use Rattle.lx_clip.specs.Slices.{sliced, slice_data}
use Rattle.lx_editor.specs.declared.recording.Recording.{Recording}
use Rattle.lx_editor.specs.declared.outcome.Outcome.{Outcome}
use Rattle.lx_editor.specs.declared.outcome.Outcome.TheVariants.{Committed, Gathered, Refused, Idle}
use Rattle.lx_editor.specs.Dispatched.{IsDispatched, IsListening}
use Rattle.lx_editor.specs.Editor.{Editor}
use Rattle.lx_editor.specs.Gathering.{recording, IsDeferred}
use Rattle.lx_editor.specs.Loaded.{IsLoaded}
use Rattle.lx_editor.specs.Registered.{most_rules, IsRegistered}
use Rattle.lx_editor.specs.Turned.{with_nothing_recorded}
use Rattle.lx_editor.specs.Updated.{IsUpdatedBy, IsFlushed}

-- the HTML of a tree's rendering, where it is asked for
abbrev pub html_told : Bool → Forest → Option (List ℕ)
html_told is_told f = if is_told then Some (html_of (render f)) else None

-- the HTML of the tree's rendering, where the editor's replies to commits include the view
abbrev pub view_told : Editor → Option (List ℕ)
view_told editor = html_told editor.tells_view editor.tree

-- the reply that gives an outcome, of a dispatch whether it was handled, and of a commit the view where that is asked
-- for
abbrev pub reply_of : Option Bool → Option (List ℕ) → Outcome → Reply
reply_of handled html (Committed commit ops) = reply.Committed commit ops handled html
reply_of handled html (Refused cause step) = reply.Refused cause step
reply_of handled html Idle = reply.Idle handled
reply_of handled html (Gathered count) = reply.Gathered count

-- the reply that gives a listener's number, or why there is none
abbrev pub number_reply : Result ℕ Cause → Reply
number_reply (Ok number) = reply.Registered number
number_reply (Err cause) = reply.Refused cause None

-- The bytes of the reply that shows what is committed: the document, the view as the HTML of the tree's rendering, which it
-- shows, or the selection; how many entries the history has; or the slice of what is selected, if there is one.
abbrev pub shown_text : Shown → Editor → List ℕ
shown_text State editor = state_text (exported editor.tree)
shown_text View editor = reply_text (reply.View (html_of (render editor.tree)))
shown_text Selection editor = reply_text (reply.Selection editor.selection)
shown_text History editor = reply_text (reply.History (length editor.history.redo) (length editor.history.undo))
shown_text Slice editor = slice_text (option_map slice_data (sliced editor.tree editor.selection))

-- These bytes are the reply that gives an outcome which such a request has, and the editor that it leaves is this.
abbrev pub IsReplyOf : (Outcome → Editor → Type 0) → List ℕ → Editor → Type 0
IsReplyOf Has bytes new = (outcome : Outcome) × Has outcome new × (bytes ≡ reply_text (reply_of None (view_told new) outcome))

-- The editor may answer a dispatch with these bytes, and be the new one after.
abbrev pub IsReplyOfDispatch : Editor → Command → Recording → List ℕ → Editor → Type 0
IsReplyOfDispatch old command how bytes new =
    (outcome : Outcome) × (handled : Bool) × IsDispatched old command how outcome handled new
    × (bytes ≡ reply_text (reply_of (Some handled) (view_told new) outcome))

-- The editor may answer a listener with these bytes, and be the new one after.
abbrev pub IsReplyOfListener : Editor → ListenerOf → List ℕ → Editor → Type 0
IsReplyOfListener old listener bytes new =
    (answer : Result ℕ Cause) × IsListening old listener answer new × (bytes ≡ reply_text (number_reply answer))

-- The editor may answer a line of this form and with these tags, at its time, with these bytes, and be the new one
-- after. A question changes nothing.
unfoldable pub RepliesTo : Editor → Tags → Form → List ℕ → Editor → Type 0
RepliesTo old tags (Update script) bytes new = IsReplyOf (IsUpdatedBy old (steps_of script) (recording tags old.moment)) bytes new
RepliesTo old tags (Defer script) bytes new = IsReplyOf (IsDeferred old (steps_of script) tags) bytes new
RepliesTo old tags Flush bytes new = IsReplyOf (IsFlushed old (recording tags old.moment)) bytes new
RepliesTo old tags (Dispatch command) bytes new = IsReplyOfDispatch old command (recording tags old.moment) bytes new
RepliesTo old tags (Rule rule) bytes new = IsReplyOf (IsRegistered old rule old.moment) bytes new
RepliesTo old tags (Listener listener) bytes new = IsReplyOfListener old listener bytes new
RepliesTo old tags (Load document) bytes new = IsReplyOf (IsLoaded old (view document) (recording tags old.moment)) bytes new
RepliesTo old tags (Show shown) bytes new = (bytes ≡ shown_text shown old) × (new ≡ old)
RepliesTo old tags Clear bytes new = (bytes ≡ reply_text reply.Cleared) × (new ≡ with_nothing_recorded old)

-- the editor at the time that a line carries, or else at that of the line before
abbrev pub at_moment : Option ℕ → Editor → Editor
at_moment None e = e
at_moment (Some moment) e = record e { moment = moment }

-- The editor may answer this line with these bytes, and be the new one after.
abbrev pub RepliesToLine : Editor → Line → List ℕ → Editor → Type 0
RepliesToLine old line bytes new = RepliesTo (at_moment line.at old) line.tags line.form bytes new

-- The editor may answer what was read with these bytes, and be the new one after. A line that is refused changes nothing that is
-- committed: only the time, and what is pending where it ran on that. One that isn't read changes nothing at all.
abbrev pub Replies : Editor → Result Line Cause → List ℕ → Editor → Type 0
Replies old (Ok line) bytes new = RepliesToLine old line bytes new
Replies old (Err cause) bytes new = (bytes ≡ reply_text (reply.Refused cause None)) × (new ≡ old)

-- The editor may answer the line with these bytes, and be the new one after.
unfoldable pub AnswersLine : Editor → List ℕ → List ℕ → Editor → Type 0
AnswersLine old line bytes new = (read : Result Line Cause) × Reads line read × Replies old read bytes new

-- These bytes are answers to the lines, each with a line end, one after another.
abbrev pub FollowsTo : Editor → List (List ℕ) → List ℕ → Editor → Type 0
FollowsTo old [] bytes new = (bytes ≡ []) × (new ≡ old)
FollowsTo old (line ∷ lines) bytes new =
    (answer rest : List ℕ) × (mid : Editor) × AnswersLine old line answer mid
    × (bytes ≡ answer ++ 10 ∷ rest) × FollowsTo mid lines rest new

-- the bytes answer the lines, whatever editor is left
abbrev pub Follows : Editor → List (List ℕ) → List ℕ → Type 0
Follows old lines bytes = (new : Editor) × FollowsTo old lines bytes new

-- ---- out of memory

-- Whether a line of this form runs on what is pending beside these rules: an update, also one that waits, a flush, a
-- dispatch, and a rule that isn't one too many.
abbrev pub runs_on_pending : List AnyRule → Form → Bool
runs_on_pending rules (Update script) = true
runs_on_pending rules (Defer script) = true
runs_on_pending rules Flush = true
runs_on_pending rules (Dispatch command) = true
runs_on_pending rules (Rule rule) = nat_lt (length rules) most_rules
runs_on_pending rules other = false

-- The editor that a line of this form leaves where memory runs out: nothing is pending where the line runs on that, and
-- all else is as it was.
abbrev pub without_memory : Form → Editor → Editor
without_memory form e = record e { pending = if runs_on_pending e.rules form then None else e.pending }

-- What bytes leave of an editor where memory runs out: all is as it was, if that was while they were read or refused; or
-- they ask for a line, and it is what that line leaves.
unfoldable pub IsLeftWithout : Editor → List ℕ → Editor → Type 0
IsLeftWithout old bytes new = (new ≡ old) ⊎ ((line : Line) × Reads bytes (Ok line) × (new ≡ without_memory line.form old))
