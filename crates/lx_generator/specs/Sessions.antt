-- A session that is generated from a number: its lines, what they lead to, and its summary.
use Rattle.std.specs.Prelude.{◌≡◌, ℕ, zero, suc, ◌+◌, ◌-◌, ◌*◌, ◌/◌, ◌%◌, ◌==◌, if◌then◌else◌, Bool, false, List, [], ◌∷◌, length, codes, encode_utf8_all, None}
use Rattle.lx_trees.specs.NamedTrees.{total}
use Rattle.lx_node.specs.declared.cause.PointKind.TheVariants.{Element}
use Rattle.lx_host.specs.Html.{html_of}
use Rattle.lx_render.specs.Render.{render}
use Rattle.lx_draft.specs.Freezing.{tree_characters}
use Rattle.lx_step.specs.Lines.{untagged}
use Rattle.lx_step.specs.declared.command.Command.{Command}
use Rattle.lx_step.specs.declared.command.Payload.{Payload}
use Rattle.lx_step.specs.declared.command.Payload.TheVariants.{Nothing, Text}
use Rattle.lx_step.specs.declared.reference.PointRef.{PointRef}
use Rattle.lx_step.specs.declared.reference.Reference.TheVariants.{Key}
use Rattle.lx_step.specs.declared.reference.SelectionRef.TheVariants.{Range}
use Rattle.lx_step.specs.declared.step.Step.{Step}
use Rattle.lx_step.specs.declared.step.Step.TheVariants.{Append, Select}
use Rattle.lx_editor.specs.declared.outcome.Outcome.{Outcome}
use Rattle.lx_editor.specs.declared.outcome.Outcome.TheVariants.{Committed, Gathered, Refused, Idle}
use Rattle.lx_editor.specs.Dispatched.{IsDispatched}
use Rattle.lx_editor.specs.Editor.{Editor, new_editor}
use Rattle.lx_editor.specs.Gathering.{recording}
use Rattle.lx_editor.specs.Updated.{IsUpdatedBy}
use Rattle.lx_arguments.specs.declared.options.Generated.{Generated}
use Rattle.lx_generator.specs.declared.summary.Summary.{Summary}
use Rattle.lx_generator.specs.declared.tally.Tally.{Tally}
use Rattle.lx_generator.specs.Summaries.{summary_text}

-- ---- the lines

-- the start of the first paragraph
abbrev pub caret_place : PointRef
caret_place = record { node = Key 1; offset = 0; kind = Element }

-- the steps of the first line: an empty paragraph, and the caret in it
abbrev pub first_steps : List Step
first_steps = Append [] ∷ Select (Range caret_place caret_place None) ∷ []

-- the number of the next line
unfoldable pub next_number : ℕ → ℕ
next_number x = (1664525 * x + 1013904223) % 4294967296

-- the command of this name, to which that is sent
abbrev pub named_command : List ℕ → Payload → Command
named_command name sent = record { name = name; payload = sent }

-- the letter of `a` to `z` with this number, from 0, as a text
abbrev pub letter : ℕ → List ℕ
letter n = (97 + n) ∷ []

-- the command that the upper half of a line's number gives
abbrev pub command_by : ℕ → Command
command_by half =
    if half % 8 == 0 then named_command (codes "insert-paragraph") Nothing else
    if half % 8 == 1 then named_command (codes "format-text") (Text (codes "bold")) else
    if half % 8 == 2 then named_command (codes "delete-character") (Text (codes "back")) else
    if half % 8 == 3 then named_command (codes "undo") Nothing else
    named_command (codes "insert-text") (Text (letter ((half / 8) % 26)))

-- the command of a line, by its number
unfoldable pub command_drawn : ℕ → Command
command_drawn x = command_by (x / 65536)

-- the commands of so many lines that follow the line with this number
abbrev pub commands_behind : ℕ → ℕ → List Command
commands_behind zero x = []
commands_behind (suc more) x = command_drawn (next_number x) ∷ commands_behind more (next_number x)

-- ---- the session

-- no line was counted
abbrev pub no_tally : Tally
no_tally = record { commits = 0; idle = 0; refused = 0 }

-- the tally with one line more, which isn't counted where it is gathered: no line of a session is
abbrev pub counted : Outcome → Tally → Tally
counted (Committed commit ops) t = record t { commits = t.commits + 1 }
counted (Refused cause step) t = record t { refused = t.refused + 1 }
counted Idle t = record t { idle = t.idle + 1 }
counted (Gathered count) t = t

-- The commands lead the editor and the tally there: each is dispatched without tags and at time 0.
abbrev pub LeadTo : List Command → Editor → Tally → Editor → Tally → Type 0
LeadTo [] old t new u = (new ≡ old) × (u ≡ t)
LeadTo (command ∷ commands) old t new u =
    (outcome : Outcome) × (handled : Bool) × (mid : Editor)
    × IsDispatched old command (recording untagged 0) outcome handled mid
    × LeadTo commands mid (counted outcome t) new u

-- The session runs from this editor: its first line is an update, which has the number that follows the seed, and the
-- others dispatch their commands.
pub record IsSession (session : Generated) (old last : Editor) (tally : Tally) : Type 0 where
  pub outcome : Outcome
  pub first : Editor
  pub begins : IsUpdatedBy old first_steps (recording untagged 0) outcome first
  pub goes_on : LeadTo (commands_behind (session.lines - 1) (next_number session.seed)) first (counted outcome no_tally) last tally

-- ---- its summary

-- the bytes of the view, as HTML
abbrev pub view_text : Editor → List ℕ
view_text e = encode_utf8_all (html_of (render e.tree))

-- the summary of a session of so many lines that ended with this editor and this tally
abbrev pub summary_of : ℕ → Editor → Tally → Summary
summary_of lines e t = record {
  characters = tree_characters e.tree;
  commits = t.commits;
  idle = t.idle;
  lines = lines;
  nodes = total e.tree;
  redo = length e.history.redo;
  refused = t.refused;
  undo = length e.history.undo;
  view = length (view_text e);
}

-- the bytes that a session on a new editor with this delay may be summed up in
unfoldable pub IsSummary : Generated → ℕ → List ℕ → Type 0
IsSummary session delay bytes = (last : Editor) × (tally : Tally) × IsSession session (new_editor false delay) last tally
    × (bytes ≡ summary_text (summary_of session.lines last tally))
