-- How a hub, or an outline, follows an editor. Only this crate's own contracts cite it.
use Rattle.std.specs.Prelude.{◌≡◌, ◌≢◌, ℕ, ◌+◌, List, codes, Option, None, Some}
use Rattle.serde_json.specs.Data.{Data}
use Rattle.lx_node.specs.declared.cause.Fault.{Fault}
use Rattle.lx_node.specs.declared.cause.Fault.TheVariants.{Cause, Memory}
use Rattle.lx_host.specs.Hosts.{Leads}
use Rattle.lx_reconcile.specs.Told.{Told}
use Rattle.lx_script.specs.declared.reply.Reply.TheVariants.{Refused}
use Rattle.lx_script.specs.Grammar.{IsJson}
use Rattle.lx_script.specs.Replies.{reply_text}
use Rattle.lx_hub.specs.Hub.{Hub}
use Rattle.lx_editor.specs.Editor.{Editor}
use Rattle.lx_editor.specs.Follows.{AnswersLine}
use Rattle.lx_serving.specs.Asked.{sole_member}
use Rattle.lx_serving.specs.Replies.{views_text, hub_after_line}
use Rattle.lx_serving.specs.Outlining.{OutlinedView, outline_text}
use Rattle.lx_serving.specs.Served.{AreLevel, IsFollowedBy, IsNotedBy}

-- a reply to what is refused for a fault, and for no step: none is where memory ran out
abbrev pub IsReplyToFault : Fault → List ℕ → Type 0
IsReplyToFault (Cause cause) text = text ≡ reply_text (Refused cause None)
IsReplyToFault Memory text = ⊥

-- The editor has one commit more than the hub has batches, and its last operations lead from the hub's tip to its view.
pub record IsAhead (e : Editor) (h : Hub) : Type 0 where
  pub told : Told
  pub last : e.last ≡ Some told
  pub number : e.commits ≡ h.commits + 1
  pub leads : Leads h.tip told.ops e.view

-- a hub is level with an editor that has as many commits as before, and else one commit behind it
pub record MayFollow (before : ℕ) (e : Editor) (h : Hub) : Type 0 where
  pub level : e.commits ≡ before → AreLevel e h
  pub ahead : e.commits ≢ before → IsAhead e h

-- what the two may answer to a value, by that of its only member where it has the hub's name
abbrev pub AnswersMember : Option Data → Data → Editor → Hub → List ℕ → Editor → Hub → Type 0
AnswersMember (Some asked) value old h bytes new g = (bytes ≡ views_text asked h) × (new ≡ old) × (g ≡ hub_after_line asked h)
AnswersMember None value old h bytes new g = ((line : List ℕ) → IsJson line value → AnswersLine old line bytes new) × IsFollowedBy old new h g

-- what an editor and a hub may answer to a value
abbrev pub AnswersValue : Data → Editor → Hub → List ℕ → Editor → Hub → Type 0
AnswersValue value old h bytes new g = AnswersMember (sole_member (codes "hub") value) value old h bytes new g

-- ---- an outline beside an editor

-- what the two may answer to a value, by that of its only member where it has the outline's name
abbrev pub NotesMember : Option Data → Data → Editor → OutlinedView → List ℕ → Editor → OutlinedView → Type 0
NotesMember (Some asked) value old o bytes new p = (bytes ≡ outline_text asked old.tree o.events) × (new ≡ old) × (p ≡ o)
NotesMember None value old o bytes new p = ((line : List ℕ) → IsJson line value → AnswersLine old line bytes new) × IsNotedBy old new o p

-- what an editor and an outline may answer to a value
abbrev pub NotesValue : Data → Editor → OutlinedView → List ℕ → Editor → OutlinedView → Type 0
NotesValue value old o bytes new p = NotesMember (sole_member (codes "ask") value) value old o bytes new p
