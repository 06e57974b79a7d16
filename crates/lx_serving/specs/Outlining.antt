-- An outline beside an editor: what is seen of it, and the replies to lines about it, as serde_json writes them.
use Rattle.std.specs.Prelude.{◌≡◌, ◌≤◌, ℕ, List, [], ◌∷◌, codes, map, Option, None, Some}
use Rattle.serde_json.specs.Data.{Data, string, object, no_members, member}
use Rattle.serde_json.specs.Written.{compact_text}
use Rattle.lx_node.specs.Limits.{most_nodes, most_characters}
use Rattle.lx_trees.specs.NamedTrees.{total}
use Rattle.lx_forest.specs.Forest.{Forest}
use Rattle.lx_forest.specs.Lookups.{roots, preorder, IsForest}
use Rattle.lx_forest.specs.Weights.{weight}
use Rattle.lx_fields.specs.Parts.{natural, text_data}
use Rattle.lx_script.specs.Replies.{list_data}
use Rattle.lx_outline.specs.Outline.{OutlineView, new_outline, characters_in, entries_among}
use Rattle.lx_outline.specs.declared.event.Event.{Event}
use Rattle.lx_outline.specs.declared.event.Event.TheVariants.{Destroyed, Created, Updated}
use Rattle.lx_outline.specs.declared.headings.Entry.{Entry}
use Rattle.lx_serving.specs.Asked.{about_outline}
use Rattle.lx_serving.specs.Replies.{refused_text, single}
use Rattle.lx_serving.specs.declared.asking.AboutOutline.{AboutOutline}
use Rattle.lx_serving.specs.declared.asking.AboutOutline.TheVariants.{Headings, LastEvents}

-- an outline, and the events of the last commit
pub record OutlinedView : Type 0 where
  pub outline : OutlineView
  pub events : List Event

-- the outline of a new editor, which has committed nothing
abbrev pub new_outlined : OutlinedView
new_outlined = record { outline = new_outline; events = [] }

-- One tree, within the limits of a commit on nodes and on the characters of texts and tabs.
pub record IsWithin (f : Forest) : Type 0 where
  pub in_order : IsForest f
  pub alone : roots f ≡ 0 ∷ []
  pub few : total f ≤ most_nodes
  pub short : weight characters_in f ≤ most_characters

-- ---- replies

-- a heading as JSON: [key,level,text]
abbrev pub entry_data : Entry → Data
entry_data e = list_data (natural e.key ∷ natural e.level ∷ text_data e.text ∷ [])

-- the reply that shows the outline: {"outline":{"characters":C,"entries":[..],"nodes":N}}, with the headings in
-- document order
abbrev pub outline_data : Forest → Data
outline_data f = single (codes "outline")
    (object (member (codes "characters") (natural (weight characters_in f))
    (member (codes "entries") (list_data (map entry_data (entries_among f (preorder f))))
    (member (codes "nodes") (natural (total f)) no_members))))

-- an event as JSON: ["destroyed",key], ["created",key] or ["updated",key]
abbrev pub event_data : Event → Data
event_data (Destroyed k) = list_data (string (codes "destroyed") ∷ natural k ∷ [])
event_data (Created k) = list_data (string (codes "created") ∷ natural k ∷ [])
event_data (Updated k) = list_data (string (codes "updated") ∷ natural k ∷ [])

-- the reply that lists events: {"events":[..]}
abbrev pub events_data : List Event → Data
events_data events = single (codes "events") (list_data (map event_data events))

-- the reply about the tree that is committed, or the events of the last commit, as JSON
abbrev pub about_data : AboutOutline → Forest → List Event → Data
about_data Headings f events = outline_data f
about_data LastEvents f events = events_data events

-- the reply to what is asked about the outline, or the refusal where nothing is
abbrev pub outline_text_by : Option AboutOutline → Forest → List Event → List ℕ
outline_text_by None f events = refused_text
outline_text_by (Some about) f events = compact_text (about_data about f events)

-- The reply to a line about the outline with this value. It goes by the tree that is committed alone, and by the events of the
-- last commit.
abbrev pub outline_text : Data → Forest → List Event → List ℕ
outline_text asked f events = outline_text_by (about_outline asked) f events
