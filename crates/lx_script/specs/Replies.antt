-- The bytes of a reply: compact JSON, whose members are in byte order, as serde_json writes a value.
use Rattle.std.specs.Prelude.{ℕ, Bool, true, List, [], ◌∷◌, codes, map, Option, None, Some}
use Rattle.serde_json.specs.Data.{Data, null, boolean, string, array, object, Members, no_members, member, put}
use Rattle.serde_json.specs.View.{items_of}
use Rattle.serde_json.specs.Written.{compact_text}
use Rattle.lx_node.specs.Causes.{code_of}
use Rattle.lx_node.specs.Kinds.{type_name}
use Rattle.lx_node.specs.declared.cause.PointKind.{PointKind}
use Rattle.lx_node.specs.declared.cause.PointKind.TheVariants as point
use Rattle.lx_node.specs.declared.cause.Point.{Point}
use Rattle.lx_node.specs.declared.cause.SelectionKind.{SelectionKind}
use Rattle.lx_node.specs.declared.cause.SelectionKind.TheVariants.{Nothing, Range, Nodes, Cells}
use Rattle.lx_node.specs.declared.cause.Limit.{Limit}
use Rattle.lx_node.specs.declared.cause.Limit.TheVariants as limit
use Rattle.lx_node.specs.declared.cause.Named.{Named}
use Rattle.lx_node.specs.declared.cause.Named.TheVariants as named
use Rattle.lx_node.specs.declared.cause.Lost.{Lost}
use Rattle.lx_node.specs.declared.cause.Lost.TheVariants as lost
use Rattle.lx_node.specs.declared.cause.Cause.{Cause}
use Rattle.lx_node.specs.declared.cause.Cause.TheVariants.{BadLine, BadCommand, UnknownNode, WrongKind, BadPlace, NoSelection, SelectionLost, NoRest, StepLimit, DispatchDepth, TooLarge, UnknownType, BadState, EmptyState, HistoryInside, TooManyRules}
use Rattle.lx_host.specs.Words.{tag_word, name_word}
use Rattle.lx_host.specs.declared.tag.Name.{Name}
use Rattle.lx_host.specs.declared.op.Op.{Op}
use Rattle.lx_host.specs.declared.op.Op.TheVariants.{Create, Place, Drop, Text, Attr, Break}
use Rattle.lx_select.specs.declared.selection.Selection.{Selection}
use Rattle.lx_select.specs.declared.selection.Selection.TheVariants as selection
use Rattle.lx_fields.specs.Parts.{natural, text_data, or_null}
use Rattle.lx_script.specs.declared.reply.Reply.{Reply}
use Rattle.lx_script.specs.declared.reply.Reply.TheVariants.{Committed, Refused, Idle, Gathered, Registered, Cleared, View, Selection as Selected, History}

-- ---- parts of replies

-- a list as JSON
abbrev pub list_data : List Data → Data
list_data items = array (items_of items)

-- ---- operations

-- the members so far, with one for each attribute
abbrev pub attributes_onto : Members → List (Name × List ℕ) → Members
attributes_onto members [] = members
attributes_onto members (attribute ∷ attributes) =
    attributes_onto (put (name_word attribute.0) (text_data attribute.1) members) attributes

-- attributes as an object with one member for each
abbrev pub attributes_data : List (Name × List ℕ) → Data
attributes_data attributes = object (attributes_onto no_members attributes)

-- ["create",id,key,tag,attributes,text or null,ending], ["place",parent,child,before or null], ["drop",id],
-- ["text",id,text], ["attr",id,name,value or null] and ["break",id,ending]
unfoldable pub op_data : Op → Data
op_data (Create id key tag attributes text ending) =
    list_data (string (codes "create") ∷ natural id ∷ natural key ∷ string (tag_word tag) ∷ attributes_data attributes ∷ or_null text_data text ∷ boolean ending ∷ [])
op_data (Place parent child before) =
    list_data (string (codes "place") ∷ natural parent ∷ natural child ∷ or_null natural before ∷ [])
op_data (Drop id) = list_data (string (codes "drop") ∷ natural id ∷ [])
op_data (Text id text) = list_data (string (codes "text") ∷ natural id ∷ text_data text ∷ [])
op_data (Attr id name value) =
    list_data (string (codes "attr") ∷ natural id ∷ string (name_word name) ∷ or_null text_data value ∷ [])
op_data (Break id ending) = list_data (string (codes "break") ∷ natural id ∷ boolean ending ∷ [])

-- ---- causes

-- the name by which a refusal gives its cause
abbrev pub cause_name : Cause → List ℕ
cause_name BadLine = codes "BadLine"
cause_name BadCommand = codes "BadCommand"
cause_name (UnknownNode named) = codes "UnknownNode"
cause_name (WrongKind kind) = codes "WrongKind"
cause_name (BadPlace n) = codes "BadPlace"
cause_name (NoSelection kind) = codes "NoSelection"
cause_name (SelectionLost lost) = codes "SelectionLost"
cause_name NoRest = codes "NoRest"
cause_name StepLimit = codes "StepLimit"
cause_name DispatchDepth = codes "DispatchDepth"
cause_name (TooLarge limit reached) = codes "TooLarge"
cause_name (UnknownType type) = codes "UnknownType"
cause_name (BadState place) = codes "BadState"
cause_name EmptyState = codes "EmptyState"
cause_name HistoryInside = codes "HistoryInside"
cause_name TooManyRules = codes "TooManyRules"

-- the word for what a point's offset counts
abbrev pub point_kind_name : PointKind → List ℕ
point_kind_name point.Text = codes "text"
point_kind_name point.Element = codes "element"

-- a point as JSON: [key,offset,kind]
abbrev pub point_data : Point → Data
point_data p = list_data (natural p.key ∷ natural p.offset ∷ string (point_kind_name p.kind) ∷ [])

-- the word for a kind of selection, as a refusal gives it
abbrev pub selection_name : SelectionKind → List ℕ
selection_name Nothing = codes "none"
selection_name Range = codes "range"
selection_name Nodes = codes "nodes"
selection_name Cells = codes "cells"

-- the word for a limit
abbrev pub limit_name : Limit → List ℕ
limit_name limit.Depth = codes "depth"
limit_name limit.Nodes = codes "nodes"
limit_name limit.Characters = codes "characters"
limit_name limit.KeyCount = codes "key"
limit_name limit.Written = codes "written"
limit_name limit.Hosts = codes "hosts"

-- what is said to be unknown, as JSON: a key or a name
abbrev pub named_data : Named → Data
named_data (named.Key key) = natural key
named_data (named.Name name) = text_data name

-- what a selection has lost, as JSON: a point or a key
abbrev pub lost_data : Lost → Data
lost_data (lost.Point p) = point_data p
lost_data (lost.Key key) = natural key

-- a limit that was passed, as JSON: [limit,number reached]
abbrev pub reached_data : Limit → ℕ → Data
reached_data limit reached = list_data (string (limit_name limit) ∷ natural reached ∷ [])

-- what a cause says beside its name
abbrev pub detail_of : Cause → Data
detail_of BadLine = null
detail_of BadCommand = null
detail_of (UnknownNode named) = named_data named
detail_of (WrongKind kind) = string (type_name kind)
detail_of (BadPlace n) = natural n
detail_of (NoSelection kind) = string (selection_name kind)
detail_of (SelectionLost lost) = lost_data lost
detail_of NoRest = natural 101
detail_of StepLimit = natural 100001
detail_of DispatchDepth = natural 65
detail_of (TooLarge limit reached) = reached_data limit reached
detail_of (UnknownType type) = text_data type
detail_of (BadState place) = text_data place
detail_of EmptyState = null
detail_of HistoryInside = null
detail_of TooManyRules = natural 256

-- ---- selections

-- a range as JSON: {"anchor":[key,offset,kind],"focus":[key,offset,kind],"format":F,"kind":"range"}
abbrev pub range_data : Point → Point → ℕ → Data
range_data anchor focus format =
    object
    (member (codes "anchor") (point_data anchor)
    (member (codes "focus") (point_data focus)
    (member (codes "format") (natural format)
    (member (codes "kind") (string (codes "range")) no_members))))

-- selected nodes as JSON: {"keys":[..],"kind":"nodes"}
abbrev pub nodes_data : List ℕ → Data
nodes_data keys =
    object
    (member (codes "keys") (list_data (map natural keys))
    (member (codes "kind") (string (codes "nodes")) no_members))

-- selected cells as JSON: {"anchor":KEY,"focus":KEY,"kind":"cells","table":KEY}
abbrev pub cells_data : ℕ → ℕ → ℕ → Data
cells_data table anchor focus =
    object
    (member (codes "anchor") (natural anchor)
    (member (codes "focus") (natural focus)
    (member (codes "kind") (string (codes "cells"))
    (member (codes "table") (natural table) no_members))))

-- a selection as JSON: null where nothing is selected
abbrev pub selection_data : Selection → Data
selection_data selection.Nothing = null
selection_data (selection.Range anchor focus format) = range_data anchor focus format
selection_data (selection.Nodes keys) = nodes_data keys
selection_data (selection.Cells table anchor focus) = cells_data table anchor focus

-- ---- replies

-- members with one in front that says whether a command was handled, where one was dispatched
abbrev pub with_handled : Option Bool → Members → Members
with_handled None members = members
with_handled (Some handled) members = member (codes "handled") (boolean handled) members

-- the view as a last member, where replies include it
abbrev pub told_view : Option (List ℕ) → Members
told_view None = no_members
told_view (Some html) = member (codes "view") (text_data html) no_members

-- the reply to a commit: {"commit":N,"ops":[..]}, with "handled" between them, and "view" after them
abbrev pub commit_data : ℕ → List Op → Option Bool → Option (List ℕ) → Data
commit_data commit ops handled html =
    object (member (codes "commit") (natural commit) (with_handled handled (member (codes "ops") (list_data (map op_data ops)) (told_view html))))

-- the reply to what is refused: {"refused":{"cause":NAME,"code":C,"detail":D,"step":I}}, where the step is an index or
-- null
abbrev pub refusal_data : Cause → Option ℕ → Data
refusal_data cause step =
    object (member (codes "refused") (object
    (member (codes "cause") (string (cause_name cause))
    (member (codes "code") (natural (code_of cause))
    (member (codes "detail") (detail_of cause)
    (member (codes "step") (or_null natural step) no_members))))) no_members)

-- the reply to what is nothing new: {"idle":true}, with "handled" before
abbrev pub idle_data : Option Bool → Data
idle_data handled = object (with_handled handled (member (codes "idle") (boolean true) no_members))

-- the reply to an update that waits: {"gathered":N}, with how many wait
abbrev pub gathered_data : ℕ → Data
gathered_data n = object (member (codes "gathered") (natural n) no_members)

-- the reply to a listener: {"registered":N}, with its number
abbrev pub registered_data : ℕ → Data
registered_data n = object (member (codes "registered") (natural n) no_members)

-- the reply to what clears the history: {"cleared":true}
abbrev pub cleared_data : Data
cleared_data = object (member (codes "cleared") (boolean true) no_members)

-- the reply that says how many entries the history has: {"history":{"redo":R,"undo":U}}
abbrev pub history_data : ℕ → ℕ → Data
history_data redo undo =
    object (member (codes "history") (object (member (codes "redo") (natural redo) (member (codes "undo") (natural undo) no_members))) no_members)

-- the reply that shows a document: {"state":DOCUMENT}
abbrev pub state_data : Data → Data
state_data document = object (member (codes "state") document no_members)

-- the reply that shows a slice, if there is one: {"slice":SLICE or null}
abbrev pub shown_slice_data : Option Data → Data
shown_slice_data slice = object (member (codes "slice") (or_null (λ d. d) slice) no_members)

-- the reply that shows the view: {"view":HTML}
abbrev pub view_data : List ℕ → Data
view_data html = object (member (codes "view") (text_data html) no_members)

-- the reply that shows the selection: {"selection":S}
abbrev pub shown_selection_data : Selection → Data
shown_selection_data selection = object (member (codes "selection") (selection_data selection) no_members)

-- a reply as JSON
unfoldable pub reply_data : Reply → Data
reply_data (Committed commit ops handled html) = commit_data commit ops handled html
reply_data (Refused cause step) = refusal_data cause step
reply_data (Idle handled) = idle_data handled
reply_data (Gathered n) = gathered_data n
reply_data (Registered n) = registered_data n
reply_data Cleared = cleared_data
reply_data (View html) = view_data html
reply_data (Selected selection) = shown_selection_data selection
reply_data (History redo undo) = history_data redo undo

-- the bytes of a reply: its JSON, written compactly
unfoldable pub reply_text : Reply → List ℕ
reply_text reply = compact_text (reply_data reply)

-- the text of the reply that shows a document
unfoldable pub state_text : Data → List ℕ
state_text document = compact_text (state_data document)

-- the text of the reply that shows a slice, or says that there is none
unfoldable pub slice_text : Option Data → List ℕ
slice_text slice = compact_text (shown_slice_data slice)
