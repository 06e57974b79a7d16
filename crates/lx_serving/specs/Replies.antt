-- The replies to lines about views, as serde_json writes them, and the hub after such a line.
use Rattle.std.specs.Prelude.{ℕ, Bool, List, codes, Option, None, Some}
use Rattle.serde_json.specs.Data.{Data, boolean, object, Members, no_members, member}
use Rattle.serde_json.specs.Written.{compact_text}
use Rattle.lx_node.specs.declared.cause.Cause.TheVariants.{BadCommand}
use Rattle.lx_script.specs.declared.reply.Reply.TheVariants.{Refused}
use Rattle.lx_fields.specs.Parts.{natural, text_data}
use Rattle.lx_script.specs.Replies.{reply_text}
use Rattle.lx_hub.specs.Hub.{Hub, attachment, attached, delivery, delivered, html_at, has_view, detached}
use Rattle.lx_hub.specs.declared.hub.Attached.{Attached}
use Rattle.lx_hub.specs.declared.hub.Attached.TheVariants as attached_as
use Rattle.lx_hub.specs.declared.hub.Delivery.{Delivery}
use Rattle.lx_hub.specs.declared.hub.Delivery.TheVariants.{Applied, Level, Behind, Unknown}
use Rattle.lx_serving.specs.Asked.{about_views}
use Rattle.lx_serving.specs.declared.asking.AboutViews.{AboutViews}
use Rattle.lx_serving.specs.declared.asking.AboutViews.TheVariants.{Attach, Deliver, Html, Detach}

-- an object with one member
abbrev pub single : List ℕ → Data → Data
single name d = object (member name d no_members)

-- the reply to a value of none of the forms: it is refused as no command, and for no step
abbrev pub refused_text : List ℕ
refused_text = reply_text (Refused BadCommand None)

-- ---- replies

-- the reply to what attaches a view: {"attached":N} or {"full":32}
abbrev pub attached_data : Attached → Data
attached_data (attached_as.View number) = single (codes "attached") (natural number)
attached_data attached_as.Full = single (codes "full") (natural 32)

-- the members that say how far a view has come, and which view that is
abbrev pub reached_members : ℕ → ℕ → Members
reached_members reached view = member (codes "reached") (natural reached) (member (codes "view") (natural view) no_members)

-- the reply about a view that isn't there: {"unknown":V}
abbrev pub unknown_data : ℕ → Data
unknown_data view = single (codes "unknown") (natural view)

-- {"delivered":{"reached":R,"view":V}}, {"level":{"reached":R,"view":V}}, {"behind":{"oldest":O,"reached":R,"view":V}} or
-- {"unknown":V}
abbrev pub delivery_data : ℕ → Delivery → Data
delivery_data view (Applied reached) = single (codes "delivered") (object (reached_members reached view))
delivery_data view (Level reached) = single (codes "level") (object (reached_members reached view))
delivery_data view (Behind reached oldest) = single (codes "behind") (object (member (codes "oldest") (natural oldest) (reached_members reached view)))
delivery_data view Unknown = unknown_data view

-- the reply that shows a view: {"html":HTML} or {"unknown":V}
abbrev pub html_data : ℕ → Option (List ℕ) → Data
html_data view None = unknown_data view
html_data view (Some html) = single (codes "html") (text_data html)

-- the reply to what detaches a view: {"detached":B}
abbrev pub detached_data : Bool → Data
detached_data was_there = single (codes "detached") (boolean was_there)

-- the reply to a line that asks for this
abbrev pub views_data : AboutViews → Hub → Data
views_data Attach h = attached_data (attachment h)
views_data (Deliver view) h = delivery_data view (delivery view h)
views_data (Html view) h = html_data view (html_at view h)
views_data (Detach view) h = detached_data (has_view view h)

-- the hub after such a line
abbrev pub views_after : AboutViews → Hub → Hub
views_after Attach h = attached h
views_after (Deliver view) h = delivered view h
views_after (Html view) h = h
views_after (Detach view) h = detached view h

-- the reply to what is asked about views, or the refusal where nothing is
abbrev pub views_text_by : Option AboutViews → Hub → List ℕ
views_text_by None h = refused_text
views_text_by (Some about) h = compact_text (views_data about h)

-- the hub after what is asked about views
abbrev pub hub_by : Option AboutViews → Hub → Hub
hub_by None h = h
hub_by (Some about) h = views_after about h

-- the reply to a line about views with this value
abbrev pub views_text : Data → Hub → List ℕ
views_text asked h = views_text_by (about_views asked) h

-- the hub after a line about views with this value
abbrev pub hub_after_line : Data → Hub → Hub
hub_after_line asked h = hub_by (about_views asked) h
