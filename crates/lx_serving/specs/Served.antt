-- An editor with a layer beside it, and how lines may be answered there.
use Rattle.std.specs.Prelude.{◌≡◌, ℕ, ◌+◌, List, [], ◌∷◌, ◌++◌, codes, Option, None, Some}
use Rattle.serde_json.specs.Data.{Data}
use Rattle.lx_host.specs.declared.op.Op.{Op}
use Rattle.lx_reconcile.specs.Told.{Told}
use Rattle.lx_editor.specs.Editor.{Editor, new_editor}
use Rattle.lx_editor.specs.Follows.{AnswersLine, IsLeftWithout}
use Rattle.lx_hub.specs.Hub.{Hub, new_hub, published}
use Rattle.lx_outline.specs.Events.{AreEvents}
use Rattle.lx_outline.specs.Outline.{IsOutlineOf}
use Rattle.lx_serving.specs.declared.setup.Setup.{Setup}
use Rattle.lx_serving.specs.declared.setup.Beside.{Beside}
use Rattle.lx_serving.specs.declared.setup.Beside.TheVariants as beside
use Rattle.lx_serving.specs.declared.layer.Layer.{Layer}
use Rattle.lx_serving.specs.declared.layer.Layer.TheVariants as layer
use Rattle.lx_serving.specs.Asked.{IsOwn, IsOther}
use Rattle.lx_serving.specs.Outlining.{OutlinedView, new_outlined, outline_text}
use Rattle.lx_serving.specs.Replies.{views_text, hub_after_line}

-- an editor, and what is beside it
pub record Served : Type 0 where
  pub editor : Editor
  pub layer : Layer

-- an editor with nothing beside it
abbrev pub with_nothing : Editor → Served
with_nothing e = record { editor = e; layer = layer.Plain }

-- an editor with a hub beside it
abbrev pub with_hub : Editor → Hub → Served
with_hub e h = record { editor = e; layer = layer.Hub h }

-- an editor with an outline beside it
abbrev pub with_outline : Editor → OutlinedView → Served
with_outline e o = record { editor = e; layer = layer.Outline o }

-- what is beside a new editor
abbrev pub new_layer : Beside → Layer
new_layer beside.Nothing = layer.Plain
new_layer beside.Hub = layer.Hub new_hub
new_layer beside.Outline = layer.Outline new_outlined

-- a new editor with what is beside it
abbrev pub new_served : Setup → Served
new_served setup = record { editor = new_editor setup.view setup.delay; layer = new_layer setup.beside }

-- ---- a hub beside an editor

-- The hub's tip is the editor's view, and it has taken as many batches as there were commits.
pub record AreLevel (e : Editor) (h : Hub) : Type 0 where
  pub tip : h.tip ≡ e.view
  pub commits : h.commits ≡ e.commits

-- what holds of an editor and of what is beside it: a hub is level with it, and an outline is that of its tree
abbrev pub IsBeside : Editor → Layer → Type 0
IsBeside e (layer.Hub h) = AreLevel e h
IsBeside e (layer.Outline o) = IsOutlineOf o.outline e.tree
IsBeside e other = Unit {0}

-- the operations of the last commit, if there was one
abbrev pub ops_told : Option Told → List Op
ops_told None = []
ops_told (Some told) = told.ops

-- the hub after a line that went to the editor: where that committed, the commit's operations are published
pub record IsFollowedBy (old new : Editor) (h g : Hub) : Type 0 where
  pub published : new.commits ≡ old.commits + 1 → g ≡ published (ops_told new.last) h
  pub same : new.commits ≡ old.commits → g ≡ h

-- ---- an outline beside an editor

-- The outline after a line that went to the editor: it is that of the tree that is committed now, and where the line committed,
-- the events are those between the two trees.
pub record IsNotedBy (old new : Editor) (o p : OutlinedView) : Type 0 where
  pub kept : IsOutlineOf p.outline new.tree
  pub told : new.commits ≡ old.commits + 1 → AreEvents old.tree new.tree p.events
  pub same : new.commits ≡ old.commits → p ≡ o

-- ---- answers

-- A line may be answered with these bytes: with nothing beside the editor as the editor may. Beside a hub or an outline, a line
-- of the layer's own has the layer's reply and leaves the editor, its time too; and any other line is answered as the
-- editor may.
pub data AnswersIn : Served → List ℕ → List ℕ → Served → Type 0 where
  by_editor : (old new : Editor) (line bytes : List ℕ) → AnswersLine old line bytes new → AnswersIn (with_nothing old) line bytes (with_nothing new)
  about_views : (e : Editor) (h : Hub) (line : List ℕ) (asked : Data) → IsOwn (codes "hub") line asked
      → AnswersIn (with_hub e h) line (views_text asked h) (with_hub e (hub_after_line asked h))
  beside_views : (old new : Editor) (h g : Hub) (line bytes : List ℕ) → IsOther (codes "hub") line → AnswersLine old line bytes new
      → IsFollowedBy old new h g → AnswersIn (with_hub old h) line bytes (with_hub new g)
  about_outline : (e : Editor) (o : OutlinedView) (line : List ℕ) (asked : Data) → IsOwn (codes "ask") line asked
      → AnswersIn (with_outline e o) line (outline_text asked e.tree o.events) (with_outline e o)
  beside_outline : (old new : Editor) (o p : OutlinedView) (line bytes : List ℕ) → IsOther (codes "ask") line → AnswersLine old line bytes new
      → IsNotedBy old new o p → AnswersIn (with_outline old o) line bytes (with_outline new p)

-- These bytes are answers to the lines, each with a line end, one after another.
abbrev pub FollowsInTo : Served → List (List ℕ) → List ℕ → Served → Type 0
FollowsInTo old [] bytes new = (bytes ≡ []) × (new ≡ old)
FollowsInTo old (line ∷ lines) bytes new =
    (answer rest : List ℕ) × (mid : Served) × AnswersIn old line answer mid
    × (bytes ≡ answer ++ 10 ∷ rest) × FollowsInTo mid lines rest new

-- the bytes answer the lines, whatever they leave
abbrev pub FollowsIn : Served → List (List ℕ) → List ℕ → Type 0
FollowsIn old lines bytes = (new : Served) × FollowsInTo old lines bytes new

-- ---- numbers

-- how many views were ever attached: a line attaches at most one
abbrev pub made_in : Layer → ℕ
made_in (layer.Hub h) = h.made
made_in other = 0

-- how many commits there were, and views attached: a line takes one of them at most
abbrev pub spent : Served → ℕ
spent s = s.editor.commits + made_in s.layer

-- ---- out of memory

-- What is left without memory: with nothing beside the editor, what the line leaves of an editor. Beside a hub or an
-- outline nothing is answered any more, since the layer may lack a commit.
abbrev pub IsLeftBeside : Layer → Editor → List ℕ → Served → Type 0
IsLeftBeside layer.Plain old line new = IsLeftWithout old line new.editor × (new.layer ≡ layer.Plain)
IsLeftBeside other old line new = new.layer ≡ layer.Gone

-- what a line leaves of an editor with its layer where memory runs out
abbrev pub IsLeftIn : Served → List ℕ → Served → Type 0
IsLeftIn old line new = IsLeftBeside old.layer old.editor line new
