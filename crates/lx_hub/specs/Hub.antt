-- What a hub is, and what is done to one.
use Rattle.std.specs.Prelude.{ℕ, ◌+◌, ◌-◌, ◌==◌, if◌then◌else◌, Bool, nat_lt, take, length, slice_get, is_some, List, [], ◌∷◌, ◌++◌, Option, None, Some, option_map}
use Rattle.lx_host.specs.declared.op.Op.{Op}
use Rattle.lx_host.specs.Hosts.{HostTree, new_tree, effect, shape_of}
use Rattle.lx_host.specs.Html.{html_of, first_tree}
use Rattle.lx_hub.specs.declared.hub.Attached.{Attached}
use Rattle.lx_hub.specs.declared.hub.Attached.TheVariants as attached_as
use Rattle.lx_hub.specs.declared.hub.Delivery.{Delivery}
use Rattle.lx_hub.specs.declared.hub.Delivery.TheVariants.{Applied, Level, Behind, Unknown}

-- a view: its number, the number of the last batch that it has taken, and its host tree
pub record View : Type 0 where
  pub number : ℕ
  pub reached : ℕ
  pub tree : HostTree

-- the tip, how many batches were published, the newest of them (newest first), the attached views, and how many ever
-- were
pub record Hub : Type 0 where
  pub tip : HostTree
  pub commits : ℕ
  pub kept : List (List Op)
  pub views : List View
  pub made : ℕ

-- a new hub: the tip is a new host tree, nothing was published, and no view is attached
abbrev pub new_hub : Hub
new_hub = record { tip = new_tree; commits = 0; kept = []; views = []; made = 0 }

-- the most batches that are kept
abbrev pub most_kept : ℕ
most_kept = 100

-- the most views that are attached at a time
abbrev pub most_views : ℕ
most_views = 32

-- ---- what is published

-- what operations make of a host tree, one after another
abbrev pub effects : List Op → HostTree → HostTree
effects [] w = w
effects (op ∷ ops) w = effects ops (effect op w)

-- the hub after a batch: the tip has taken it, and of more than a hundred batches the oldest goes
abbrev pub published : List Op → Hub → Hub
published ops h = record h { tip = effects ops h.tip; commits = h.commits + 1; kept = take most_kept (ops ∷ h.kept) }

-- ---- views by their numbers

-- a view has the number
abbrev pub is_numbered : ℕ → View → Bool
is_numbered n v = v.number == n

-- the view of that number, where one is attached
abbrev pub view_in : ℕ → List View → Option View
view_in n [] = None
view_in n (v ∷ vs) = if is_numbered n v then Some v else view_in n vs

-- whether a view of that number is attached
abbrev pub has_view : ℕ → Hub → Bool
has_view n h = is_some (view_in n h.views)

-- the views with the one of that number changed
abbrev pub changed_at : ℕ → (View → View) → List View → List View
changed_at n change [] = []
changed_at n change (v ∷ vs) = if is_numbered n v then change v ∷ vs else v ∷ changed_at n change vs

-- the views without the one of that number
abbrev pub without_view : ℕ → List View → List View
without_view n [] = []
without_view n (v ∷ vs) = if is_numbered n v then vs else v ∷ without_view n vs

-- ---- what comes and goes

-- whether as many views are attached as may be
abbrev pub is_full : Hub → Bool
is_full h = nat_lt 31 (length h.views)

-- the answer to an attachment
abbrev pub attachment : Hub → Attached
attachment h = if is_full h then attached_as.Full else attached_as.View (h.made + 1)

-- the view that is attached then, which is equal to the tip
abbrev pub next_view : Hub → View
next_view h = record { number = h.made + 1; reached = h.commits; tree = h.tip }

-- the hub after an attachment
abbrev pub attached : Hub → Hub
attached h = if is_full h then h else record h { views = h.views ++ next_view h ∷ []; made = h.made + 1 }

-- the hub once the view of that number was let go
abbrev pub detached : ℕ → Hub → Hub
detached n h = record h { views = without_view n h.views }

-- the HTML of a view
abbrev pub html_of_view : View → List ℕ
html_of_view v = html_of (first_tree (shape_of v.tree.hosts))

-- the HTML of the view of that number, where one is attached
abbrev pub html_at : ℕ → Hub → Option (List ℕ)
html_at n h = option_map html_of_view (view_in n h.views)

-- ---- deliveries

-- batch number n is kept exactly where n is above the number of all less a hundred
abbrev pub is_kept : Hub → ℕ → Bool
is_kept h n = nat_lt (h.commits - most_kept) n

-- the number of the oldest batch that is kept
abbrev pub oldest : Hub → ℕ
oldest h = h.commits - most_kept + 1

-- the answer to a delivery to a view
abbrev pub delivery_to : Hub → View → Delivery
delivery_to h v =
    if v.reached == h.commits then Level v.reached else
    (if is_kept h (v.reached + 1) then Applied (v.reached + 1) else Behind v.reached (oldest h))

-- the answer to a delivery to a view that may be missing
abbrev pub delivery_if : Hub → Option View → Delivery
delivery_if h None = Unknown
delivery_if h (Some v) = delivery_to h v

-- the answer to a delivery to a number
abbrev pub delivery : ℕ → Hub → Delivery
delivery n h = delivery_if h (view_in n h.views)

-- a view after a batch
abbrev pub taken : List Op → View → View
taken ops v = record { number = v.number; reached = v.reached + 1; tree = effects ops v.tree }

-- a view after a batch, if there is one
abbrev pub taken_if : Option (List Op) → View → View
taken_if None v = v
taken_if (Some ops) v = taken ops v

-- the batch after that of this number, where it is kept: as many are newer as the tip is ahead of it
abbrev pub batch_behind : ℕ → Hub → Option (List Op)
batch_behind n h = if n == h.commits then None else slice_get h.kept (h.commits - n - 1)

-- a view after a delivery: it has taken its next batch, where that is kept
abbrev pub advanced : Hub → View → View
advanced h v = taken_if (batch_behind v.reached h) v

-- the hub after a delivery to a number
abbrev pub delivered : ℕ → Hub → Hub
delivered n h = record h { views = changed_at n (advanced h) h.views }
