-- Which operations a commit may have: those that turn the view of the old tree into the view of the new one, keep the
-- hosts of kept nodes, and touch no other hosts than those of marked nodes, and of children of those that stay.
use Rattle.std.specs.Prelude.{◌≡◌, ◌≢◌, ◌↔◌, ℕ, ◌+◌, ◌==◌, ◌&&◌, ◌++◌, if◌then◌else◌, Bool, true, false, List, [], ◌∷◌, length, filter, Option, None, Some}
use Rattle.std.specs.List.{AllByRecursion}
use Rattle.lx_node.specs.Same.{same_text}
use Rattle.lx_trees.specs.Trees.{Trees, nil, tree}
use Rattle.lx_trees.specs.NamedTrees.{total}
use Rattle.lx_trees.specs.Siblings.{is_among, NoRepeats}
use Rattle.lx_host.specs.declared.tag.Tag.{Tag}
use Rattle.lx_host.specs.Words.{tag_word}
use Rattle.lx_host.specs.declared.op.Op.{Op}
use Rattle.lx_host.specs.declared.op.Op.TheVariants.{Create, Place, Drop, Text, Attr, Break}
use Rattle.lx_host.specs.Hosts as hosts
use Rattle.lx_host.specs.Hosts.{Host, HostTree, shape_of, effect, Leads}
use Rattle.lx_forest.specs.Forest.{Forest}
use Rattle.lx_forest.specs.Lookups.{has, parent_of, children_of, roots}
use Rattle.lx_render.specs.Render.{tag_of, render}

-- The host tree shows this tree and nothing else: it has the shape of its rendering, so no host is left unplaced.
abbrev pub Shows : HostTree → Forest → Type 0
Shows view forest = shape_of view.hosts ≡ render forest

-- ---- kept nodes

-- where the node of that key is in trees below this parent: below which parent, and as which tag
abbrev pub places_of : ℕ → Option ℕ → Forest → List (Option ℕ × Tag)
places_of key parent nil = []
places_of key parent (tree label below rest) =
    (if label.key == key then (parent, tag_of label.kind label.fields) ∷ [] else [])
    ++ places_of key (Some label.key) below ++ places_of key parent rest

-- The root is kept, and so is each node that has the same tag below the same kept parent in both trees.
pub data IsKept (old new : Forest) : ℕ → Type 0 where
  kept_root : IsKept old new 0
  kept_below : (key parent : ℕ) (tag : Tag) → IsKept old new parent
      → places_of key None old ≡ (Some parent, tag) ∷ [] → places_of key None new ≡ (Some parent, tag) ∷ []
      → IsKept old new key

-- These keys are those of the nodes of the new tree that aren't kept, each once.
pub record AreUnkept (old new : Forest) (keys : List ℕ) : Type 0 where
  pub each : (key : ℕ) → (is_among key keys ≡ true) ↔ ((has key new ≡ true) × (IsKept old new key → ⊥))
  pub once : NoRepeats keys

-- ---- marked nodes

-- how many children the marked nodes of a tree have
abbrev pub marked_children : (ℕ → Bool) → Forest → ℕ
marked_children noted nil = 0
marked_children noted (tree label below rest) =
    (if noted label.key then length (roots below) else 0) + marked_children noted below + marked_children noted rest

-- the marked nodes that the other tree has too
abbrev pub staying : (ℕ → Bool) → Forest → ℕ → Bool
staying noted other q = noted q && has q other

-- ---- hosts

-- the ids of the hosts that show the node of that key
abbrev pub hosts_of : ℕ → Trees Host → List ℕ
hosts_of key nil = []
hosts_of key (tree host below rest) =
    (if host.face.key == key then host.id ∷ [] else []) ++ hosts_of key below ++ hosts_of key rest

-- the host that an operation is about
abbrev pub subject_of : Op → ℕ
subject_of (Create id key tag attrs text ending) = id
subject_of (Place parent child before) = child
subject_of (Drop id) = id
subject_of (Text id text) = id
subject_of (Attr id name value) = id
subject_of (Break id ending) = id

-- A host that operations may be about: it is none of the view's, or showed a node that is touched, or one whose parent is
-- touched and stays. To be none of the view's is the same as to be created by these operations, since each of them fits in
-- its turn.
pub data MayChange (old new : Forest) (touched : ℕ → Bool) (before : HostTree) : ℕ → Type 0 where
  new_host : (id : ℕ) → hosts.has id before.hosts ≡ false → MayChange old new touched before id
  of_touched : (id key : ℕ) → is_among id (hosts_of key before.hosts) ≡ true → touched key ≡ true → MayChange old new touched before id
  of_child : (id key parent : ℕ) → is_among id (hosts_of key before.hosts) ≡ true → parent_of old key ≡ Some parent → has parent new ≡ true
      → touched parent ≡ true → MayChange old new touched before id

-- those of the first list that are in the second too
abbrev pub common : List ℕ → List ℕ → List ℕ
common xs ys = filter (λ k. is_among k ys) xs

-- the children that an element has in both trees are in one order in both
abbrev pub KeepsOrder : Forest → Forest → ℕ → Type 0
KeepsOrder old new key = common (children_of old key) (children_of new key) ≡ common (children_of new key) (children_of old key)

-- What an operation places is no host of a kept child of an element whose children keep their order. The parent of a kept
-- child is kept itself.
abbrev pub MayPlace : Forest → Forest → HostTree → Op → Type 0
MayPlace old new before (Place parent child at) =
    (key up : ℕ) → IsKept old new key → parent_of new key ≡ Some up → KeepsOrder old new up → is_among child (hosts_of key before.hosts) ≡ false
MayPlace old new before _ = Unit {0}

-- What an operation drops is one of the view's hosts, and so none that these operations create.
abbrev pub MayDrop : HostTree → Op → Type 0
MayDrop before (Drop id) = hosts.has id before.hosts ≡ true
MayDrop before _ = Unit {0}

-- What an operation writes isn't there already.
abbrev pub WritesAnew : HostTree → Op → Type 0
WritesAnew w (Text id text) = effect (Text id text) w ≢ w
WritesAnew w (Attr id name value) = effect (Attr id name value) w ≢ w
WritesAnew w (Break id ending) = effect (Break id ending) w ≢ w
WritesAnew w _ = Unit {0}

-- each of the operations writes something new in its turn
abbrev pub AllWriteAnew : HostTree → List Op → Type 0
AllWriteAnew w [] = Unit {0}
AllWriteAnew w (op ∷ ops) = WritesAnew w op × AllWriteAnew (effect op w) ops

-- what each operation owes by itself
pub record IsDue (old new : Forest) (touched : ℕ → Bool) (before : HostTree) (op : Op) : Type 0 where
  pub subject : MayChange old new touched before (subject_of op)
  pub place : MayPlace old new before op
  pub drop : MayDrop before op

-- The operations are allowed between two trees, from a host tree that shows the old one: each fits in turn, what they
-- lead to shows the new one, and each kept node is shown by the host that showed it before. Each is about a host that is new
-- or that showed a touched node or a child of one that stays; none places a kept child where the kept children keep their
-- order, none drops a new host, and none writes what is there.
pub record AreAllowed (old new : Forest) (touched : ℕ → Bool) (before : HostTree) (ops : List Op) (after : HostTree) : Type 0 where
  pub leads : Leads before ops after
  pub shows : Shows after new
  pub keeps : (key : ℕ) → IsKept old new key → hosts_of key after.hosts ≡ hosts_of key before.hosts
  pub due : AllByRecursion (IsDue old new touched before) ops
  pub writes : AllWriteAnew before ops

-- ---- how many nodes aren't kept

-- whether two tags are one: no two have the same word
abbrev pub is_tag : Tag → Tag → Bool
is_tag a b = same_text (tag_word a) (tag_word b)

-- whether two parents are one, or both are missing
abbrev pub is_parent : Option ℕ → Option ℕ → Bool
is_parent None None = true
is_parent (Some p) (Some q) = p == q
is_parent _ _ = false

-- whether a place is the only one of a list
abbrev pub is_only : Option ℕ → Tag → List (Option ℕ × Tag) → Bool
is_only parent tag [] = false
is_only parent tag (place ∷ []) = is_parent place.0 parent && is_tag place.1 tag
is_only parent tag (place ∷ more ∷ rest) = false

-- how many nodes of these trees, which are below a kept node, aren't kept: none below one that isn't is
abbrev pub unkept : Forest → Option ℕ → Forest → ℕ
unkept old parent nil = 0
unkept old parent (tree label below rest) =
    (if is_only parent (tag_of label.kind label.fields) (places_of label.key None old) then unkept old (Some label.key) below else 1 + total below)
    + unkept old parent rest
