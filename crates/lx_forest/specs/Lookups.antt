-- What a forest says of a key: where the key is, and all that is read from that.
use Rattle.std.specs.Prelude.{ℕ, ◌<◌, ◌≡◌, Bool, true, List, length, Option, Some, option_map}
use Rattle.std.specs.declared.cmp.Ordering.{Ordering}
use Rattle.lx_trees.specs.NamedTrees as named
use Rattle.lx_trees.specs.Siblings.{first_of, last_of, next_in, previous_in, index_in}
use Rattle.lx_trees.specs.Spots as spots
use Rattle.lx_trees.specs.Spots.{Spot, parent_at, children_at}
use Rattle.lx_trees.specs.Walks as walks
pub use Rattle.lx_trees.specs.Lookups.{rises_from, rises, order_between}
use Rattle.lx_trees.specs.Lookups as rooted
use Rattle.lx_node.specs.declared.kind.Kind.{Kind}
use Rattle.lx_node.specs.declared.kind.Kind.TheVariants.{Root}
use Rattle.lx_node.specs.declared.fields.Fields.{Fields}
use Rattle.lx_forest.specs.Forest.{Label, Forest}

-- the key of a node, which is its name among trees
abbrev pub key_of : Label → ℕ
key_of l = l.key

-- how often the key is there
abbrev pub count : ℕ → Forest → ℕ
count q f = named.count key_of q f

-- whether the key is there
abbrev pub has : ℕ → Forest → Bool
has q f = named.has key_of q f

-- the keys of the first trees: the root's and those of the detached trees
abbrev pub roots : Forest → List ℕ
roots f = named.names key_of f

-- the tree of a key
abbrev pub alone : ℕ → Forest → Forest
alone k f = named.alone key_of k f

-- the forest without the tree of a key
abbrev pub without : ℕ → Forest → Forest
without k f = named.without key_of k f

-- the trees of these keys, one after another
abbrev pub trees_of : Forest → List ℕ → Forest
trees_of f ks = named.gathered key_of f ks

-- where a key is: its label, its parent, its children's keys
abbrev pub spot : Forest → ℕ → Option (Spot Label)
spot f q = spots.spot key_of f q

-- what a key is, if it is there
abbrev pub label_of : Forest → ℕ → Option Label
label_of f q = option_map (λ s. s.label) (spot f q)

-- the kind of a key, if it is there
abbrev pub kind_of : Forest → ℕ → Option Kind
kind_of f q = option_map (λ l. l.kind) (label_of f q)

-- the fields of a key, if it is there
abbrev pub fields_of : Forest → ℕ → Option Fields
fields_of f q = option_map (λ l. l.fields) (label_of f q)

-- the parent of a key, if it is below one
abbrev pub parent_of : Forest → ℕ → Option ℕ
parent_of f q = parent_at (spot f q)

-- the children of a key, in their order
abbrev pub children_of : Forest → ℕ → List ℕ
children_of f q = children_at (spot f q)

-- how many children a key has
abbrev pub size_of : Forest → ℕ → ℕ
size_of f q = length (children_of f q)

-- the first child of a key, if it has one
abbrev pub first_child : Forest → ℕ → Option ℕ
first_child f q = first_of (children_of f q)

-- the last child of a key, if it has one
abbrev pub last_child : Forest → ℕ → Option ℕ
last_child f q = last_of (children_of f q)

-- the children of a parent, if there is one
abbrev pub children_below : Forest → Option ℕ → List ℕ
children_below f o = rooted.children_below key_of f o

-- the keys of the list in which a key is, itself among them: none where it has no parent
abbrev pub siblings : Forest → ℕ → List ℕ
siblings f q = children_below f (parent_of f q)

-- the key right before this one among its siblings
abbrev pub previous_of : Forest → ℕ → Option ℕ
previous_of f q = previous_in (siblings f q) q

-- the key right after this one among its siblings
abbrev pub next_of : Forest → ℕ → Option ℕ
next_of f q = next_in (siblings f q) q

-- how many siblings come before it
abbrev pub index_of : Forest → ℕ → Option ℕ
index_of f q = index_in (siblings f q) q

-- whether q is in the tree of k: k itself, or below it
abbrev pub is_within : Forest → ℕ → ℕ → Bool
is_within f k q = has q (alone k f)

-- whether q is in the tree of the root
abbrev pub is_attached : Forest → ℕ → Bool
is_attached f q = is_within f 0 q

-- the keys above q, from its parent on
abbrev pub ancestors : Forest → ℕ → List ℕ
ancestors f q = walks.ancestors key_of f q

-- how many keys are above an attached one
abbrev pub depth : Forest → ℕ → Option ℕ
depth f q = rooted.depth key_of f q

-- the keys of the tree of k, each before those below it, and those before its next siblings
abbrev pub keys_within : Forest → ℕ → List ℕ
keys_within f k = rooted.keys_within key_of f k

-- the keys of the root's tree
abbrev pub preorder : Forest → List ℕ
preorder f = keys_within f 0

-- the keys of the root's tree from q on
abbrev pub from : Forest → ℕ → List ℕ
from f q = rooted.from key_of f q

-- the keys of the root's tree after the tree of q
abbrev pub behind : Forest → ℕ → List ℕ
behind f q = rooted.behind key_of f q

-- which of two attached keys comes first in preorder
abbrev pub order_of : Forest → ℕ → ℕ → Option Ordering
order_of f a b = rooted.order_of key_of f a b

-- a forest is in order: no key occurs twice, the first tree is the root's, and the detached trees after it come by
-- their keys
pub record IsForest (f : Forest) : Type 0 where
  pub once : (q : ℕ) → count q f < 2
  pub rising : rises (roots f) ≡ true
  pub root : kind_of f 0 ≡ Some Root

-- the kind of a parent may hold that of a child, if both are there
abbrev pub holds : (Kind → Kind → Bool) → Option Kind → Option Kind → Bool
holds may_hold (Some outer) (Some inner) = may_hold outer inner
holds may_hold _ _ = true

-- each child is of a kind that its parent's kind may hold
pub record IsHeld (may_hold : Kind → Kind → Bool) (f : Forest) : Type 0 where
  pub each : (q p : ℕ) → parent_of f q ≡ Some p → holds may_hold (kind_of f p) (kind_of f q) ≡ true
