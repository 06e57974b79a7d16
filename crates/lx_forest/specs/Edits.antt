-- The primitive edits of a forest. Each gives a forest in order where it began with one and its condition holds.
use Rattle.std.specs.Prelude.{ℕ, ◌==◌, if◌then◌else◌, Option}
use Rattle.std.specs.declared.cmp.Ordering.{Ordering}
use Rattle.lx_trees.specs.NamedTrees.{mapped}
use Rattle.lx_trees.specs.Spots.{Spot}
use Rattle.lx_node.specs.declared.fields.Fields.{Fields}
pub use Rattle.lx_trees.specs.Edits.{taken, placed}
use Rattle.lx_trees.specs.Edits as rooted
use Rattle.lx_forest.specs.Forest.{Label, Forest}
use Rattle.lx_forest.specs.Lookups.{key_of, alone}

-- the forest with trees among the first ones, before the first of a greater key
abbrev pub among_roots : ℕ → Forest → Forest → Forest
among_roots k new f = rooted.among_roots key_of k new f

-- new: a detached tree without children
unfoldable pub with_new : Label → Forest → Forest
with_new l f = rooted.with_new key_of l f

-- a label whose fields are changed if it has the key
abbrev pub fields_at : ℕ → Fields → Label → Label
fields_at k fields l = record { key = l.key; kind = l.kind; fields = (if l.key == k then fields else l.fields) }

-- set: the fields of a node
unfoldable pub with_fields : ℕ → Fields → Forest → Forest
with_fields k fields f = mapped (fields_at k fields) f

-- take: the tree of k, out of its parent's children, becomes a detached tree
unfoldable pub take_out : ℕ → Forest → Forest
take_out k f = rooted.take_out key_of k f

-- put: the tree of k goes among the children of p, before that one, or at the end
unfoldable pub put_in : ℕ → Option ℕ → ℕ → Forest → Forest
put_in p before k f = rooted.put_in key_of p before k f

-- the forest with trees put after the children of p
abbrev pub last_below : ℕ → Forest → Forest → Forest
last_below p new f = rooted.last_below key_of p new f

-- the forest with the root's tree alone
unfoldable pub drop_detached : Forest → Forest
drop_detached f = alone 0 f

-- the tree of k may be put below p: it is detached and isn't the root's, and p is outside it
abbrev pub CanPut : ℕ → ℕ → Forest → Type 0
CanPut p k f = rooted.CanPut key_of p k f

-- ---- what an edit does to the spot at q

-- where a key is once the fields of k were set
abbrev pub reset : ℕ → Fields → ℕ → Spot Label → Spot Label
reset k fields q s =
    record {
      label = record { key = s.label.key; kind = s.label.kind; fields = (if q == k then fields else s.label.fields) };
      parent = s.parent;
      children = s.children;
    }

-- ---- what put does to the order

-- how a key in a tree that comes to this place among the children of p stands to a key q elsewhere: as the child before
-- which it comes, or else as p; but it is before that child, and after all in the tree of p
abbrev pub order_from_place : Forest → ℕ → Option ℕ → ℕ → Option Ordering
order_from_place f p before q = rooted.order_from_place key_of f p before q
