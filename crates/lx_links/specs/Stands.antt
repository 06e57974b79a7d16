-- When a store of nodes stands for a forest.
use Rattle.std.specs.Prelude.{Bool, ℕ, ◌^◌, ◌<◌, ◌≡◌, ◌≢◌, Option, None, Some, option_map}
use Rattle.std.specs.Ordering.{nat_cmp}
use Rattle.std.specs.Coded.{Coded-set, coded_bool, codes, le_prop}
use Rattle.std.specs.FinMap.{FinMap, get}
use Rattle.std.proofs.Common.{sym, ◌∙◌}
use Rattle.lx_node.specs.declared.kind.Kind.{Kind}
use Rattle.lx_node.specs.declared.fields.Fields.{Fields}
use Rattle.lx_trees.specs.Trees.{nil, trees_code}
use Rattle.lx_trees.specs.NamedTrees.{total}
use Rattle.lx_joints.specs.Standing as standing
use Rattle.lx_joints.specs.Stands as joints
use Rattle.lx_node.specs.declared.node.Node.{Node}
use Rattle.lx_forest.specs.Forest.{Forest}
use Rattle.lx_forest.specs.Lookups.{IsForest, IsHeld}
use Rattle.lx_node.specs.Kinds.{may_hold}
use Rattle.lx_forest.specs.Suited.{IsSuited}
use Rattle.lx_forest.specs.Records.{Record, StandsFor, record_at}
use Rattle.lx_forest.proofs.Records.{StandsFor-unique}

-- the nodes under their keys, in the order of the keys
abbrev pub Nodes : Type 0
Nodes = FinMap nat_cmp Node

-- a node as the record of its key
abbrev pub record_of : ℕ → Node → Record
record_of q n =
    record {
      label = record { key = q; kind = n.kind; fields = n.fields };
      parent = n.parent;
      prev = n.prev;
      next = n.next;
      first = n.first;
      last = n.last;
      size = n.size;
    }

-- a record as a node, which doesn't know its key
abbrev pub node_of : Record → Node
node_of r =
    record {
      kind = r.label.kind;
      fields = r.label.fields;
      parent = r.parent;
      prev = r.prev;
      next = r.next;
      first = r.first;
      last = r.last;
      size = r.size;
    }

-- the node of a key in a forest, with its links
abbrev pub node_at : Forest → ℕ → Option Node
node_at f q = option_map node_of (record_at f q)

-- a node without links
abbrev pub lone_node : Kind → Fields → Node
lone_node kind fields =
    record { kind = kind; fields = fields; parent = None; prev = None; next = None; first = None; last = None; size = 0 }

-- the records of a map of nodes
abbrev pub records : Nodes → ℕ → Option Record
records m = joints.records record_of (get m)

-- a map of nodes stands for a forest in which each child is of a kind that its parent's may hold, and all fields are of
-- their kinds
pub record Holds (m : Nodes) (f : Forest) : Type 0 where
  pub stands : StandsFor (records m) f
  pub held : IsHeld may_hold f
  pub suited : IsSuited f

-- what stands for a forest: a map of nodes for one in order, and none for the empty one, which has no root
abbrev pub Stands : Option Nodes → Forest → Type 0
Stands None f = f ≡ nil
Stands (Some m) f = Holds m f

-- a forest for which something stands
abbrev pub Standing : Option Nodes → Type 0
Standing held = standing.Standing (Stands held)

Stands-unique : (held : Option Nodes) (f g : Forest) → Stands held f → Stands held g → f ≡ g
Stands-unique None f g h k = h ∙ sym k
Stands-unique (Some m) f g h k = StandsFor-unique (records m) f g h.stands k.stands

Forest-set : IsSet Forest
Forest-set = Coded-set (hlevel (codes, trees_code))

Record-set : IsSet (Option Record)
Record-set = Coded-set (hlevel (codes, trees_code))

Kind-set : IsSet (Option Kind)
Kind-set = Coded-set (hlevel codes)

Bool-set : IsSet Bool
Bool-set = Coded-set coded_bool

Holds-prop : (m : Nodes) (f : Forest) → IsProp (Holds m f)
Holds-prop m f = hlevel (le_prop, Bool-set, Record-set, Kind-set)

Stands-prop : (held : Option Nodes) (f : Forest) → IsProp (Stands held f)
Stands-prop None f = Forest-set f nil
Stands-prop (Some m) f = Holds-prop m f

-- what is held stands for one forest at most, and in one way
pub Standing-prop : (held : Option Nodes) → IsProp (Standing held)
Standing-prop held = standing.Standing-prop (Stands held) (Stands-prop held) (Stands-unique held)

-- the forest of what is held, as a name that doesn't unfold
pub forest_in : (held : Option Nodes) → Standing held → Forest
forest_in held s = s.value

-- what is held stands for the forest that is said to be held
pub forest_in-stands : (held : Option Nodes) (s : Standing held) → Stands held (forest_in held s)
unfolding forest_in
forest_in-stands held s = s.stands

-- the forest of what is held is whichever it stands for
pub forest_in-is : (held : Option Nodes) (s : Standing held) (f : Forest) → Stands held f → forest_in held s ≡ f
forest_in-is held s f h = Stands-unique held (forest_in held s) f (forest_in-stands held s) h

-- what callers may take of the forest of any links: it is in order, children are where they may be, and fields are of
-- their kinds
pub record Sound (f : Forest) : Type 0 where
  pub in_order : f ≢ nil → IsForest f
  pub held : IsHeld may_hold f
  pub suited : IsSuited f
  pub small : total f < 2 ^ 32
