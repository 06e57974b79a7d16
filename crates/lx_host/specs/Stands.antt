-- When a table of hosts stands for trees.
use Rattle.std.specs.Prelude.{ℕ, ◌≡◌, ◌≢◌, true, false, nat_eq, List, Option}
use Rattle.std.specs.Coded.{Coded-set, codes, le_prop}
use Rattle.std.specs.HashMap.{HashMap}
use Rattle.indexmap.specs.IndexMap.{get}
use Rattle.lx_trees.specs.Trees.{Trees, trees_code}
use Rattle.lx_host.specs.Hosts.{Host, id_of, has, alone, children_of, fits_before}
use Rattle.lx_trees.specs.Records.{Record}
use Rattle.lx_trees.proofs.Records.{StandsFor-unique}
use Rattle.lx_joints.specs.Standing as standing
use Rattle.lx_joints.specs.Stands as stands
use Rattle.lx_joints.specs.Stands.{records}
use Rattle.lx_host.specs.declared.linked.Linked.{Linked}

-- what contracts see of a grove: its hosts, how many more can be added without memory, and the ids in its table's own
-- order
pub record GroveView : Type 0 where
  pub hosts : Trees Host
  pub room : ℕ
  pub ids : List ℕ

-- a host as the record of its id
abbrev pub record_of : ℕ → Linked → Record Host
record_of q n =
    record {
      label = record { id = q; face = record { key = n.key; tag = n.tag; attrs = n.attrs; text = n.text; ending = n.ending } };
      parent = n.parent;
      prev = n.prev;
      next = n.next;
      first = n.first;
      last = n.last;
      size = n.size;
    }

-- a record as a host, which doesn't know its id
abbrev pub linked_of : Record Host → Linked
linked_of r =
    record {
      key = r.label.face.key;
      tag = r.label.face.tag;
      attrs = r.label.face.attrs;
      text = r.label.face.text;
      ending = r.label.face.ending;
      parent = r.parent;
      prev = r.prev;
      next = r.next;
      first = r.first;
      last = r.last;
      size = r.size;
    }

module _ {S : Type 0} where
  -- a table stands for trees in order
  abbrev pub Stands : HashMap ℕ Linked S → Trees Host → Type 0
  Stands m f = stands.Stands record_of id_of (get nat_eq m) f

  -- trees for which a table stands: it stands for one list of trees at most
  abbrev pub Standing : HashMap ℕ Linked S → Type 0
  Standing m = standing.Standing (Stands m)

Record-set : IsSet (Option (Record Host))
Record-set = Coded-set (hlevel (codes, trees_code))

module _ {S : Type 0} where
  Stands-prop : (m : HashMap ℕ Linked S) (f : Trees Host) → IsProp (Stands m f)
  Stands-prop m f = hlevel (le_prop, codes, Record-set)

  same_hosts : (m : HashMap ℕ Linked S) (f g : Trees Host) → Stands m f → Stands m g → f ≡ g
  same_hosts m f g = StandsFor-unique id_of (records record_of (get nat_eq m)) f g

  -- a table stands for one list of trees at most, and in one way
  pub Standing-prop : (m : HashMap ℕ Linked S) → IsProp (Standing m)
  Standing-prop m = standing.Standing-prop (Stands m) (Stands-prop m) (same_hosts m)

  -- the trees for which a table stands, as a name that doesn't unfold
  pub hosts_in : (m : HashMap ℕ Linked S) → Standing m → Trees Host
  hosts_in m s = s.value

  -- the table stands for the trees that it is said to stand for
  pub hosts_in-stands : (m : HashMap ℕ Linked S) (s : Standing m) → Stands m (hosts_in m s)
  unfolding hosts_in
  hosts_in-stands m s = s.stands

  -- the trees for which a table stands are whatever it stands for
  pub hosts_in-is : (m : HashMap ℕ Linked S) (s : Standing m) (f : Trees Host) → Stands m f → hosts_in m s ≡ f
  hosts_in-is m s f h = same_hosts m (hosts_in m s) f (hosts_in-stands m s) h

-- a host may be placed there: it isn't host 0 nor above the parent, and the one before which it comes is among the
-- children
pub record FitsPlace (parent child : ℕ) (before : Option ℕ) (f : Trees Host) : Type 0 where
  pub other : child ≢ 0
  pub child_in : has child f ≡ true
  pub parent_in : has parent f ≡ true
  pub apart : has parent (alone child f) ≡ false
  pub before_in : fits_before child before (children_of parent f) ≡ true
