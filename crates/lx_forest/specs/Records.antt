-- Records of nodes with links, and when a map of them stands for a forest.
use Rattle.std.specs.Prelude.{ℕ, ◌^◌, ◌<◌, ◌≡◌, ◌==◌, if◌then◌else◌, Option}
use Rattle.lx_trees.specs.NamedTrees.{total}
use Rattle.lx_node.specs.declared.fields.Fields.{Fields}
pub use Rattle.lx_trees.specs.Records.{linked, lone, unlinked, linked_in}
use Rattle.lx_trees.specs.Records as rooted
use Rattle.lx_forest.specs.Forest.{Label, Forest}
use Rattle.lx_forest.specs.Lookups.{key_of, IsForest}

-- a node with its links
abbrev pub Record : Type 0
Record = rooted.Record Label

-- the record of a key
abbrev pub record_at : Forest → ℕ → Option Record
record_at f q = rooted.record_at key_of f q

-- r is the record of the key q
abbrev pub IsRecordOf : Forest → ℕ → Record → Type 0
IsRecordOf f q r = rooted.IsRecordOf key_of f q r

-- a map of records stands for a forest in order, which has fewer than 2 ^ 32 nodes, so that each size fits: at each key
-- it has the forest's record
pub record StandsFor (get : ℕ → Option Record) (f : Forest) : Type 0 where
  pub in_order : IsForest f
  pub same : (q : ℕ) → get q ≡ record_at f q
  pub small : total f < 2 ^ 32

-- ---- what an edit does to the record at q

-- the record of a key once the fields of k were set
abbrev pub refielded : ℕ → Fields → ℕ → Record → Record
refielded k fields q r =
    record r {
      label = record { key = r.label.key; kind = r.label.kind; fields = (if q == k then fields else r.label.fields) };
    }
