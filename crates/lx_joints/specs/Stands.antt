-- When a table of entries stands for trees.
use Rattle.std.specs.Prelude.{ℕ, ◌≡◌, Option, option_map}
use Rattle.lx_trees.specs.Trees.{Trees}
use Rattle.lx_trees.specs.Records.{Record, StandsFor}
use Rattle.lx_joints.specs.declared.links.Links.{Links}

module _ {A : Type 0} where
  -- the links of a record
  abbrev pub links_of : Record A → Links
  links_of r = record { parent = r.parent; prev = r.prev; next = r.next; first = r.first; last = r.last; size = r.size }

  -- a record with these links
  abbrev pub with_links : Links → Record A → Record A
  with_links l r = record { label = r.label; parent = l.parent; prev = l.prev; next = l.next; first = l.first; last = l.last; size = l.size }

module _ {A E : Type 0} (record_of : ℕ → E → Record A) where
  -- the records of a table
  abbrev pub records : (ℕ → Option E) → ℕ → Option (Record A)
  records at q = option_map (record_of q) (at q)

  -- a table stands for trees in order, whose labels have these names
  abbrev pub Stands : (A → ℕ) → (ℕ → Option E) → Trees A → Type 0
  Stands name at f = StandsFor name (records at) f

-- entries are the records of their names, with their links
pub record AreRecords {A E : Type 0} (links : E → Links) (relinked : Links → E → E) (record_of : ℕ → E → Record A) (entry_of : Record A → E) : Type 0 where
  pub linked : (q : ℕ) (e : E) → links_of (record_of q e) ≡ links e
  pub relinked_is : (q : ℕ) (l : Links) (e : E) → record_of q (relinked l e) ≡ with_links l (record_of q e)
  pub back : (q : ℕ) (e : E) → entry_of (record_of q e) ≡ e
