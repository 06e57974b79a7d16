-- Records with links, and when a map of them stands for trees.
use Rattle.std.specs.Prelude.{ℕ, ◌+◌, ◌-◌, ◌^◌, ◌<◌, ◌≡◌, ◌==◌, ◌&&◌, is_none, if◌then◌else◌, List, length, Option, None, Some, option_map}
use Rattle.lx_trees.specs.Trees.{Trees}
use Rattle.lx_trees.specs.NamedTrees.{total}
use Rattle.lx_trees.specs.Siblings.{is_named, first_of, last_of, next_in, previous_in}
use Rattle.lx_trees.specs.Spots.{Spot, spot}
use Rattle.lx_trees.specs.Lookups.{parent_of, siblings, previous_of, next_of, first_child, last_child, size_of, IsOrdered}

-- a label with its links: to its parent, to its neighbours in its parent's list, and to the ends of its own list
pub record Record (A : Type 0) : Type 0 where
  pub label : A
  pub parent : Option ℕ
  pub prev : Option ℕ
  pub next : Option ℕ
  pub first : Option ℕ
  pub last : Option ℕ
  pub size : ℕ

-- the record of the name q that is there, among these siblings
abbrev pub linked : {A : Type 0} → List ℕ → ℕ → Spot A → Record A
linked among q s =
    record {
      label = s.label;
      parent = s.parent;
      prev = previous_in among q;
      next = next_in among q;
      first = first_of s.children;
      last = last_of s.children;
      size = length s.children;
    }

-- the record of a name, with the links that trees give it
abbrev pub record_at : {A : Type 0} → (A → ℕ) → Trees A → ℕ → Option (Record A)
record_at name f q = option_map (linked (siblings name f q) q) (spot name f q)

-- r is the record of the name q
pub record IsRecordOf {A : Type 0} (name : A → ℕ) (f : Trees A) (q : ℕ) (r : Record A) : Type 0 where
  pub label : option_map (λ (s : Spot A). s.label) (spot name f q) ≡ Some r.label
  pub parent : parent_of name f q ≡ r.parent
  pub prev : previous_of name f q ≡ r.prev
  pub next : next_of name f q ≡ r.next
  pub first : first_child name f q ≡ r.first
  pub last : last_child name f q ≡ r.last
  pub size : size_of name f q ≡ r.size

-- a map of records stands for trees in order
pub record StandsFor {A : Type 0} (name : A → ℕ) (get : ℕ → Option (Record A)) (f : Trees A) : Type 0 where
  pub in_order : IsOrdered name f
  pub same : (q : ℕ) → get q ≡ record_at name f q
  pub small : total f < 2 ^ 32

-- the record of a label without links
abbrev pub lone : {A : Type 0} → A → Record A
lone l = record { label = l; parent = None; prev = None; next = None; first = None; last = None; size = 0 }

-- a record with its label changed
abbrev pub relabelled : {A : Type 0} → (A → A) → Record A → Record A
relabelled change r =
    record { label = change r.label; parent = r.parent; prev = r.prev; next = r.next; first = r.first; last = r.last; size = r.size }

-- the record of a name once k was taken, whose own record was n
abbrev pub unlinked : {A : Type 0} → ℕ → Record A → ℕ → Record A → Record A
unlinked k n q r =
    record {
      label = r.label;
      parent = (if q == k then None else r.parent);
      prev = (if q == k then None else if is_named n.next q then n.prev else r.prev);
      next = (if q == k then None else if is_named n.prev q then n.next else r.next);
      first = (if is_named n.parent q && is_none n.prev then n.next else r.first);
      last = (if is_named n.parent q && is_none n.next then n.prev else r.last);
      size = (if is_named n.parent q then r.size - 1 else r.size);
    }

-- the record of a name once k was put below p, between the name after which it comes and the one before which it comes
abbrev pub linked_in : {A : Type 0} → ℕ → Option ℕ → Option ℕ → ℕ → ℕ → Record A → Record A
linked_in p behind before k q r =
    record {
      label = r.label;
      parent = (if q == k then Some p else r.parent);
      prev = (if q == k then behind else if is_named before q then Some k else r.prev);
      next = (if q == k then before else if is_named behind q then Some k else r.next);
      first = (if q == p && is_none behind then Some k else r.first);
      last = (if q == p && is_none before then Some k else r.last);
      size = (if q == p then r.size + 1 else r.size);
    }
