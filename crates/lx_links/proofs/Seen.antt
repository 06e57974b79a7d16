-- What a node shows of the forest, and what its absence shows.
use Rattle.std.proofs.Common.{ℕ, ◌≡◌, true, false, length, [], Option, None, Some, option_map, is_some, Bor, refl, sym, ap, ◌∙◌}
use Rattle.std.specs.Option.{option_copied}
use Rattle.lx_trees.specs.Spots.{Spot, parent_at, children_at}
use Rattle.lx_trees.specs.Siblings.{first_of, last_of}
use Rattle.lx_node.specs.declared.node.Node.{Node}
use Rattle.lx_forest.specs.Forest.{Forest, Label}
use Rattle.lx_forest.specs.Lookups.{key_of, spot, has, kind_of, fields_of, parent_of, children_of, size_of, previous_of, next_of, first_child, last_child, siblings}
use Rattle.lx_forest.specs.Records.{record_at, linked}
use Rattle.lx_forest.proofs.Edits.{is_some-spot}
pub use Rattle.lx_joints.proofs.Stands.{is_some-map}
use Rattle.lx_joints.proofs.Stands as stands
use Rattle.lx_links.specs.Stands.{node_of}

pub record Seen (f : Forest) (q : ℕ) (n : Node) : Type 0 where
  pub has : has q f ≡ true
  pub kind : kind_of f q ≡ Some n.kind
  pub fields : fields_of f q ≡ Some n.fields
  pub parent : n.parent ≡ parent_of f q
  pub prev : n.prev ≡ previous_of f q
  pub next : n.next ≡ next_of f q
  pub first : n.first ≡ first_child f q
  pub last : n.last ≡ last_child f q
  pub size : n.size ≡ size_of f q

record Reads (f : Forest) (q : ℕ) (o : Option (Spot Label)) (n : Node) : Type 0 where
  pub there : is_some o ≡ true
  pub kind : option_map (λ l. l.kind) (option_map (λ s. s.label) o) ≡ Some n.kind
  pub fields : option_map (λ l. l.fields) (option_map (λ s. s.label) o) ≡ Some n.fields
  pub parent : n.parent ≡ parent_at o
  pub prev : n.prev ≡ previous_of f q
  pub next : n.next ≡ next_of f q
  pub first : n.first ≡ first_of (children_at o)
  pub last : n.last ≡ last_of (children_at o)
  pub size : n.size ≡ length (children_at o)

reads : (f : Forest) (q : ℕ) (o : Option (Spot Label)) (n : Node) → Some n ≡ option_map node_of (option_map (linked (siblings f q) q) o) → Reads f q o n
reads f q None n e = cc
reads f q (Some s) n e =
    record { there = refl; kind = cc; fields = cc; parent = cc; prev = cc; next = cc; first = cc; last = cc; size = cc }

pub seen : (f : Forest) (q : ℕ) (n : Node) → Some n ≡ option_map node_of (record_at f q) → Seen f q n
seen f q n e =
    let h = reads f q (spot f q) n e in
    record {
      has = sym (is_some-spot f q) ∙ h.there;
      kind = h.kind;
      fields = h.fields;
      parent = h.parent;
      prev = h.prev;
      next = h.next;
      first = h.first;
      last = h.last;
      size = h.size;
    }

-- over the answer of a call
pub seen_in : (o : Option (Bor Node)) (n : Bor Node) (f : Forest) (q : ℕ) → option_copied o ≡ option_map node_of (record_at f q) → o ≡ Some n → Seen f q n.now
seen_in o n f q e h = seen f q n.now (sym (ap option_copied h) ∙ e)

pub is_some_in : (o : Option (Bor Node)) (f : Forest) (q : ℕ) → option_copied o ≡ option_map node_of (record_at f q) → is_some o ≡ has q f
is_some_in = stands.is_some_in key_of node_of

-- where a key isn't in a forest, nothing is said of it
none_of : {A : Type 0} (o : Option A) → is_some o ≡ false → o ≡ None
none_of None e = refl
none_of (Some x) e = cc

pub no_spot : (f : Forest) (q : ℕ) → has q f ≡ false → spot f q ≡ None
no_spot f q h = none_of (spot f q) (is_some-spot f q ∙ h)

pub absent_in : (o : Option (Bor Node)) (f : Forest) (q : ℕ) → option_copied o ≡ option_map node_of (record_at f q) → o ≡ None → has q f ≡ false
absent_in o f q e h = sym (is_some_in o f q e) ∙ ap is_some h

pub no_children : (f : Forest) (q : ℕ) → has q f ≡ false → children_of f q ≡ []
no_children f q h = ap children_at (no_spot f q h)
