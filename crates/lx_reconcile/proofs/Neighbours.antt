-- A child of a node as a reader sees it, among its siblings.
use Rattle.std.proofs.Common.{◌≡◌, ◌∙◌, ℕ, true, Option, Some, option_map, sym, ap}
use Rattle.lx_trees.specs.Siblings.{is_among, is_place, NoRepeats, next_in, previous_in}
use Rattle.lx_node.specs.declared.node.Node.{Node}
use Rattle.lx_forest.specs.Forest.{Forest}
use Rattle.lx_forest.specs.Lookups.{has, children_of, children_below, siblings, next_of}
use Rattle.lx_forest.specs.Records.{record_at}
use Rattle.lx_forest.proofs.Lookups.{NoRepeats-children_of}
use Rattle.lx_links.specs.Stands.{node_of, Sound}
use Rattle.lx_links.proofs.Placed.{parent_of-child}
use Rattle.lx_links.proofs.Read.{is_read}
use Rattle.lx_reconcile.proofs.Children.{child_left}

-- the siblings of a child are its parent's children
pub siblings_of : (f : Forest) (key child : ℕ) → Sound f → is_among child (children_of f key) ≡ true → siblings f child ≡ children_of f key
siblings_of f key child s among = ap (children_below f) (parent_of-child f child key s among)

-- its neighbours
pub record IsBeside (f : Forest) (key child : ℕ) (n : Node) : Type 0 where
  pub prev : n.prev ≡ previous_in (children_of f key) child
  pub next : n.next ≡ next_in (children_of f key) child

pub is_beside : (f : Forest) (key child : ℕ) (n : Node) → Sound f → is_among child (children_of f key) ≡ true → Some n ≡ option_map node_of (record_at f child)
    → IsBeside f key child n
is_beside f key child n s among e =
    let r = is_read f child n s e in
    record {
      prev = r.prev ∙ ap (λ xs. previous_in xs child) (siblings_of f key child s among);
      next = r.next ∙ ap (λ xs. next_in xs child) (siblings_of f key child s among);
    }

-- the next child that is read, where the forest has stayed
pub record IsNextIn (f g : Forest) (key child : ℕ) : Type 0 where
  pub there : has child g ≡ true
  pub once : NoRepeats (children_of f key)
  pub next : next_of g child ≡ next_in (children_of f key) child

pub is_next_in : (f g : Forest) (key child : ℕ) (at : Option ℕ) → g ≡ f → Sound f → at ≡ Some child → is_place at (children_of f key) ≡ true
    → IsNextIn f g key child
is_next_in f g key child at same s here place =
    let c = child_left f key child s (sym (ap (λ o. is_place o (children_of f key)) here) ∙ place) in
    record { there = ap (has child) same ∙ c.there; once = NoRepeats-children_of f key c.ordered; next = ap (λ f. next_of f child) same ∙ c.next }
