-- A node as a read of its key gives it.
use Rattle.std.proofs.Common.{◌≡◌, ◌∙◌, ℕ, true, Option, None, Some, option_map, is_some, refl, sym, ap}
use Rattle.std.proofs.lemmas.Option.{same_Some}
use Rattle.lx_trees.specs.Trees.{nil, tree}
use Rattle.lx_trees.specs.Siblings.{first_of, last_of}
use Rattle.lx_trees.specs.Spots.{Spot, children_at}
use Rattle.lx_node.specs.OfKind.{IsOfKind}
use Rattle.lx_node.specs.declared.kind.Kind.{Kind}
use Rattle.lx_node.specs.declared.fields.Fields.{Fields}
use Rattle.lx_node.specs.declared.node.Node.{Node}
use Rattle.lx_forest.specs.Forest.{Label, Forest}
use Rattle.lx_forest.specs.Lookups.{spot, has, alone, trees_of, label_of, children_of, first_child, last_child, siblings, next_of, IsForest, previous_of}
use Rattle.lx_forest.specs.Records.{linked, record_at}
use Rattle.lx_forest.specs.Suited.{is_suited}
use Rattle.lx_forest.proofs.Edits.{is_some-spot, key-spot}
use Rattle.lx_forest.proofs.Lookups.{alone-spot}
use Rattle.lx_links.specs.Stands.{node_of, Sound}
use Rattle.lx_links.proofs.Up.{in_order_at}

abbrev pub label_from : ℕ → Node → Label
label_from key n = record { key = key; kind = n.kind; fields = n.fields }

label_same : (l : Label) (key : ℕ) (kind : Kind) (fields : Fields) → l.key ≡ key → kind ≡ l.kind → fields ≡ l.fields
    → l ≡ record { key = key; kind = kind; fields = fields }
label_same l key kind fields e f g = rw (← e, f, g) refl

-- what a read says of a node
pub record IsRead (f : Forest) (key : ℕ) (n : Node) : Type 0 where
  pub ordered : IsForest f
  pub at : Spot Label
  pub at_is : spot f key ≡ Some at
  pub label : at.label ≡ label_from key n
  pub first : n.first ≡ first_child f key
  pub last : n.last ≡ last_child f key
  pub parent : n.parent ≡ at.parent
  pub prev : n.prev ≡ previous_of f key
  pub next : n.next ≡ next_of f key

pub is_read : (f : Forest) (key : ℕ) (n : Node) → Sound f → Some n ≡ option_map node_of (record_at f key) → IsRead f key n
is_read f key n s e = from_spot (spot f key) refl e where
  from_spot : (o : Option (Spot Label)) → spot f key ≡ o → Some n ≡ option_map node_of (option_map (linked (siblings f key) key) o) → IsRead f key n
  from_spot None at e = absurd (cc)
  from_spot (Some x) at e =
      let same : n ≡ node_of (linked (siblings f key) key x) = same_Some n (node_of (linked (siblings f key) key x)) e in
      let there : has key f ≡ true = sym (is_some-spot f key) ∙ ap is_some at in
      record {
        ordered = in_order_at f key s there;
        at = x;
        at_is = at;
        label = label_same x.label key n.kind n.fields (key-spot f key x at) (ap (λ (n : Node). n.kind) same) (ap (λ (n : Node). n.fields) same);
        first = ap (λ (n : Node). n.first) same ∙ sym (ap (λ o. first_of (children_at o)) at);
        last = ap (λ (n : Node). n.last) same ∙ sym (ap (λ o. last_of (children_at o)) at);
        parent = ap (λ (n : Node). n.parent) same;
        prev = ap (λ (n : Node). n.prev) same;
        next = ap (λ (n : Node). n.next) same;
      }

pub there_read : (f : Forest) (k : ℕ) (n : Node) → IsRead f k n → has k f ≡ true
there_read f k n r = sym (is_some-spot f k) ∙ ap is_some r.at_is

pub label_read : (f : Forest) (k : ℕ) (n : Node) → IsRead f k n → label_of f k ≡ Some (label_from k n)
label_read f k n r = ap (option_map (λ (s : Spot Label). s.label)) r.at_is ∙ ap (λ l. Some l) r.label

-- its tree
pub tree_read : (f : Forest) (key : ℕ) (n : Node) → IsRead f key n → alone key f ≡ tree (label_from key n) (trees_of f (children_of f key)) nil
tree_read f key n r =
    alone-spot f key r.at r.ordered r.at_is
    ∙ ap (λ l. tree l (trees_of f r.at.children) nil) r.label
    ∙ sym (ap (λ o. tree (label_from key n) (trees_of f (children_at o)) nil) r.at_is)

-- its fields are of its kind
pub kind_read : (f : Forest) (key : ℕ) (n : Node) → Sound f → IsRead f key n → IsOfKind n.kind n.fields
kind_read f key n s r = sym (ap is_suited (label_read f key n r)) ∙ s.suited.each key
