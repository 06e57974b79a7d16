-- What a node shows at a glance is what its view shows.
use Rattle.std.proofs.Common.{◌≡◌, ◌≢◌, ◌∙◌, ℕ, true, List, [], ◌∷◌, Option, None, Some, option_map, is_none, refl, sym, ap, arith, inl, inr}
use Rattle.std.proofs.lemmas.Bool.Decides.{eqb_tells}
use Rattle.lx_trees.specs.Trees.{nil}
use Rattle.lx_trees.specs.Siblings.{is_among, first_of}
use Rattle.lx_trees.specs.Spots.{Spot}
use Rattle.lx_node.specs.declared.node.Node.{Node}
use Rattle.lx_forest.specs.Forest.{Forest, Label}
use Rattle.lx_forest.specs.Lookups.{kind_of, has, spot, siblings, IsForest}
use Rattle.lx_forest.specs.Records.{record_at, linked}
use Rattle.lx_forest.specs.Views.{kind_at, kinds_of, viewed, view_of}
use Rattle.lx_forest.proofs.Walks.{cases_option}
use Rattle.lx_links.specs.Stands.{node_of, Sound}
use Rattle.lx_rules.specs.Glances.{glance_of, has_no_kinds}
use Rattle.lx_rules.specs.declared.glance.Glance.{Glance}
use Rattle.lx_settle.proofs.Seen.{is_some-kind_of, has-below}

-- ---- children have kinds

no_kinds : (f : Forest) (ks : List ℕ) → ((k : ℕ) → is_among k ks ≡ true → has k f ≡ true) → has_no_kinds (kinds_of f ks) ≡ is_none (first_of ks)
no_kinds f [] there = refl
no_kinds f (x ∷ xs) there =
    elim (cases_option (kind_of f x)) [
      | inl none ↦ absurd (grind (arith, there x (grind (arith, eqb_tells x x)), is_some-kind_of f x, none))
      | inr (kind, is) ↦ rw is refl
    ]

-- ---- a node

abbrev glance_from : Forest → Node → Glance
glance_from f node =
    record {
      kind = node.kind;
      parent = kind_at f node.parent;
      prev = kind_at f node.prev;
      next = kind_at f node.next;
      is_childless = is_none node.first;
    }

glanced_at : (f : Forest) (k : ℕ) (s : Spot Label) → IsForest f → spot f k ≡ Some s → glance_of (viewed f k s) ≡ glance_from f (node_of (linked (siblings f k) k s))
glanced_at f k s h at = rw (no_kinds f s.children (λ x among. has-below f (Some k) x h (grind (arith, among, at)))) refl

glanced_by : (f : Forest) (k : ℕ) (at : Option (Spot Label)) → spot f k ≡ at → Sound f → (node : Node) → Some node ≡ option_map node_of (record_at f k)
    → option_map glance_of (view_of f k) ≡ Some (glance_from f node)
glanced_by f k None e sound node is = absurd (cc)
glanced_by f k (Some s) e sound node is =
    let same : node ≡ node_of (linked (siblings f k) k s) = cc in
    ap (λ o. option_map glance_of (option_map (viewed f k) o)) e
    ∙ ap Some (glanced_at f k s (sound.in_order (is_there f k s e)) e ∙ ap (glance_from f) (sym same)) where
      is_there : (g : Forest) (q : ℕ) (t : Spot Label) → spot g q ≡ Some t → g ≢ nil
      is_there g q t there none = absurd (cc)

-- the node of a key at a glance, by its record
pub glanced : (f : Forest) (k : ℕ) (node : Node) → Sound f → Some node ≡ option_map node_of (record_at f k)
    → option_map glance_of (view_of f k) ≡ Some (glance_from f node)
glanced f k node sound is = glanced_by f k (spot f k) refl sound node is
