-- The root's tree of a forest, as it is read.
use Rattle.std.proofs.Common.{◌≡◌, ◌≢◌, ◌∙◌, ◌<◌, ℕ, true, cond, ltb, [], ◌∷◌, Option, None, option_map, refl, sym, ap, subst, arith}
use Rattle.std.proofs.lemmas.Bool.{ltb-true}
use Rattle.lx_trees.specs.Trees.{nil, tree}
use Rattle.lx_trees.specs.NamedTrees.{total}
use Rattle.lx_trees.proofs.NamedTrees.{names-alone}
use Rattle.lx_trees.proofs.Subtrees.{count-alone_self}
use Rattle.lx_node.specs.declared.node.Node.{Node}
use Rattle.lx_node.specs.Kinds.{may_hold}
use Rattle.lx_forest.specs.Forest.{Forest}
use Rattle.lx_forest.specs.Edits.{drop_detached}
use Rattle.lx_forest.specs.Lookups.{key_of, count, has, alone, roots, IsForest, IsHeld}
use Rattle.lx_forest.specs.Records.{record_at}
use Rattle.lx_forest.specs.Suited.{IsSuited}
use Rattle.lx_forest.proofs.Edits.{total-drop_detached-le}
use Rattle.lx_forest.proofs.Order.{IsForest-drop_detached}
use Rattle.lx_forest.proofs.Held.{IsHeld-drop_detached}
use Rattle.lx_forest.proofs.Records.{record_at-drop_detached}
use Rattle.lx_forest.proofs.Suited.{IsSuited-nil, IsSuited-drop_detached}
use Rattle.lx_links.specs.Stands.{node_of, Sound}

is_tree : (f : Forest) → alone 0 f ≡ drop_detached f
unfolding drop_detached
is_tree f = refl

not_nil : (f : Forest) (q : ℕ) → has q f ≡ true → f ≢ nil
not_nil nil q there e = absurd (cc)
not_nil (tree l b t) q there e = absurd (cc)

-- a forest is in order where a key is in the root's tree
pub tree_order : (f : Forest) (q : ℕ) → Sound f → has q (alone 0 f) ≡ true → IsForest f
tree_order f q s there = ordered f s (λ e. not_nil (alone 0 f) q there (ap (alone 0) e)) where
  ordered : (f : Forest) → Sound f → (f ≢ nil) → IsForest f
  ordered f s some = s.in_order some

pub tree_record : (f : Forest) (q : ℕ) → Sound f → has q (alone 0 f) ≡ true → record_at (alone 0 f) q ≡ record_at f q
tree_record f q s there =
    let h = tree_order f q s there in
    ap (λ g. record_at g q) (is_tree f) ∙ record_at-drop_detached f q h ∙ ap (λ b. cond b (record_at f q) None) there

pub tree_found : (f : Forest) (q : ℕ) (found : Option Node) → Sound f → found ≡ option_map node_of (record_at f q) → has q (alone 0 f) ≡ true
    → found ≡ option_map node_of (record_at (alone 0 f) q)
tree_found f q found s is there = is ∙ sym (ap (option_map node_of) (tree_record f q s there))

pub tree_sound : (f : Forest) → Sound f → Sound (alone 0 f)
tree_sound f s = record {
  in_order = λ some. subst IsForest (sym (is_tree f)) (IsForest-drop_detached f (s.in_order (λ e. some (ap (alone 0) e))));
  held = held_by f s;
  suited = suited_by f s;
  small = omega (arith, s.small, total-drop_detached-le f, ap total (is_tree f));
} where
  held_by : (f : Forest) → Sound f → IsHeld may_hold (alone 0 f)
  held_by nil s = record { each = λ q p e. absurd (cc) }
  held_by (tree l b t) s =
      subst (IsHeld may_hold) (sym (is_tree (tree l b t))) (IsHeld-drop_detached may_hold (tree l b t) (s.in_order (λ e. absurd (cc))) s.held)

  suited_by : (f : Forest) → Sound f → IsSuited (alone 0 f)
  suited_by nil s = IsSuited-nil
  suited_by (tree l b t) s = subst IsSuited (sym (is_tree (tree l b t))) (IsSuited-drop_detached (tree l b t) (s.in_order (λ e. absurd (cc))) s.suited)

pub tree_alone : (f : Forest) → has 0 f ≡ true → Sound (alone 0 f) → roots (alone 0 f) ≡ 0 ∷ []
tree_alone f there s =
    let own : count 0 (alone 0 f) ≡ count 0 f = count-alone_self key_of 0 f in
    let some : 0 < count 0 f = ltb-true 0 (count 0 f) there in
    let one : IsForest (alone 0 f) = s.in_order (λ e. omega (arith, some, own, ap (count 0) e)) in
    names-alone key_of 0 f (omega (arith, one.once 0, own, some))

pub tree_there : (f : Forest) → has 0 f ≡ true → has 0 (alone 0 f) ≡ true
tree_there f there = ap (λ n. ltb 0 n) (count-alone_self key_of 0 f) ∙ there
