-- The first node after a point, as a step of a walk.
use Rattle.std.proofs.Common.{◌≡◌, ◌∙◌, ℕ, ◌+◌, ◌<◌, ◌^◌, true, [], ◌∷◌, Option, None, Some, refl, sym, ap, arith}
use Rattle.std.specs.Prelude.{option_map, slice_get, drop, IfSome, IfNone}
use Rattle.lx_trees.specs.Siblings.{first_of}
use Rattle.lx_trees.proofs.Positions.{is_among-slice_get}
use Rattle.lx_forest.specs.Forest.{Forest}
use Rattle.lx_forest.specs.Lookups.{has, parent_of, children_of, is_attached, depth, from, IsForest}
use Rattle.lx_forest.proofs.Walks.{depth-step}
use Rattle.lx_links.specs.Stands.{Sound}
use Rattle.lx_links.proofs.Ordered.{there_within, deep}
use Rattle.lx_links.proofs.Placed.{parent_of-child}
use Rattle.lx_links.proofs.Up.{in_order, in_order_at, few_up}
use Rattle.lx_node.specs.declared.cause.Point.{Point}
use Rattle.lx_blocks.specs.Places.{until, nodes_behind}
use Rattle.lx_blocks.specs.Walks.{left_from, IsAt, key_of_step}
use Rattle.lx_blocks.proofs.Gathered.{next_left, next_at}
use Rattle.lx_blocks.proofs.Stretches.{first_from}

-- what is attached is there, and its forest is in order
pub attached_there : (f : Forest) (q : ℕ) → is_attached f q ≡ true → has q f ≡ true
attached_there f q attached = there_within f 0 q attached

pub in_order_with : (f : Forest) (q : ℕ) → Sound f → is_attached f q ≡ true → IsForest f
in_order_with f q s attached = in_order_at f q s (attached_there f q attached)

pub record IsChild (f : Forest) (q c d : ℕ) : Type 0 where
  pub up : parent_of f c ≡ Some q
  pub deeper : depth f c ≡ Some (d + 1)
  pub few : d + 1 < 2 ^ 32

pub child_at : (f : Forest) (q c i d : ℕ) → Sound f → depth f q ≡ Some d → slice_get (children_of f q) i ≡ Some c → IsChild f q c d
child_at f q c i d s e at =
    let up : parent_of f c ≡ Some q = parent_of-child f c q s (is_among-slice_get (children_of f q) c i at) in
    let deeper : depth f c ≡ Some (d + 1) = depth-step f c q (in_order f c q s up) up ∙ ap (option_map (λ d. d + 1)) e in
    record {
      up = up;
      deeper = deeper;
      few = omega (arith, (deep f c (d + 1) deeper).1, few_up f c s);
    }

-- a step's key is the first of what is left from it
pub first_left : (f : Forest) (step : Option (ℕ × ℕ)) → IsAt f step → key_of_step step ≡ first_of (left_from f step)
first_left f None at = refl
first_left f (Some step) at = sym (first_from f step.0 (deep f step.0 step.1 at).0)

-- what is left up to the step from another point
pub left_until : (f : Forest) (start end : Point) (from_step stop : Option (ℕ × ℕ)) → IsAt f stop → left_from f from_step ≡ nodes_behind f start
    → left_from f stop ≡ nodes_behind f end →
    until (key_of_step stop) (left_from f from_step) ≡ until (first_of (nodes_behind f end)) (nodes_behind f start)
left_until f start end from_step stop at left is =
    ap (λ ks. until (key_of_step stop) ks) left ∙ ap (λ o. until o (nodes_behind f start)) (first_left f stop at ∙ ap first_of is)

-- the first node after one, as a step that the walk takes from it
pub next_key : (o : Option (ℕ × ℕ)) (f : Forest) (q : ℕ) → IfSome o (λ next. from f q ≡ q ∷ from f next.0) → IfNone o (from f q ≡ q ∷ [])
    → IfSome o (λ next. depth f next.0 ≡ Some next.1) →
    key_of_step o ≡ first_of (drop 1 (from f q))
next_key o f q next last deep =
    first_left f o (next_at o f deep) ∙ ap (λ ks. first_of (drop 1 ks)) (sym (next_left o f q next last))
