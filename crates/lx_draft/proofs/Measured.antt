-- How deep a walk through the tree has been, and what is left to walk.
use Rattle.std.proofs.Common.{◌≡◌, ℕ, max, List, [], ◌∷◌, Option, None, Some, IfSome, IfNone, unwrap_or, sym, ap, ◌∙◌, arith, rules}
use Rattle.std.specs.Ordering.{ord_max, nat_cmp}
use Rattle.lx_forest.specs.Forest.{Forest}
use Rattle.lx_forest.specs.Lookups.{depth, from, preorder, IsForest}
use Rattle.lx_forest.proofs.Walks.{from-root, depth-root}
use Rattle.lx_draft.specs.Freezing.{greatest, depth_at}

-- the keys from this one on, if there is one
abbrev pub left_from : Forest → Option (ℕ × ℕ) → List ℕ
left_from f None = []
left_from f (Some at) = from f at.0

-- and it is so deep
abbrev pub IsAt : Forest → Option (ℕ × ℕ) → Type 0
IsAt f None = Unit {0}
IsAt f (Some at) = depth f at.0 ≡ Some at.1

pub record IsMeasured (f : Forest) (deepest : ℕ) (at : Option (ℕ × ℕ)) (whole : List ℕ) : Type 0 where
  pub depth : max deepest (greatest (depth_at f) (left_from f at)) ≡ greatest (depth_at f) whole
  pub here : IsAt f at

-- ---- one key more

-- the keys from one on are that one and those from the next one on
pub left-step : (o : Option (ℕ × ℕ)) (f : Forest) (q : ℕ) → IfSome o (λ next. from f q ≡ q ∷ from f next.0) → IfNone o (from f q ≡ q ∷ [])
    → from f q ≡ q ∷ left_from f o
left-step None f q next last = last
left-step (Some at) f q next last = next

pub at_next : (o : Option (ℕ × ℕ)) (f : Forest) → IfSome o (λ next. depth f next.0 ≡ Some next.1) → IsAt f o
at_next None f h = tt
at_next (Some at) f h = h

max_more : (deepest d newest rest whole : ℕ) → newest ≡ max deepest d → max deepest (max d rest) ≡ whole → max newest rest ≡ whole
max_more deepest d newest rest whole e h = omega (arith, e, h)

measured_step : (o : Option (ℕ × ℕ)) (f : Forest) (deepest q d newest : ℕ) (whole : List ℕ) → IsMeasured f deepest (Some (q, d)) whole → newest ≡ max deepest d
    →
    from f q ≡ q ∷ left_from f o → IfSome o (λ next. depth f next.0 ≡ Some next.1) → IsMeasured f newest o whole
measured_step o f deepest q d newest whole m deeper step deep =
    record {
      depth =
          max_more deepest d newest (greatest (depth_at f) (left_from f o)) (greatest (depth_at f) whole) deeper
          (ap (λ n. max deepest (max n (greatest (depth_at f) (left_from f o)))) (sym (ap (λ o. unwrap_or o 0) m.here))
          ∙ ap (λ ks. max deepest (greatest (depth_at f) ks)) (sym step)
          ∙ m.depth);
      here = at_next o f deep;
    }

pub max_is : (a b : ℕ) → ord_max nat_cmp a b ≡ max a b
max_is a b = search rules

pub measured_more : (at o : Option (ℕ × ℕ)) (f : Forest) (deepest q d newest : ℕ) (whole : List ℕ) → IsMeasured f deepest at whole → newest ≡ max deepest d →
    IfSome o (λ next. from f q ≡ q ∷ from f next.0) → IfNone o (from f q ≡ q ∷ []) → IfSome o (λ next. depth f next.0 ≡ Some next.1) → at ≡ Some (q, d)
    → IsMeasured f newest o whole
measured_more at o f deepest q d newest whole m deeper next last deep is =
    measured_step o f deepest q d newest whole (rw is at m) deeper (left-step o f q next last) deep

-- ---- first and last

max_none : (n : ℕ) → max 0 n ≡ n
max_none n = omega arith

pub measured_none : (f : Forest) → IsForest f → IsMeasured f 0 (Some (0, 0)) (preorder f)
measured_none f h =
    record {
      depth = max_none (greatest (depth_at f) (from f 0)) ∙ ap (greatest (depth_at f)) (from-root f h);
      here = depth-root f h;
    }
