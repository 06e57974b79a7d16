-- A walk through the tree that marks each node.
use Rattle.std.proofs.Common.{◌≡◌, ◌∙◌, ℕ, ◌<◌, [], ◌∷◌, length, Option, None, Some, IfSome, IfNone, Ok, refl, sym, ap, subst, arith}
use Rattle.lx_forest.specs.Forest.{Forest}
use Rattle.lx_forest.specs.Lookups.{depth, from, preorder, IsForest}
use Rattle.lx_forest.proofs.Walks.{from-root, depth-root}
use Rattle.lx_links.specs.Faults.{unknown}
use Rattle.lx_draft.specs.Working.{Working}
use Rattle.lx_draft.specs.Marking.{marked_in}
use Rattle.lx_draft.specs.Steps.{mark_uncounted_step}
use Rattle.lx_draft.proofs.Covered.{answered}
use Rattle.lx_draft.proofs.Measured.{left_from, IsAt, left-step, at_next}

-- what is marked, and what is left to mark, come to all
pub record IsMarkedTo (first w : Working) (at : Option (ℕ × ℕ)) : Type 0 where
  pub forest : w.forest ≡ first.forest
  pub all : marked_in first.forest (left_from first.forest at) w ≡ marked_in first.forest (preorder first.forest) first
  pub here : IsAt first.forest at

pub marked_none : (w : Working) → IsForest w.forest → IsMarkedTo w w (Some (0, 0))
marked_none w order = record {
  forest = refl;
  all = ap (λ ks. marked_in w.forest ks w) (from-root w.forest order);
  here = depth-root w.forest order;
}

-- a mark leaves the forest
pub marked_by : (q : ℕ) (w v : Working) → mark_uncounted_step q w ≡ Ok v → marked_in w.forest (q ∷ []) w ≡ v
unfolding mark_uncounted_step
marked_by q w v e = (answered (unknown w.forest q) (marked_in w.forest (q ∷ []) w) v e).1

pub forest_by : (first w v : Working) (at : Option (ℕ × ℕ)) (q : ℕ) → IsMarkedTo first w at → mark_uncounted_step q w ≡ Ok v → v.forest ≡ first.forest
forest_by first w v at q m e = ap (λ (x : Working). x.forest) (sym (marked_by q w v e)) ∙ m.forest

pub depth_by : (first w v : Working) (at : Option (ℕ × ℕ)) (q d : ℕ) (g : Forest) → IsMarkedTo first w at → mark_uncounted_step q w ≡ Ok v → g ≡ v.forest
    → at ≡ Some (q, d) → depth g q ≡ Some d
depth_by first w v at q d g m e own is = ap (λ f. depth f q) (own ∙ forest_by first w v at q m e) ∙ subst (λ o. IsAt first.forest o) is m.here

pub marked_more : (first w v : Working) (at o : Option (ℕ × ℕ)) (q d : ℕ) (g : Forest) → IsMarkedTo first w at → mark_uncounted_step q w ≡ Ok v → g ≡ v.forest
    → IfSome o (λ next. from g q ≡ q ∷ from g next.0) → IfNone o (from g q ≡ q ∷ []) → IfSome o (λ next. depth g next.0 ≡ Some next.1) → at ≡ Some (q, d)
    → IsMarkedTo first v o
marked_more first w v at o q d g m e own next last deep is =
    let same : v.forest ≡ first.forest = forest_by first w v at q m e in
    let left : from first.forest q ≡ q ∷ left_from first.forest o = subst (λ f. from f q ≡ q ∷ left_from f o) (own ∙ same) (left-step o g q next last) in
    record {
      forest = same;
      all =
          ap (marked_in first.forest (left_from first.forest o)) (sym (ap (λ f. marked_in f (q ∷ []) w) (sym m.forest) ∙ marked_by q w v e))
          ∙ ap (λ ks. marked_in first.forest ks w) (sym left)
          ∙ ap (λ x. marked_in first.forest (left_from first.forest x) w) (sym is)
          ∙ m.all;
      here = subst (λ f. IsAt f o) (own ∙ same) (at_next o g deep);
    }

-- fewer are left
pub fewer : (first w v : Working) (at o : Option (ℕ × ℕ)) (q d : ℕ) (g : Forest) → IsMarkedTo first w at → mark_uncounted_step q w ≡ Ok v → g ≡ v.forest
    → IfSome o (λ next. from g q ≡ q ∷ from g next.0) → IfNone o (from g q ≡ q ∷ []) → at ≡ Some (q, d)
    → length (left_from v.forest o) < length (left_from w.forest at)
fewer first w v at o q d g m e own next last is =
    let same : v.forest ≡ w.forest = forest_by first w v at q m e ∙ sym m.forest in
    let left : from w.forest q ≡ q ∷ left_from v.forest o =
    sym (ap (λ f. from f q) same) ∙ subst (λ f. from f q ≡ q ∷ left_from f o) own (left-step o g q next last) in
    let whole : left_from w.forest at ≡ q ∷ left_from v.forest o = ap (left_from w.forest) is ∙ left in
    omega (arith, ap length whole)
