-- What all nodes of a forest weigh together, after each edit.
use Rattle.std.proofs.Common.{◌≡◌, ℕ, ◌+◌, ◌*◌, ◌<◌, ◌≤◌, true, false, cond, List, [], ◌∷◌, ◌++◌, Option, None, Some, refl, sym, ap, ◌∙◌, subst, arith, inl, inr}
use Rattle.std.specs.Prelude.{sum_by}
use Rattle.std.proofs.lemmas.List.Sums.{sum_by-cons, sum_by-append}
use Rattle.std.proofs.lemmas.Bool.Decides.{eqb_tells}
use Rattle.lx_trees.specs.Trees.{nil, tree, joined}
use Rattle.lx_trees.specs.NamedTrees.{total, inserted, put_below, mapped}
use Rattle.lx_trees.specs.NamedTrees as named
use Rattle.lx_trees.specs.Siblings.{is_among, NoRepeats, names_without}
use Rattle.lx_trees.specs.Spots.{Spot, spot_below}
use Rattle.lx_node.specs.declared.fields.Fields.{Fields}
use Rattle.lx_trees.proofs.NamedTrees.{put_below-absent, count-without-alone}
use Rattle.lx_trees.proofs.Subtrees.{alone-alone, count-alone_self}
use Rattle.lx_trees.proofs.Siblings.{is_among-names_without, names_without-absent_list}
use Rattle.lx_trees.proofs.Positions.{NoRepeats-names_without}
use Rattle.lx_trees.proofs.Spots.{spot_below-absent}
use Rattle.lx_trees.specs.Edits as rooted
use Rattle.lx_forest.specs.Forest.{Label, Forest}
use Rattle.lx_forest.specs.Lookups.{key_of, count, has, roots, alone, without, trees_of, spot, is_within, preorder, IsForest}
use Rattle.lx_forest.specs.Edits.{among_roots, with_new, fields_at, with_fields, take_out, put_in, drop_detached}
use Rattle.lx_forest.specs.Weights.{weight, weight_at}
use Rattle.lx_forest.proofs.Edits.{outside_once, has-root}
use Rattle.lx_forest.proofs.Lookups.{alone-spot, trees_of-roots}
use Rattle.lx_forest.proofs.Walks.{spot_in_tree, tree_distinct}

module _ (of : Label → ℕ) where
  pub weight-joined : (s t : Forest) → weight of (joined s t) ≡ weight of s + weight of t
  weight-joined nil t = omega arith
  weight-joined (tree l below rest) t = omega (arith, weight-joined rest t)

  pub weight-among_roots : (k : ℕ) (new f : Forest) → weight of (among_roots k new f) ≡ weight of new + weight of f
  weight-among_roots k new nil = omega arith
  weight-among_roots k new (tree l below rest) = grind (arith, weight-among_roots k new rest, weight-joined new (tree l below rest))

  pub weight-without-alone : (k : ℕ) (t : Forest) → weight of (without k t) + weight of (alone k t) ≡ weight of t
  weight-without-alone k nil = omega arith
  weight-without-alone k (tree l below rest) =
      grind (arith, weight-without-alone k below, weight-without-alone k rest, weight-joined (alone k below) (alone k rest))

  pub weight-inserted : (before : Option ℕ) (new t : Forest) → weight of (inserted key_of before new t) ≡ weight of new + weight of t
  weight-inserted before new nil = omega arith
  weight-inserted before new (tree l below rest) = grind (arith, weight-inserted before new rest, weight-joined new (tree l below rest))

  pub weight-put_below : (p : ℕ) (before : Option ℕ) (new t : Forest) → count p t ≡ 1
      → weight of (put_below key_of p before new t) ≡ weight of new + weight of t
  weight-put_below p before new nil once = absurd (omega arith)
  weight-put_below p before new (tree l below rest) once =
      grind (arith, weight-put_below p before new below, weight-put_below p before new rest, weight-inserted before new below, put_below-absent key_of p before new below, put_below-absent key_of p before new rest)

  -- ---- after each edit

  pub weight-with_new : (l : Label) (f : Forest) → weight of (with_new l f) ≡ of l + weight of f
  unfolding with_new rooted.with_new
  weight-with_new l f = omega (arith, weight-among_roots l.key (tree l nil nil) f)

  pub weight-take_out : (k : ℕ) (f : Forest) → weight of (take_out k f) ≡ weight of f
  unfolding take_out rooted.take_out
  weight-take_out k f = omega (arith, weight-among_roots k (alone k f) (without k f), weight-without-alone k f)

  pub weight-put_in : (p : ℕ) (before : Option ℕ) (k : ℕ) (f : Forest) → IsForest f → has p f ≡ true → is_within f k p ≡ false
      → weight of (put_in p before k f) ≡ weight of f
  unfolding put_in rooted.put_in
  weight-put_in p before k f h there outside =
      omega (arith, weight-put_below p before (alone k f) (without k f) (outside_once p k f h there outside), weight-without-alone k f)

  pub weight-drop_detached : (f : Forest) → weight of (drop_detached f) + weight of (without 0 f) ≡ weight of f
  unfolding drop_detached
  weight-drop_detached f = omega (arith, weight-without-alone 0 f)

  weight-absent : (k : ℕ) (fields : Fields) (t : Forest) → count k t ≡ 0 → weight of (mapped (fields_at k fields) t) ≡ weight of t
  weight-absent k fields nil none = refl
  weight-absent k fields (tree l below rest) none = grind (arith, weight-absent k fields below, weight-absent k fields rest)

  -- the label that is written weighs differently
  weight-mapped : (r : Option ℕ) (k : ℕ) (fields : Fields) (t : Forest) (s : Spot Label) → count k t < 2 → spot_below key_of r t k ≡ Some s →
      weight of (mapped (fields_at k fields) t) + of s.label ≡ weight of t + of (fields_at k fields s.label)
  weight-mapped r k fields nil s once e = absurd (grind (arith, e))
  weight-mapped r k fields (tree l below rest) s once e =
      elim (eqb_tells l.key k) [
        | inl own ↦
            let same : s ≡ record { label = l; parent = r; children = named.names key_of below } = grind (arith, e, own.0) in
            grind (arith, own, same, once, weight-absent k fields below, weight-absent k fields rest)
        | inr other ↦
            grind (arith, other, once, e, spot_below-absent key_of (Some l.key) below k, spot_below-absent key_of r rest k, weight-absent k fields below, weight-absent k fields rest, weight-mapped (Some l.key) k fields below s, weight-mapped r k fields rest s)
      ]

  pub weight-with_fields : (k : ℕ) (fields : Fields) (f : Forest) (s : Spot Label) → IsForest f → spot f k ≡ Some s
      → weight of (with_fields k fields f) + of s.label ≡ weight of f + of (fields_at k fields s.label)
  unfolding with_fields
  weight-with_fields k fields f s h e = weight-mapped None k fields f s (h.once k) e

  -- ---- as a sum over keys

  pub weight-trees_of : (f : Forest) (ks : List ℕ) → weight of (trees_of f ks) ≡ sum_by (weight_at of f) ks
  weight-trees_of f [] = refl
  weight-trees_of f (k ∷ ks) = omega (arith, weight-joined (alone k f) (trees_of f ks), weight-trees_of f ks, sum_by-cons (weight_at of f) k ks)

  -- a tree weighs what its label does, and the trees of its children
  pub weight-alone : (f : Forest) (k : ℕ) (s : Spot Label) → IsForest f → spot f k ≡ Some s → weight_at of f k ≡ of s.label + sum_by (weight_at of f) s.children
  weight-alone f k s h e = ap (weight of) (alone-spot f k s h e) ∙ omega (arith, weight-trees_of f s.children)

  pub weight-roots : (f : Forest) → IsForest f → sum_by (weight_at of f) (roots f) ≡ weight of f
  weight-roots f h = sym (weight-trees_of f (roots f)) ∙ ap (weight of) (trees_of-roots f h)

  weight-below : (g : ℕ → ℕ) (r : Option ℕ) (t : Forest) → ((q : ℕ) → count q t < 2)
      → ((q : ℕ) (s : Spot Label) → spot_below key_of r t q ≡ Some s → g q ≡ of s.label) → sum_by g (named.preorder key_of t) ≡ weight of t
  weight-below g r nil once told = refl
  weight-below g r (tree l below rest) once told =
      let own : g l.key ≡ of l = told l.key (record { label = l; parent = r; children = named.names key_of below }) (grind (arith, eqb_tells l.key l.key)) in
      let inner =
      weight-below g (Some l.key) below (λ q. omega (arith, once q))
      (λ q s e. told q s (grind (arith, e, once q, eqb_tells l.key q, spot_below-absent key_of (Some l.key) below q))) in
      let outer =
      weight-below g r rest (λ q. omega (arith, once q))
      (λ q s e. told q s (grind (arith, e, once q, eqb_tells l.key q, spot_below-absent key_of (Some l.key) below q, spot_below-absent key_of r rest q))) in
      omega (arith, own, inner, outer, sum_by-cons g l.key (named.preorder key_of below ++ named.preorder key_of rest), sum_by-append g (named.preorder key_of below) (named.preorder key_of rest))

  -- the attached keys weigh what is left when the others are dropped
  pub weight-preorder : (g : ℕ → ℕ) (f : Forest) → IsForest f → ((q : ℕ) (s : Spot Label) → spot f q ≡ Some s → g q ≡ of s.label)
      → sum_by g (preorder f) ≡ weight of (drop_detached f)
  unfolding drop_detached
  weight-preorder g f h told =
      weight-below g None (alone 0 f) (tree_distinct f h) (λ q s e. told q s (grind (arith, sym (spot_in_tree f q h) ∙ e)))

-- lists with the same members, each once, have the same sum
pub same_sum : (g : ℕ → ℕ) (xs ys : List ℕ) → NoRepeats xs → NoRepeats ys → ((q : ℕ) → is_among q xs ≡ is_among q ys) → sum_by g xs ≡ sum_by g ys
same_sum g [] [] u v same = refl
same_sum g [] (y ∷ ys) u v same = absurd (grind (arith, same y, eqb_tells y y))
same_sum g (x ∷ xs) ys u v same =
    let there : is_among x ys ≡ true = grind (arith, same x, eqb_tells x x) in
    let rest : sum_by g xs ≡ sum_by g (names_without x ys) =
    same_sum g xs (names_without x ys) u.1 (NoRepeats-names_without x ys v)
    (λ q. grind (arith, u.0, same q, is_among-names_without x q ys, eqb_tells x q, eqb_tells q x)) in
    sum_by-cons g x xs ∙ ap (λ n. g x + n) rest ∙ without_one g x ys v there where
      without_one : (g : ℕ → ℕ) (x : ℕ) (ys : List ℕ) → NoRepeats ys → is_among x ys ≡ true → g x + sum_by g (names_without x ys) ≡ sum_by g ys
      without_one g x [] v e = absurd (grind (arith, e))
      without_one g x (y ∷ ys) v e =
          elim (eqb_tells y x) [
            | inl own ↦
                ap (λ b. g x + sum_by g (cond b (names_without x ys) (y ∷ names_without x ys))) own.0
                ∙ ap (λ zs. g x + sum_by g zs) (names_without-absent_list x ys (subst (λ z. is_among z ys ≡ false) own.1 v.0))
                ∙ ap (λ z. g z + sum_by g ys) (sym own.1) ∙ sym (sum_by-cons g y ys)
            | inr other ↦
                ap (λ b. g x + sum_by g (cond b (names_without x ys) (y ∷ names_without x ys))) other.0
                ∙ omega (arith, sum_by-cons g y (names_without x ys), sum_by-cons g y ys, without_one g x ys v.1 (grind (arith, e, other.0)))
          ]

-- ---- how much

-- where no label weighs more than this
pub weight-le : (of : Label → ℕ) (most : ℕ) (f : Forest) → ((l : Label) → of l ≤ most) → weight of f ≤ total f * most
weight-le of most nil few = omega arith
weight-le of most (tree l below rest) few = omega (arith, few l, weight-le of most below few, weight-le of most rest few)

-- ---- a sweep

-- a second sweep finds nothing
pub drop_detached-twice : (f : Forest) → IsForest f → drop_detached (drop_detached f) ≡ drop_detached f
unfolding drop_detached
drop_detached-twice f h = alone-alone key_of 0 0 f (grind (arith, h.once 0, has-root f h, count-alone_self key_of 0 f, count-without-alone key_of 0 0 f))
