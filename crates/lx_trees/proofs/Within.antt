-- Which names are in the tree of which, and of the root, and what edits do to that.
use Rattle.std.proofs.Common.{◌≡◌, ◌≢◌, ℕ, true, false, eqb, ◌&&◌, ◌||◌, not, Option, None, Some, refl, sym, ap, ◌∙◌, arith, inl, inr}
use Rattle.std.proofs.lemmas.Bool.{cases_Bool}
use Rattle.std.proofs.lemmas.Bool.Decides.{eqb_tells}
use Rattle.lx_trees.specs.Trees.{Trees, nil, tree}
use Rattle.lx_trees.proofs.NamedTrees.{joined-nil, alone-joined, alone-absent, without-absent, put_below-absent, count-without-alone, count-put_below}
use Rattle.lx_trees.proofs.Spots.{is_among-firsts}
use Rattle.lx_trees.proofs.Subtrees.{alone-without, alone-alone, alone-put_below_outside, alone-put_below_inside, count-alone-le, count-alone_self, count-alone_trans, count-alone_apart, count-alone_up, count-parent_alone, count-first_alone}
use Rattle.lx_trees.proofs.Edits.{has-root, outside_once, parent_of-root}
use Rattle.lx_trees.specs.NamedTrees.{count, has, alone, without, put_below}
use Rattle.lx_trees.specs.Lookups.{parent_of, is_within, is_attached, IsOrdered}
use Rattle.lx_trees.specs.Edits.{among_roots, with_new, take_out, put_in, CanPut}
use Rattle.lx_trees.proofs.NamedTrees.{without-joined, count-without}

module _ {A : Type 0} (name : A → ℕ) where
  pub alone-among_roots_outside : (a k : ℕ) (new f : Trees A) → count name a new ≡ 0 → alone name a (among_roots name k new f) ≡ alone name a f
  alone-among_roots_outside a k new nil e = alone-absent name a new e
  alone-among_roots_outside a k new (tree l below rest) e =
      grind (arith, alone-among_roots_outside a k new rest, alone-absent name a new, alone-joined name a new (tree l below rest))

  pub alone-among_roots_inside : (a k : ℕ) (new f : Trees A) → count name a f ≡ 0 → alone name a (among_roots name k new f) ≡ alone name a new
  alone-among_roots_inside a k new nil e = refl
  alone-among_roots_inside a k new (tree l below rest) e =
      grind (arith, alone-among_roots_inside a k new rest, alone-absent name a (tree l below rest), alone-absent name a below, alone-joined name a new (tree l below rest), joined-nil (alone name a new))

  -- a tree doesn't change with a new node, or where others are dropped
  pub alone-with_new : (l : A) (f : Trees A) (a : ℕ) → a ≢ (name l) → alone name a (with_new name l f) ≡ alone name a f
  unfolding with_new
  alone-with_new l f a other = alone-among_roots_outside a (name l) (tree l nil nil) f (grind (arith, other, eqb_tells (name l) a))

  -- a tree that is in the one taken out or put in stays as it is
  pub alone-take_out_inside : (a k : ℕ) (f : Trees A) → IsOrdered name f → is_within name f k a ≡ true → alone name a (take_out name k f) ≡ alone name a f
  unfolding take_out
  alone-take_out_inside a k f h inside =
      let gone : count name a (without name k f) ≡ 0 = grind (arith, h.once a, count-without-alone name a k f) in
      alone-among_roots_inside a k (alone name k f) (without name k f) gone ∙ alone-alone name a k f gone

  pub alone-take_out_outside : (a k : ℕ) (f : Trees A) → is_within name f k a ≡ false → alone name a (take_out name k f) ≡ without name k (alone name a f)
  unfolding take_out
  alone-take_out_outside a k f outside =
      let gone : count name a (alone name k f) ≡ 0 = grind arith in
      alone-among_roots_outside a k (alone name k f) (without name k f) gone ∙ alone-without name a k f gone

  pub alone-put_in_inside : (a p : ℕ) (before : Option ℕ) (k : ℕ) (f : Trees A) → IsOrdered name f → CanPut name p k f → is_within name f k a ≡ true
      → alone name a (put_in name p before k f) ≡ alone name a f
  unfolding put_in
  alone-put_in_inside a p before k f h c inside =
      let gone : count name a (without name k f) ≡ 0 = grind (arith, h.once a, count-without-alone name a k f) in
      alone-put_below_inside name a p before (alone name k f) (without name k f) (outside_once name p k f h c.parent c.outside) gone
      ∙ alone-alone name a k f gone

  pub alone-put_in_outside : (a p : ℕ) (before : Option ℕ) (k : ℕ) (f : Trees A) → IsOrdered name f → CanPut name p k f → is_within name f k a ≡ false
      → alone name a (put_in name p before k f) ≡ put_below name p before (alone name k f) (without name k (alone name a f))
  unfolding put_in
  alone-put_in_outside a p before k f h c outside =
      let gone : count name a (alone name k f) ≡ 0 = grind arith in
      alone-put_below_outside name a p before (alone name k f) (without name k f) (omega (arith, outside_once name p k f h c.parent c.outside)) gone
      ∙ ap (put_below name p before (alone name k f)) (alone-without name a k f gone)

  -- a name that is there is in its own tree
  pub is_within-self : (f : Trees A) (k : ℕ) → is_within name f k k ≡ has name k f
  is_within-self f k = rw (count-alone_self name k f)

  pub is_within-trans : (f : Trees A) (k p q : ℕ) → IsOrdered name f → is_within name f k p ≡ true → is_within name f p q ≡ true → is_within name f k q ≡ true
  is_within-trans f k p q h a b = grind (arith, count-alone_trans name q p k f (h.once p))

  -- the walk up: but for k itself, a name is in the tree of k just where its parent is
  pub is_within-up : (f : Trees A) (k q p : ℕ) → IsOrdered name f → parent_of name f q ≡ Some p → q ≢ k → is_within name f k q ≡ is_within name f k p
  is_within-up f k q p h up other = rw (count-alone_up name k f q p h.once up other)

  -- a parent isn't in the tree of its child, so nothing is put below itself
  pub is_within-parent : (f : Trees A) (q p : ℕ) → IsOrdered name f → parent_of name f q ≡ Some p → is_within name f q p ≡ false
  is_within-parent f q p h up = rw (count-parent_alone name f q p h.once up)

  -- a name without a parent is in no other's tree
  pub is_within-top : (f : Trees A) (k q : ℕ) → IsOrdered name f → parent_of name f q ≡ None → q ≢ k → is_within name f k q ≡ false
  is_within-top f k q h up other = grind (arith, up, is_among-firsts name f q h.once, count-first_alone name f q k h.once, count-alone-le name q k f)

  -- of two trees one is in the other, or they have nothing in common
  pub is_within-apart : (f : Trees A) (a k q : ℕ) → IsOrdered name f → is_within name f k a ≡ false → is_within name f a k ≡ false
      → (is_within name f a q && is_within name f k q) ≡ false
  is_within-apart f a k q h x y = grind (arith, h.once q, count-alone_apart name q a k f)

  pub is_within-with_new : (l : A) (f : Trees A) (a q : ℕ) → has name (name l) f ≡ false
      → is_within name (with_new name l f) a q ≡ (is_within name f a q || (eqb a (name l) && eqb q (name l)))
  unfolding with_new
  is_within-with_new l f a q free =
      elim (eqb_tells a (name l)) [
        | inl own ↦
            grind (arith, own, alone-among_roots_inside a (name l) (tree l nil nil) f, alone-absent name a f, eqb_tells (name l) q, eqb_tells q (name l), eqb_tells (name l) a)
        | inr other ↦ grind (arith, other, alone-among_roots_outside a (name l) (tree l nil nil) f, eqb_tells (name l) a)
      ]

  pub is_within-take_out : (k : ℕ) (f : Trees A) (a q : ℕ) → IsOrdered name f
      → is_within name (take_out name k f) a q ≡ (is_within name f a q && (is_within name f k a || not (is_within name f k q)))
  is_within-take_out k f a q h =
      elim (cases_Bool (is_within name f k a)) [
        | inl inside ↦ grind (arith, inside, alone-take_out_inside a k f h inside)
        | inr outside ↦
            grind (arith, outside, alone-take_out_outside a k f outside, h.once q, h.once k, count-without-alone name q k (alone name a f), count-without-alone name q k f, count-without-alone name k a f, count-alone-le name q a f, alone-alone name k a f, alone-absent name k (alone name a f), count-alone_apart name q a k f)
      ]

  pub is_within-put_in : (p : ℕ) (before : Option ℕ) (k : ℕ) (f : Trees A) (a q : ℕ) → IsOrdered name f → CanPut name p k f
      → is_within name (put_in name p before k f) a q ≡ (is_within name f a q || (is_within name f k q && is_within name f a p))
  is_within-put_in p before k f a q h c =
      elim (cases_Bool (is_within name f k a)) [
        | inl inside ↦ grind (arith, inside, alone-put_in_inside a p before k f h c inside, is_within-trans f k a p h inside, c.outside)
        | inr outside ↦
            let other : k ≢ a = λ e. grind (arith, e, outside, is_within-self f k, c.there) in
            let apart : count name k (alone name a f) ≡ 0 = grind (arith, is_within-top f a k h c.detached other) in
            grind (arith, outside, alone-put_in_outside a p before k f h c outside, without-absent name k (alone name a f) apart, count-put_below name q p before (alone name k f) (alone name a f), put_below-absent name p before (alone name k f) (alone name a f), h.once p, count-alone-le name p a f)
      ]

  pub is_attached-with_new : (l : A) (f : Trees A) (q : ℕ) → IsOrdered name f → has name (name l) f ≡ false
      → is_attached name (with_new name l f) q ≡ is_attached name f q
  is_attached-with_new l f q h free = grind (arith, is_within-with_new l f 0 q free, eqb_tells 0 (name l), has-root name f h)

  pub is_attached-take_out : (k : ℕ) (f : Trees A) (q : ℕ) → IsOrdered name f → k ≢ 0
      → is_attached name (take_out name k f) q ≡ (is_attached name f q && not (is_within name f k q))
  is_attached-take_out k f q h other =
      grind (arith, is_within-take_out k f 0 q h, is_within-top f k 0 h (parent_of-root name f h) (λ e. other (sym e)))

  pub is_attached-put_in : (p : ℕ) (before : Option ℕ) (k : ℕ) (f : Trees A) (q : ℕ) → IsOrdered name f → CanPut name p k f
      → is_attached name (put_in name p before k f) q ≡ (is_attached name f q || (is_within name f k q && is_attached name f p))
  is_attached-put_in p before k f q h c = is_within-put_in p before k f 0 q h c

  pub without-among_roots : (k : ℕ) (new f : Trees A) → without name k new ≡ nil → without name k (among_roots name k new f) ≡ without name k f
  without-among_roots k new nil e = e
  without-among_roots k new (tree l below rest) e =
      grind (arith, without-among_roots k new rest e, without-joined name k new (tree l below rest))

  without-alone : (k : ℕ) (f : Trees A) → without name k (alone name k f) ≡ nil
  without-alone k nil = refl
  without-alone k (tree a below rest) =
      grind (arith, without-alone k below, without-alone k rest, eqb_tells (name a) k, without-joined name k (alone name k below) (alone name k rest))

  pub without-take_out_eq : (k : ℕ) (f : Trees A) → without name k (take_out name k f) ≡ without name k f
  unfolding take_out
  without-take_out_eq k f =
      without-among_roots k (alone name k f) (without name k f) (without-alone k f) ∙ without-absent name k (without name k f) (count-without name k f)

  -- a tree that is put in is first taken out, if it is below another
  pub put_in-take_out : (p : ℕ) (before : Option ℕ) (k : ℕ) (f : Trees A) → IsOrdered name f
      → put_in name p before k (take_out name k f) ≡ put_in name p before k f
  unfolding put_in take_out
  put_in-take_out p before k f h =
      let apart : count name k (without name k f) ≡ 0 = count-without name k f in
      let trees : alone name k (among_roots name k (alone name k f) (without name k f)) ≡ alone name k f =
      alone-among_roots_inside k k (alone name k f) (without name k f) apart ∙ alone-alone name k k f apart in
      let rest : without name k (among_roots name k (alone name k f) (without name k f)) ≡ without name k f =
      without-among_roots k (alone name k f) (without name k f) (without-alone k f) ∙ without-absent name k (without name k f) apart in
      rw (trees, rest)
