-- The laws of a tree alone: inside another, after edits, and of its members.
use Rattle.std.proofs.Common.{List, ◌∷◌, sym, subst, true, ◌+◌, [], None, ap, ◌∙◌, inl, inr, ◌≢◌, ◌≡◌, ℕ, ◌<◌, ◌≤◌, false, eqb, Option, Some, refl, arith, ◌⊎◌}
use Rattle.std.proofs.lemmas.Option.{same_Some}
use Rattle.std.proofs.lemmas.Bool.{cases_eq, cases_lt}
use Rattle.std.proofs.lemmas.Bool.Decides.{eqb_tells}
use Rattle.lx_trees.specs.Trees.{Trees, nil, tree}
use Rattle.lx_trees.specs.NamedTrees.{gathered, total, IsDistinct, count, names, without, alone, inserted, put_below}
use Rattle.lx_trees.specs.Siblings.{is_among}
use Rattle.lx_trees.specs.Spots.{Spot, parent_at, spot_below, spot}
use Rattle.lx_trees.proofs.NamedTrees.{count-le-total, joined-nil, count-joined, without-joined, alone-joined, without-absent, alone-absent, total-without-alone, names-without, names-alone, count-without-alone, count-without, put_below-joined, put_below-absent}
use Rattle.lx_trees.proofs.Siblings.{is_named_tells}
use Rattle.lx_trees.proofs.Spots.{count-child, parent-absent, is_among-names, is_among-children, is_among-children_self, spot_below-absent, is_some-spot_below}

module _ {A : Type 0} (name : A → ℕ) where
  -- ---- a tree alone after edits

  -- a tree that is outside the one that is left out
  pub alone-without : (a k : ℕ) (t : Trees A) → count name a (alone name k t) ≡ 0 → alone name a (without name k t) ≡ without name k (alone name a t)
  alone-without a k nil e = refl
  alone-without a k (tree x below rest) e =
      grind (arith, eqb_tells (name x) k, alone-without a k below, alone-without a k rest, count-joined name a (alone name k below) (alone name k rest), alone-absent name a below, without-joined name k (alone name a below) (alone name a rest))

  -- a tree that is inside another
  pub alone-alone : (a k : ℕ) (t : Trees A) → count name a (without name k t) ≡ 0 → alone name a (alone name k t) ≡ alone name a t
  alone-alone a k nil e = refl
  alone-alone a k (tree x below rest) e =
      grind (arith, eqb_tells (name x) k, eqb_tells (name x) a, alone-alone a k below, alone-alone a k rest, alone-joined name a (alone name k below) (alone name k rest))

  pub alone-inserted_outside : (a : ℕ) (before : Option ℕ) (new t : Trees A) → count name a new ≡ 0 → alone name a (inserted name before new t) ≡ alone name a t
  alone-inserted_outside a before new nil e = alone-absent name a new e
  alone-inserted_outside a before new (tree x below rest) e =
      grind (arith, alone-inserted_outside a before new rest, alone-absent name a new, alone-joined name a new (tree x below rest))

  pub alone-inserted_inside : (a : ℕ) (before : Option ℕ) (new t : Trees A) → count name a t ≡ 0 → alone name a (inserted name before new t) ≡ alone name a new
  alone-inserted_inside a before new nil e = refl
  alone-inserted_inside a before new (tree x below rest) e =
      grind (arith, alone-inserted_inside a before new rest, alone-absent name a (tree x below rest), alone-absent name a below, alone-joined name a new (tree x below rest), joined-nil (alone name a new))

  pub alone-put_below_outside : (a p : ℕ) (before : Option ℕ) (new t : Trees A) → count name p t < 2 → count name a new ≡ 0 →
      alone name a (put_below name p before new t) ≡ put_below name p before new (alone name a t)
  alone-put_below_outside a p before new nil once e = refl
  alone-put_below_outside a p before new (tree x below rest) once e =
      grind (arith, eqb_tells (name x) p, eqb_tells (name x) a, alone-put_below_outside a p before new below, alone-put_below_outside a p before new rest, alone-inserted_outside a before new below, put_below-joined name p before new (alone name a below) (alone name a rest), put_below-absent name p before new (alone name a below), count-without-alone name p a below)

  pub alone-put_below_inside : (a p : ℕ) (before : Option ℕ) (new t : Trees A) → count name p t ≡ 1 → count name a t ≡ 0 →
      alone name a (put_below name p before new t) ≡ alone name a new
  alone-put_below_inside a p before new nil once e = absurd (omega arith)
  alone-put_below_inside a p before new (tree x below rest) once e =
      grind (arith, eqb_tells (name x) p, alone-put_below_inside a p before new below, alone-put_below_inside a p before new rest, alone-inserted_inside a before new below, put_below-absent name p before new below, put_below-absent name p before new rest, alone-absent name a below, alone-absent name a rest, joined-nil (alone name a new))

  -- ---- the members of a tree alone

  pub count-alone_self : (k : ℕ) (t : Trees A) → count name k (alone name k t) ≡ count name k t
  count-alone_self k t = omega (arith, count-without-alone name k k t, count-without name k t)

  pub count-alone-le : (q k : ℕ) (t : Trees A) → count name q (alone name k t) ≤ count name q t
  count-alone-le q k t = omega (arith, count-without-alone name q k t)

  -- what is in a tree that is in another is in that one
  pub count-alone_trans : (q p k : ℕ) (t : Trees A) → count name p t < 2 → 0 < count name p (alone name k t)
      → count name q (alone name p t) ≤ count name q (alone name k t)
  count-alone_trans q p k t once some =
      let e = alone-alone p k t (omega (arith, count-without-alone name p k t)) in
      omega (arith, ap (count name q) e, count-alone-le q p (alone name k t))

  -- ---- up to the parent

  -- a child is in the same trees as its parent, but for its own
  walk_up : (a : ℕ) (r : Option ℕ) (t : Trees A) (q p : ℕ) → IsDistinct name t → parent_at (spot_below name r t q) ≡ Some p → eqb q a ≡ false →
      ((r ≡ Some p) × (count name q (alone name a t) ≡ 0)) ⊎ ((0 < count name p t) × (count name q (alone name a t) ≡ count name p (alone name a t)))
  walk_up a r nil q p once up other = absurd (grind arith)
  walk_up a r (tree x below rest) q p once up other =
      grind (arith, eqb_tells (name x) q, eqb_tells (name x) a, eqb_tells (name x) p, once q, once p, walk_up a (Some (name x)) below q p (λ y. omega (arith, once y)), walk_up a r rest q p (λ y. omega (arith, once y)), count-joined name q (alone name a below) (alone name a rest), count-joined name p (alone name a below) (alone name a rest), count-alone-le q a below, count-alone-le q a rest, count-alone-le p a below, count-alone-le p a rest, spot_below-absent name (Some (name x)) below q, is_some-spot_below name (Some (name x)) below q, is_some-spot_below name r rest q)

  pub count-alone_up : (a : ℕ) (t : Trees A) (q p : ℕ) → IsDistinct name t → parent_at (spot name t q) ≡ Some p → q ≢ a
      → count name q (alone name a t) ≡ count name p (alone name a t)
  count-alone_up a t q p once up other = grind (arith, walk_up a None t q p once up, eqb_tells q a)

  -- a parent is in the trees
  pub count-parent : (t : Trees A) (q p : ℕ) → parent_at (spot name t q) ≡ Some p → 0 < count name p t
  count-parent t q p up = grind (arith, parent-absent name None t q p, is_named_tells (parent_at (spot name t q)) p)

  -- two trees of which neither is in the other have nothing in common
  pub count-alone_apart : (q a k : ℕ) (t : Trees A) → count name a (alone name k t) ≡ 0 → count name k (alone name a t) ≡ 0 →
      count name q (alone name a t) + count name q (alone name k t) ≤ count name q t
  count-alone_apart q a k t e f =
      omega (arith, ap (count name q) (alone-without a k t e ∙ without-absent name k (alone name a t) f), count-alone-le q a (without name k t), count-without-alone name q k t)

  names-none : (t : Trees A) → total t ≡ 0 → names name t ≡ []
  names-none nil e = refl
  names-none (tree a below rest) e = absurd (omega arith)

  -- two trees of which each is in the other are one
  pub alone-antisym : (p k : ℕ) (t : Trees A) → IsDistinct name t → 0 < count name p (alone name k t) → 0 < count name k (alone name p t) → p ≡ k
  alone-antisym p k t once some more =
      let e = alone-alone p k t (omega (arith, once p, count-without-alone name p k t)) in
      let f = alone-alone k p t (omega (arith, once k, count-without-alone name k p t)) in
      let none : total (without name p (alone name k t)) ≡ 0 =
      omega (arith, ap total e, ap total f, total-without-alone name p (alone name k t), total-without-alone name k (alone name p t)) in
      let one : count name k t ≡ 1 = omega (arith, once k, count-alone-le k p t) in
      grind (arith, names-none (without name p (alone name k t)) none, names-without name p (alone name k t), names-alone name k t one, eqb_tells k p)

  -- a parent isn't in the tree of its child
  pub count-parent_alone : (t : Trees A) (q p : ℕ) → IsDistinct name t → parent_at (spot name t q) ≡ Some p → count name p (alone name q t) ≡ 0
  count-parent_alone t q p once up =
      elim (cases_eq q p) [
        | inl same ↦ absurd (grind (arith, is_among-children name None t q p once refl, is_among-children_self name None t q once, eqb_tells p p))
        | inr other ↦ grind (arith, count-alone_up p t q p once up other, count-alone_self p t, count-parent t q p up, alone-antisym p q t once)
      ]

  -- a name without a parent is in no other's tree
  pub count-first_alone : (t : Trees A) (q a : ℕ) → IsDistinct name t → is_among q (names name t) ≡ true → q ≢ a → count name q (alone name a t) ≡ 0
  count-first_alone nil q a once e other = refl
  count-first_alone (tree x below rest) q a once e other =
      grind (arith, once q, eqb_tells (name x) q, eqb_tells (name x) a, count-first_alone rest q a (λ y. omega (arith, once y)), count-joined name q (alone name a below) (alone name a rest), count-alone-le q a below, count-alone-le q a rest, is_among-names name rest q)

  -- the tree of a child is smaller than its parent's
  pub total-alone_child-lt : (t : Trees A) (q p : ℕ) → IsDistinct name t → parent_at (spot name t q) ≡ Some p → total (alone name q t) < total (alone name p t)
  total-alone_child-lt t q p once up =
      let outside = count-parent_alone t q p once up in
      let other : q ≢ p = λ e. grind (arith, e, outside, count-alone_self p t, count-parent t q p up) in
      let inside : 0 < count name q (alone name p t) = omega (arith, count-alone_up p t q p once up other, count-alone_self p t, count-parent t q p up) in
      let same = alone-alone q p t (omega (arith, once q, count-without-alone name q p t)) in
      omega (arith, ap total same, ap (count name p) same, total-without-alone name q (alone name p t), count-without-alone name p q (alone name p t), count-le-total name p (without name q (alone name p t)), count-alone_self p t, count-parent t q p up)

  -- ---- a tree is its label above the trees of its children

  alone_part_below : (x : A) (below rest : Trees A) (k : ℕ) → count name k (tree x below rest) < 2 → 0 < count name k below
      → alone name k (tree x below rest) ≡ alone name k below
  alone_part_below x below rest k once some = grind (arith, alone-absent name k rest, joined-nil (alone name k below))

  alone_part_behind : (x : A) (below rest : Trees A) (k : ℕ) → count name k (tree x below rest) < 2 → 0 < count name k rest
      → alone name k (tree x below rest) ≡ alone name k rest
  alone_part_behind x below rest k once some = grind (arith, alone-absent name k below)

  gathered_below : (x : A) (below rest : Trees A) (ks : List ℕ) → IsDistinct name (tree x below rest)
      → ((c : ℕ) → is_among c ks ≡ true → 0 < count name c below) → gathered name (tree x below rest) ks ≡ gathered name below ks
  gathered_below x below rest [] once some = refl
  gathered_below x below rest (k ∷ ks) once some =
      rw (alone_part_below x below rest k (once k) (some k (grind (arith, eqb_tells k k))), gathered_below x below rest ks once (λ c among. some c (grind (arith, among))))

  gathered_behind : (x : A) (below rest : Trees A) (ks : List ℕ) → IsDistinct name (tree x below rest)
      → ((c : ℕ) → is_among c ks ≡ true → 0 < count name c rest) → gathered name (tree x below rest) ks ≡ gathered name rest ks
  gathered_behind x below rest [] once some = refl
  gathered_behind x below rest (k ∷ ks) once some =
      rw (alone_part_behind x below rest k (once k) (some k (grind (arith, eqb_tells k k))), gathered_behind x below rest ks once (λ c among. some c (grind (arith, among))))

  -- all trees are those of the first names
  pub gathered-names : (t : Trees A) → IsDistinct name t → gathered name t (names name t) ≡ t
  gathered-names nil once = refl
  gathered-names (tree x below rest) once =
      let own : eqb (name x) (name x) ≡ true = grind (arith, eqb_tells (name x) (name x)) in
      let none : count name (name x) rest ≡ 0 = grind (arith, once (name x), own) in
      let rest_of : gathered name (tree x below rest) (names name rest) ≡ rest =
      gathered_behind x below rest (names name rest) once (λ c among. grind (arith, among, is_among-names name rest c))
      ∙ gathered-names rest (λ q. omega (arith, once q)) in
      rw (rest_of, own, alone-absent name (name x) rest none)

  -- a tree is its label above the trees of its children
  pub alone-spot_below : (r : Option ℕ) (t : Trees A) (k : ℕ) (s : Spot A) → IsDistinct name t → spot_below name r t k ≡ Some s
      → alone name k t ≡ tree s.label (gathered name t s.children) nil
  alone-spot_below r nil k s once e = absurd (grind arith)
  alone-spot_below r (tree x below rest) k s once e =
      elim (eqb_tells (name x) k) [
        | inl own ↦
            let at : ◌≡◌ {A = Spot A} (record { label = x; parent = r; children = names name below }) s = same_Some _ _ (rw own.0 at e) in
            let none : count name k rest ≡ 0 = grind (arith, once k, own) in
            let kids : gathered name (tree x below rest) (names name below) ≡ below =
            gathered_below x below rest (names name below) once (λ c among. grind (arith, among, is_among-names name below c))
            ∙ gathered-names below (λ q. omega (arith, once q)) in
            rw (own.0, alone-absent name k rest none)
            (subst (λ (z : Spot A). tree x below nil ≡ tree z.label (gathered name (tree x below rest) z.children) nil) at (rw kids))
        | inr other ↦ elim (cases_lt 0 (count name k below)) [
          | inl inside ↦
              let at : spot_below name (Some (name x)) below k ≡ Some s = grind (arith, other, e, is_some-spot_below name (Some (name x)) below k) in
              let kids : gathered name (tree x below rest) s.children ≡ gathered name below s.children =
              gathered_below x below rest s.children once (λ c among. grind (arith, among, at, count-child name (Some (name x)) below k c)) in
              alone_part_below x below rest k (once k) inside
              ∙ alone-spot_below (Some (name x)) below k s (λ q. omega (arith, once q)) at
              ∙ ap (λ trees. tree s.label trees nil) (sym kids)
          | inr outside ↦
              let at : spot_below name r rest k ≡ Some s = grind (arith, other, e, spot_below-absent name (Some (name x)) below k) in
              let there : 0 < count name k rest = grind (arith, at, is_some-spot_below name r rest k) in
              let kids : gathered name (tree x below rest) s.children ≡ gathered name rest s.children =
              gathered_behind x below rest s.children once (λ c among. grind (arith, among, at, count-child name r rest k c)) in
              alone_part_behind x below rest k (once k) there
              ∙ alone-spot_below r rest k s (λ q. omega (arith, once q)) at
              ∙ ap (λ trees. tree s.label trees nil) (sym kids)
        ]
      ]
