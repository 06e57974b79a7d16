-- New trees that come last, and trees that are gone leaf by leaf.
use Rattle.std.proofs.Common.{ℕ, zero, suc, ◌≡◌, ◌+◌, ◌<◌, ◌≤◌, true, eqb, ◌&&◌, List, [], ◌∷◌, length, refl, sym, ap, ◌∙◌, arith, inl, inr}
use Rattle.std.specs.Prelude.{is_some}
use Rattle.std.proofs.lemmas.Bool.Decides.{eqb_tells, leb_tells}
use Rattle.lx_trees.specs.Trees.{Trees, nil, tree, joined}
use Rattle.lx_trees.specs.NamedTrees.{total, count, has, preorder, alone, without, gathered}
use Rattle.lx_trees.specs.Siblings.{is_among, NoRepeats, names_without}
use Rattle.lx_trees.specs.Spots.{spot, children_at}
use Rattle.lx_trees.proofs.NamedTrees.{alone-absent, is_among-preorder, length-preorder, NoRepeats-preorder}
use Rattle.lx_trees.proofs.Positions.{NoRepeats-names_without}
use Rattle.lx_trees.proofs.Siblings.{is_among-names_without, length-names_without}
use Rattle.lx_trees.specs.Lookups.{children_of, is_within, IsOrdered}
use Rattle.lx_trees.specs.Edits.{among_roots}
use Rattle.lx_trees.proofs.Edits.{is_some-spot, key-spot}
use Rattle.lx_trees.proofs.Lookups.{alone-spot}
use Rattle.lx_trees.proofs.Attached.{cases_option}

-- names below a number, none twice, are no more than that
few : (n : ℕ) (xs : List ℕ) → NoRepeats xs → ((q : ℕ) → is_among q xs ≡ true → q < n) → length xs ≤ n
few zero [] u h = omega arith
few zero (x ∷ xs) u h = absurd (omega (arith, h x (grind (arith, eqb_tells x x))))
few (suc n) xs u h =
    let fewer : length (names_without n xs) ≤ n =
    few n (names_without n xs) (NoRepeats-names_without n xs u) (λ q among. grind (arith, among, is_among-names_without n q xs, h q, eqb_tells q n)) in
    grind (arith, fewer, length-names_without n xs u)

module _ {A : Type 0} (name : A → ℕ) where
  pub total-numbered : (n : ℕ) (f : Trees A) → IsOrdered name f → ((q : ℕ) → n < q + 1 → count name q f ≡ 0) → total f ≤ n
  total-numbered n f h below =
      omega (arith, length-preorder name f, few n (preorder name f) (NoRepeats-preorder name f h.once) (λ q among. numbered q (sym (is_among-preorder name q f) ∙ among) (below q)))
    where
      numbered : (q : ℕ) → has name q f ≡ true → (n < q + 1 → count name q f ≡ 0) → q < n
      numbered q there none = grind (arith, there, none)

  -- a new tree of a greater name than all others comes last
  pub among_roots-last : (k : ℕ) (new f : Trees A) → ((q : ℕ) → k < q + 1 → count name q f ≡ 0) → among_roots name k new f ≡ joined f new
  among_roots-last k new nil above = refl
  among_roots-last k new (tree a below rest) above =
      grind (arith, above (name a), eqb_tells (name a) (name a), leb_tells (suc k) (name a), among_roots-last k new rest (λ q l. omega (arith, above q l)))

  -- nothing but itself is in the tree of a leaf
  pub is_within-leaf : (f : Trees A) (k q : ℕ) → IsOrdered name f → children_of name f k ≡ [] → is_within name f k q ≡ (eqb q k && has name k f)
  is_within-leaf f k q h none =
      elim (cases_option (spot name f k)) [
        | inl absent ↦
            let gone : count name k f ≡ 0 = grind (arith, ap is_some absent, is_some-spot name f k) in
            rw (alone-absent name k f gone) (grind (arith, gone))
        | inr (s, at) ↦
            let kids : s.children ≡ [] = sym (ap children_at at) ∙ none in
            let whole : alone name k f ≡ tree s.label nil nil = alone-spot name f k s h at ∙ ap (λ ks. tree s.label (gathered name f ks) nil) kids in
            let named : name s.label ≡ k = key-spot name f k s at in
            let there : has name k f ≡ true = sym (is_some-spot name f k) ∙ ap is_some at in
            rw (whole, there) (grind (arith, named, eqb_tells q k, eqb_tells (name s.label) q))
      ]

  -- a tree goes with the leaves below it
  pub without-without : (k a : ℕ) (t : Trees A) → count name a (without name k t) ≡ 0 → without name k (without name a t) ≡ without name k t
  without-without k a nil e = refl
  without-without k a (tree x below rest) e =
      grind (arith, eqb_tells (name x) k, eqb_tells (name x) a, without-without k a below, without-without k a rest)
