-- The laws of ways through trees: a name's ancestors by its parent's, and preorder by children, siblings and parents.
use Rattle.std.proofs.Common.{◌+◌, ◌-◌, cond, ◌≢◌, length, ◌≡◌, ℕ, ◌<◌, true, eqb, ◌||◌, List, [], ◌∷◌, ◌++◌, Option, None, Some, refl, sym, ap, ◌∙◌, arith, append_assoc, inl, inr}
use Rattle.std.specs.Prelude.{option_map, is_some, unwrap_or}
use Rattle.std.proofs.lemmas.List.{append-nil}
use Rattle.std.proofs.lemmas.Bool.{cases_lt}
use Rattle.std.proofs.lemmas.Bool.Decides.{eqb_tells}
use Rattle.lx_trees.specs.Trees.{Trees, nil, tree}
use Rattle.lx_trees.specs.NamedTrees.{total, IsDistinct, count, has, names, preorder, alone}
use Rattle.lx_trees.specs.Siblings.{index_in, ComesBefore, is_among, first_of, next_in}
use Rattle.lx_trees.specs.Spots.{parent_at, children_at, spot_below, spot}
use Rattle.lx_trees.specs.Walks.{ancestors_below, ancestors, behind_before, behind, from}
use Rattle.lx_trees.proofs.NamedTrees.{is_among-preorder, length-preorder, joined-nil, count-joined, alone-absent}
use Rattle.lx_trees.proofs.Siblings.{is_some-index_in, index_in-append, is_named_tells, first_of-among, next_in-among, next_in-absent}
use Rattle.lx_trees.proofs.Spots.{is_among-names, count-child, parent-absent, parent-present, spot_below-absent, is_some-spot_below}
use Rattle.lx_trees.proofs.Subtrees.{count-alone-le}

-- what is above trees: nothing, or their parent and what is above it
over : Option ℕ → List ℕ → List ℕ
over None top = []
over (Some p) top = p ∷ top

over-Some : (r : Option ℕ) (top : List ℕ) (p : ℕ) → r ≡ Some p → over r top ≡ p ∷ top
unfolding over
over-Some r top p e = rw e

first_of-none : (xs : List ℕ) → first_of xs ≡ None → xs ≡ []
first_of-none [] e = refl
first_of-none (x ∷ xs) e = absurd (grind arith)

index_before : (o : Option ℕ) (i : ℕ) → option_map (λ j. j + 1) o ≡ Some i → (o ≡ Some (i - 1)) × (0 < i)
index_before None i e = absurd (grind arith)
index_before (Some j) i e = (grind arith, grind arith)

module _ {A : Type 0} (name : A → ℕ) where
  pub is_some-ancestors_below : (above : List ℕ) (t : Trees A) (q : ℕ) → is_some (ancestors_below name above t q) ≡ has name q t
  is_some-ancestors_below above nil q = refl
  is_some-ancestors_below above (tree a below rest) q =
      grind (arith, is_some-ancestors_below (name a ∷ above) below q, is_some-ancestors_below above rest q)

  pub ancestors_below-absent : (above : List ℕ) (t : Trees A) (q : ℕ) → count name q t ≡ 0 → ancestors_below name above t q ≡ None
  ancestors_below-absent above nil q e = refl
  ancestors_below-absent above (tree a below rest) q e =
      grind (arith, ancestors_below-absent (name a ∷ above) below q, ancestors_below-absent above rest q)

  -- ---- up

  ancestors_step : (r : Option ℕ) (top : List ℕ) (t : Trees A) (q p : ℕ) → IsDistinct name t → ((x : ℕ) → r ≡ Some x → count name x t ≡ 0)
      → parent_at (spot_below name r t q) ≡ Some p →
      ancestors_below name (over r top) t q ≡ Some (p ∷ unwrap_or (ancestors_below name (over r top) t p) top)
  unfolding over
  ancestors_step r top nil q p once apart up = absurd (grind arith)
  ancestors_step r top (tree a below rest) q p once apart up =
      elim (eqb_tells (name a) q) [
        | inl h ↦ grind (arith, h, over-Some r top p, apart p, ancestors_below-absent (over r top) (tree a below rest) p)
        | inr h ↦
            grind (arith, h, once q, once p, eqb_tells (name a) p, ancestors_step (Some (name a)) (over r top) below q p (λ x. omega (arith, once x)) (λ x e. grind (arith, once x, eqb_tells (name a) x)), ancestors_step r top rest q p (λ x. omega (arith, once x)) (λ x e. omega (arith, apart x e)), over-Some r top p, apart p, is_some-ancestors_below (name a ∷ over r top) below q, is_some-ancestors_below (name a ∷ over r top) below p, is_some-ancestors_below (over r top) rest p, ancestors_below-absent (name a ∷ over r top) below q, ancestors_below-absent (name a ∷ over r top) below p, ancestors_below-absent (over r top) rest p, is_some-spot_below name (Some (name a)) below q, parent-absent name (Some (name a)) below q p, parent-absent name r rest q p, is_named_tells r p, eqb_tells p (name a))
      ]

  ancestors_top : (r : Option ℕ) (above : List ℕ) (t : Trees A) (q : ℕ) → 0 < count name q t → parent_at (spot_below name r t q) ≡ None →
      ancestors_below name above t q ≡ Some above
  ancestors_top r above nil q some up = absurd (omega arith)
  ancestors_top r above (tree a below rest) q some up =
      grind (arith, eqb_tells (name a) q, parent-present name (name a) below q, spot_below-absent name (Some (name a)) below q, ancestors_below-absent (name a ∷ above) below q, ancestors_top r above rest q, is_some-spot_below name (Some (name a)) below q)

  -- ---- q is in the tree of k where k is q or above it
  within : (k : ℕ) (above : List ℕ) (t : Trees A) (q : ℕ) → IsDistinct name t → 0 < count name q t →
      (has name q (alone name k t) || is_among k above) ≡ is_among k (q ∷ unwrap_or (ancestors_below name above t q) [])
  within k above nil q once some = absurd (omega arith)
  within k above (tree a below rest) q once some =
      grind (arith, once q, eqb_tells (name a) q, eqb_tells (name a) k, eqb_tells q k, within k (name a ∷ above) below q (λ x. omega (arith, once x)), within k above rest q (λ x. omega (arith, once x)), count-joined name q (alone name k below) (alone name k rest), count-alone-le name q k below, count-alone-le name q k rest, is_some-ancestors_below (name a ∷ above) below q, ancestors_below-absent (name a ∷ above) below q)

  -- ---- on

  -- the names from q on, where these follow
  from_before : List ℕ → Trees A → ℕ → List ℕ
  from_before after t q = preorder name (alone name q t) ++ unwrap_or (behind_before name after t q) []

  behind_before-absent : (after : List ℕ) (t : Trees A) (q : ℕ) → count name q t ≡ 0 → behind_before name after t q ≡ None
  behind_before-absent after nil q e = refl
  behind_before-absent after (tree a below rest) q e =
      grind (arith, behind_before-absent (preorder name rest ++ after) below q, behind_before-absent after rest q)

  is_some-behind_before : (after : List ℕ) (t : Trees A) (q : ℕ) → is_some (behind_before name after t q) ≡ has name q t
  is_some-behind_before after nil q = refl
  is_some-behind_before after (tree a below rest) q =
      grind (arith, is_some-behind_before (preorder name rest ++ after) below q, is_some-behind_before after rest q)

  pub behind_before-below : (after : List ℕ) (a : A) (below rest : Trees A) (q : ℕ) → count name q (tree a below rest) < 2 → 0 < count name q below →
      behind_before name after (tree a below rest) q ≡ behind_before name (preorder name rest ++ after) below q
  behind_before-below after a below rest q once some =
      grind (arith, is_some-behind_before (preorder name rest ++ after) below q)

  pub behind_before-rest : (after : List ℕ) (a : A) (below rest : Trees A) (q : ℕ) → count name q (tree a below rest) < 2 → 0 < count name q rest →
      behind_before name after (tree a below rest) q ≡ behind_before name after rest q
  behind_before-rest after a below rest q once some =
      grind (arith, behind_before-absent (preorder name rest ++ after) below q)

  from_before-first : (after : List ℕ) (a : A) (below rest : Trees A) → count name (name a) (tree a below rest) < 2 →
      from_before after (tree a below rest) (name a) ≡ name a ∷ (preorder name below ++ (preorder name rest ++ after))
  unfolding from_before
  from_before-first after a below rest once =
      let e : eqb (name a) (name a) ≡ true = grind (arith, eqb_tells (name a) (name a)) in
      let n : count name (name a) rest ≡ 0 = grind (arith, eqb_tells (name a) (name a)) in
      rw (e, alone-absent name (name a) rest n, append-nil (preorder name below))

  from_before-below : (after : List ℕ) (a : A) (below rest : Trees A) (q : ℕ) → count name q (tree a below rest) < 2 → 0 < count name q below →
      from_before after (tree a below rest) q ≡ from_before (preorder name rest ++ after) below q
  unfolding from_before
  from_before-below after a below rest q once some =
      grind (arith, behind_before-below after a below rest q, alone-absent name q rest, joined-nil (alone name q below))

  from_before-rest : (after : List ℕ) (a : A) (below rest : Trees A) (q : ℕ) → count name q (tree a below rest) < 2 → 0 < count name q rest →
      from_before after (tree a below rest) q ≡ from_before after rest q
  unfolding from_before
  from_before-rest after a below rest q once some =
      grind (arith, behind_before-rest after a below rest q, alone-absent name q below)

  from_first : (after : List ℕ) (t : Trees A) (c : ℕ) → IsDistinct name t → first_of (names name t) ≡ Some c → from_before after t c ≡ preorder name t ++ after
  from_first after nil c once e = absurd (grind arith)
  from_first after (tree a below rest) c once e =
      grind (arith, from_before-first after a below rest, once (name a), append_assoc (preorder name below) (preorder name rest) after)

  preorder-none : (t : Trees A) → names name t ≡ [] → preorder name t ≡ []
  preorder-none nil e = refl
  preorder-none (tree a below rest) e = absurd (grind arith)

  behind_sibling : (after : List ℕ) (t : Trees A) (q n : ℕ) → IsDistinct name t → next_in (names name t) q ≡ Some n
      → behind_before name after t q ≡ Some (from_before after t n)
  behind_sibling after nil q n once e = absurd (grind arith)
  behind_sibling after (tree a below rest) q n once e =
      elim (eqb_tells (name a) q) [
        | inl h ↦
            grind (arith, h, once n, from_before-rest after a below rest n, from_first after rest n (λ x. omega (arith, once x)), first_of-among (names name rest) n, is_among-names name rest n)
        | inr h ↦
            let later : next_in (names name rest) q ≡ Some n = grind (arith, h) in
            let there : 0 < count name n rest = grind (arith, next_in-among (names name rest) q n, is_among-names name rest n) in
            let here : 0 < count name q rest = grind (arith, next_in-absent (names name rest) q, is_among-names name rest q) in
            behind_before-rest after a below rest q (once q) here
            ∙ behind_sibling after rest q n (λ x. omega (arith, once x)) later
            ∙ ap (λ xs. Some xs) (sym (from_before-rest after a below rest n (once n) there))
      ]

  behind_last_sibling : (after : List ℕ) (t : Trees A) (q : ℕ) → IsDistinct name t → is_among q (names name t) ≡ true → next_in (names name t) q ≡ None
      → behind_before name after t q ≡ Some after
  behind_last_sibling after nil q once c e = absurd (grind arith)
  behind_last_sibling after (tree a below rest) q once c e =
      elim (eqb_tells (name a) q) [
        | inl h ↦ grind (arith, h, preorder-none rest, first_of-none (names name rest))
        | inr h ↦
            grind (arith, h, once q, behind_before-rest after a below rest q, behind_last_sibling after rest q (λ x. omega (arith, once x)), is_among-names name rest q)
      ]

  -- a name, and then its first child, or else what comes after it
  from_child : (r : Option ℕ) (after : List ℕ) (t : Trees A) (q c : ℕ) → IsDistinct name t → first_of (children_at (spot_below name r t q)) ≡ Some c →
      from_before after t q ≡ q ∷ from_before after t c
  from_child r after nil q c once e = absurd (grind arith)
  from_child r after (tree a below rest) q c once e =
      elim (eqb_tells (name a) q) [
        | inl h ↦
            grind (arith, h, once q, once c, from_before-first after a below rest, from_before-below after a below rest c, from_first (preorder name rest ++ after) below c (λ x. omega (arith, once x)), is_among-names name below c, first_of-among (names name below) c)
        | inr h ↦
            grind (arith, h, once q, once c, is_some-spot_below name (Some (name a)) below q, is_some-spot_below name r rest q, spot_below-absent name (Some (name a)) below q, spot_below-absent name r rest q, from_before-below after a below rest q, from_before-below after a below rest c, from_before-rest after a below rest q, from_before-rest after a below rest c, from_child (Some (name a)) (preorder name rest ++ after) below q c (λ x. omega (arith, once x)), from_child r after rest q c (λ x. omega (arith, once x)), count-child name (Some (name a)) below q c, count-child name r rest q c, first_of-among (children_at (spot_below name (Some (name a)) below q)) c, first_of-among (children_at (spot_below name r rest q)) c)
      ]

  from_leaf : (r : Option ℕ) (after : List ℕ) (t : Trees A) (q : ℕ) → IsDistinct name t → 0 < count name q t → children_at (spot_below name r t q) ≡ [] →
      from_before after t q ≡ q ∷ unwrap_or (behind_before name after t q) []
  from_leaf r after nil q once some e = absurd (omega arith)
  from_leaf r after (tree a below rest) q once some e =
      elim (eqb_tells (name a) q) [
        | inl h ↦ grind (arith, h, once q, from_before-first after a below rest, preorder-none below)
        | inr h ↦
            grind (arith, h, once q, is_some-spot_below name (Some (name a)) below q, is_some-spot_below name r rest q, spot_below-absent name (Some (name a)) below q, from_before-below after a below rest q, from_before-rest after a below rest q, behind_before-below after a below rest q, behind_before-rest after a below rest q, from_leaf (Some (name a)) (preorder name rest ++ after) below q (λ x. omega (arith, once x)), from_leaf r after rest q (λ x. omega (arith, once x)))
      ]

  -- after a name comes its next sibling, or else what comes after the parent
  behind_next : (r : Option ℕ) (after : List ℕ) (t : Trees A) (q n p : ℕ) → IsDistinct name t → next_in (children_at (spot_below name r t p)) q ≡ Some n →
      behind_before name after t q ≡ Some (from_before after t n)
  behind_next r after nil q n p once e = absurd (grind arith)
  behind_next r after (tree a below rest) q n p once e =
      elim (eqb_tells (name a) p) [
        | inl h ↦
            grind (arith, h, once q, once n, eqb_tells (name a) q, behind_before-below after a below rest q, from_before-below after a below rest n, behind_sibling (preorder name rest ++ after) below q n (λ x. omega (arith, once x)), is_among-names name below q, is_among-names name below n, next_in-among (names name below) q n, next_in-absent (names name below) q)
        | inr h ↦
            grind (arith, h, once q, once n, is_some-spot_below name (Some (name a)) below p, spot_below-absent name (Some (name a)) below p, spot_below-absent name r rest p, behind_before-below after a below rest q, behind_before-rest after a below rest q, from_before-below after a below rest n, from_before-rest after a below rest n, behind_next (Some (name a)) (preorder name rest ++ after) below q n p (λ x. omega (arith, once x)), behind_next r after rest q n p (λ x. omega (arith, once x)), count-child name (Some (name a)) below p q, count-child name r rest p q, count-child name (Some (name a)) below p n, count-child name r rest p n, next_in-among (children_at (spot_below name (Some (name a)) below p)) q n, next_in-absent (children_at (spot_below name (Some (name a)) below p)) q, next_in-among (children_at (spot_below name r rest p)) q n, next_in-absent (children_at (spot_below name r rest p)) q)
      ]

  behind_last : (r : Option ℕ) (after : List ℕ) (t : Trees A) (q p : ℕ) → IsDistinct name t → is_among q (children_at (spot_below name r t p)) ≡ true
      → next_in (children_at (spot_below name r t p)) q ≡ None →
      behind_before name after t q ≡ behind_before name after t p
  behind_last r after nil q p once c e = absurd (grind arith)
  behind_last r after (tree a below rest) q p once c e =
      elim (eqb_tells (name a) p) [
        | inl h ↦
            grind (arith, h, once q, once p, eqb_tells (name a) q, behind_before-below after a below rest q, behind_last_sibling (preorder name rest ++ after) below q (λ x. omega (arith, once x)), is_among-names name below q)
        | inr h ↦
            grind (arith, h, once q, once p, is_some-spot_below name (Some (name a)) below p, spot_below-absent name (Some (name a)) below p, spot_below-absent name r rest p, is_some-spot_below name r rest p, behind_before-below after a below rest q, behind_before-rest after a below rest q, behind_before-below after a below rest p, behind_before-rest after a below rest p, behind_last (Some (name a)) (preorder name rest ++ after) below q p (λ x. omega (arith, once x)), behind_last r after rest q p (λ x. omega (arith, once x)), count-child name (Some (name a)) below p q, count-child name r rest p q)
      ]

  -- ---- the same of trees that are below nothing and that nothing follows

  -- a name without a parent has no ancestors
  pub ancestors-top : (t : Trees A) (q : ℕ) → parent_at (spot name t q) ≡ None → ancestors name t q ≡ []
  ancestors-top t q up = grind (arith, ancestors_top None [] t q, ancestors_below-absent [] t q)

  -- the ancestors are the parent and its ancestors
  pub ancestors-step : (t : Trees A) (q p : ℕ) → IsDistinct name t → parent_at (spot name t q) ≡ Some p → ancestors name t q ≡ p ∷ ancestors name t p
  unfolding over
  ancestors-step t q p once up = ap (λ o. unwrap_or o []) (ancestors_step None [] t q p once (λ x e. grind arith) up)

  -- q is in the tree of k just where k is q or an ancestor of it
  pub has-alone : (k : ℕ) (t : Trees A) (q : ℕ) → IsDistinct name t → 0 < count name q t → has name q (alone name k t) ≡ is_among k (q ∷ ancestors name t q)
  has-alone k t q once some = grind (arith, within k [] t q once some)

  -- the names from a first name on
  pub from-first : (t : Trees A) (q : ℕ) → IsDistinct name t → first_of (names name t) ≡ Some q → from name t q ≡ preorder name t
  unfolding from_before
  from-first t q once e = from_first [] t q once e ∙ append-nil (preorder name t)

  -- a name, and then its first child
  pub from-child : (t : Trees A) (q c : ℕ) → IsDistinct name t → first_of (children_at (spot name t q)) ≡ Some c → from name t q ≡ q ∷ from name t c
  unfolding from_before
  from-child t q c once e = from_child None [] t q c once e

  -- a name without children, and then what comes after it
  pub from-leaf : (t : Trees A) (q : ℕ) → IsDistinct name t → 0 < count name q t → children_at (spot name t q) ≡ [] → from name t q ≡ q ∷ behind name t q
  unfolding from_before
  from-leaf t q once some e = from_leaf None [] t q once some e

  -- after a name comes its next sibling
  pub behind-next : (t : Trees A) (q n p : ℕ) → IsDistinct name t → next_in (children_at (spot name t p)) q ≡ Some n → behind name t q ≡ from name t n
  unfolding from_before
  behind-next t q n p once e = ap (λ o. unwrap_or o []) (behind_next None [] t q n p once e)

  -- after a last child comes what comes after its parent
  pub behind-last : (t : Trees A) (q p : ℕ) → IsDistinct name t → is_among q (children_at (spot name t p)) ≡ true
      → next_in (children_at (spot name t p)) q ≡ None → behind name t q ≡ behind name t p
  behind-last t q p once c e = ap (λ o. unwrap_or o []) (behind_last None [] t q p once c e)

  -- after a last first name comes nothing
  pub behind-top : (t : Trees A) (q : ℕ) → IsDistinct name t → is_among q (names name t) ≡ true → next_in (names name t) q ≡ None → behind name t q ≡ []
  behind-top t q once c e = ap (λ o. unwrap_or o []) (behind_last_sibling [] t q once c e)

  -- fewer names are above one than there are
  ancestors_short : (above : List ℕ) (t : Trees A) (q : ℕ) → 0 < count name q t
      → length (unwrap_or (ancestors_below name above t q) []) < length above + total t
  ancestors_short above nil q some = absurd (omega arith)
  ancestors_short above (tree a below rest) q some =
      grind (arith, ancestors_short (name a ∷ above) below q, ancestors_short above rest q, is_some-ancestors_below (name a ∷ above) below q, ancestors_below-absent (name a ∷ above) below q)

  pub length-ancestors-lt : (t : Trees A) (q : ℕ) → 0 < count name q t → length (ancestors name t q) < total t
  length-ancestors-lt t q some = omega (arith, ancestors_short [] t q some)

  -- ---- before and after

  -- how many names come before q
  place : Trees A → ℕ → ℕ
  place nil q = 0
  place (tree a below rest) q = cond (eqb (name a) q) 0 (cond (has name q below) (1 + place below q) (1 + total below + place rest q))

  place-lt : (t : Trees A) (q : ℕ) → 0 < count name q t → place t q < total t
  unfolding place
  place-lt nil q some = absurd (omega arith)
  place-lt (tree a below rest) q some = grind (arith, place-lt below q, place-lt rest q)

  index_in-preorder : (t : Trees A) (q : ℕ) → index_in (preorder name t) q ≡ cond (has name q t) (Some (place t q)) None
  unfolding place
  index_in-preorder nil q = refl
  index_in-preorder (tree a below rest) q =
      grind (arith, eqb_tells (name a) q, index_in-preorder below q, index_in-preorder rest q, index_in-append (preorder name below) (preorder name rest) q, is_among-preorder name q below, length-preorder name below)

  -- a name comes before all below it
  place-below : (t : Trees A) (q k : ℕ) → IsDistinct name t → 0 < count name q (alone name k t) → q ≢ k → place t k < place t q
  unfolding place
  place-below nil q k once some other = absurd (omega arith)
  place-below (tree a below rest) q k once some other =
      grind (arith, once q, once k, eqb_tells (name a) k, eqb_tells (name a) q, place-below below q k (λ x. omega (arith, once x)), place-below rest q k (λ x. omega (arith, once x)), count-joined name q (alone name k below) (alone name k rest), count-alone-le name q k below, count-alone-le name q k rest, alone-absent name k below, alone-absent name k rest)

  place_rest : (a : A) (below rest : Trees A) (q : ℕ) → count name q (tree a below rest) < 2 → 0 < count name q rest
      → place (tree a below rest) q ≡ 1 + total below + place rest q
  unfolding place
  place_rest a below rest q once some = grind arith

  in_rest : (a : A) (below rest : Trees A) (k q : ℕ) → count name k (tree a below rest) < 2 → 0 < count name k rest
      → 0 < count name q (alone name k (tree a below rest)) → 0 < count name q (alone name k rest)
  in_rest a below rest k q once some u = grind (arith, alone-absent name k below)

  place-first : (a : A) (below rest : Trees A) (x y q r : ℕ) → IsDistinct name (tree a below rest) → name a ≡ x → 0 < count name y rest
      → 0 < count name q (alone name x (tree a below rest)) → 0 < count name r (alone name y (tree a below rest)) →
      place (tree a below rest) q < place (tree a below rest) r
  unfolding place
  place-first a below rest x y q r once e there u v =
      let r_in : 0 < count name r rest = omega (arith, in_rest a below rest y r (once y) there v, count-alone-le name r y rest) in
      rw (place_rest a below rest r (once r) r_in) (grind (arith, once x, eqb_tells (name a) x, alone-absent name x rest, place-lt below q))

  -- and what is in the tree of a sibling comes before what is in that of a later one
  place-sibling : (t : Trees A) (x y q r i j : ℕ) → IsDistinct name t → index_in (names name t) x ≡ Some i → index_in (names name t) y ≡ Some j → i < j
      → 0 < count name q (alone name x t) → 0 < count name r (alone name y t) → place t q < place t r
  unfolding place
  place-sibling nil x y q r i j once e f l u v = absurd (grind arith)
  place-sibling (tree a below rest) x y q r i j once e f l u v =
      elim (eqb_tells (name a) x) [
        | inl own ↦
            let later : is_among y (names name rest) ≡ true = grind (arith, own, eqb_tells (name a) y, is_some-index_in (names name rest) y) in
            place-first a below rest x y q r once own.1 (grind (arith, later, is_among-names name rest y)) u v
        | inr other ↦
            let x_later : index_in (names name rest) x ≡ Some (i - 1) = (index_before (index_in (names name rest) x) i (grind (arith, other))).0 in
            let some : 0 < i = (index_before (index_in (names name rest) x) i (grind (arith, other))).1 in
            let y_later : index_in (names name rest) y ≡ Some (j - 1) =
            (index_before (index_in (names name rest) y) j (grind (arith, eqb_tells (name a) y))).0 in
            let x_there : 0 < count name x rest = grind (arith, is_some-index_in (names name rest) x, is_among-names name rest x) in
            let y_there : 0 < count name y rest = grind (arith, is_some-index_in (names name rest) y, is_among-names name rest y) in
            let q_in : 0 < count name q (alone name x rest) = in_rest a below rest x q (once x) x_there u in
            let r_in : 0 < count name r (alone name y rest) = in_rest a below rest y r (once y) y_there v in
            let lower = place-sibling rest x y q r (i - 1) (j - 1) (λ z. omega (arith, once z)) x_later y_later (omega arith) q_in r_in in
            rw (place_rest a below rest q (once q) (omega (arith, count-alone-le name q x rest)), place_rest a below rest r (once r) (omega (arith, count-alone-le name r y rest))) (omega arith)
      ]

  place_below : (a : A) (below rest : Trees A) (q : ℕ) → count name q (tree a below rest) < 2 → 0 < count name q below
      → place (tree a below rest) q ≡ 1 + place below q
  unfolding place
  place_below a below rest q once some = grind arith

  in_below : (a : A) (below rest : Trees A) (k q : ℕ) → count name k (tree a below rest) < 2 → 0 < count name k below
      → 0 < count name q (alone name k (tree a below rest)) → 0 < count name q (alone name k below)
  in_below a below rest k q once some u = grind (arith, alone-absent name k rest, joined-nil (alone name k below))

  child_there : (r : Option ℕ) (t : Trees A) (p x i : ℕ) → index_in (children_at (spot_below name r t p)) x ≡ Some i → 0 < count name x t
  child_there r t p x i e = grind (arith, is_some-index_in (children_at (spot_below name r t p)) x, count-child name r t p x)

  place-children : (r : Option ℕ) (t : Trees A) (p x y i j q s : ℕ) → IsDistinct name t → index_in (children_at (spot_below name r t p)) x ≡ Some i
      → index_in (children_at (spot_below name r t p)) y ≡ Some j → i < j → 0 < count name q (alone name x t) → 0 < count name s (alone name y t) →
      place t q < place t s
  place-children r nil p x y i j q s once e f l u v = absurd (grind arith)
  place-children r (tree a below rest) p x y i j q s once e f l u v =
      elim (eqb_tells (name a) p) [
        | inl own ↦
            let x_at : index_in (names name below) x ≡ Some i = grind (arith, own) in
            let y_at : index_in (names name below) y ≡ Some j = grind (arith, own) in
            let x_there : 0 < count name x below = grind (arith, is_some-index_in (names name below) x, is_among-names name below x) in
            let y_there : 0 < count name y below = grind (arith, is_some-index_in (names name below) y, is_among-names name below y) in
            let q_in = in_below a below rest x q (once x) x_there u in
            let s_in = in_below a below rest y s (once y) y_there v in
            let lower = place-sibling below x y q s i j (λ z. omega (arith, once z)) x_at y_at l q_in s_in in
            rw (place_below a below rest q (once q) (omega (arith, count-alone-le name q x below)), place_below a below rest s (once s) (omega (arith, count-alone-le name s y below))) (omega arith)
        | inr other ↦ elim (cases_lt 0 (count name p below)) [
          | inl inside ↦
              let same : spot_below name r (tree a below rest) p ≡ spot_below name (Some (name a)) below p =
              grind (arith, other, is_some-spot_below name (Some (name a)) below p) in
              let x_at : index_in (children_at (spot_below name (Some (name a)) below p)) x ≡ Some i = rw same at e in
              let y_at : index_in (children_at (spot_below name (Some (name a)) below p)) y ≡ Some j = rw same at f in
              let q_in = in_below a below rest x q (once x) (child_there (Some (name a)) below p x i x_at) u in
              let s_in = in_below a below rest y s (once y) (child_there (Some (name a)) below p y j y_at) v in
              let lower = place-children (Some (name a)) below p x y i j q s (λ z. omega (arith, once z)) x_at y_at l q_in s_in in
              rw (place_below a below rest q (once q) (omega (arith, count-alone-le name q x below)), place_below a below rest s (once s) (omega (arith, count-alone-le name s y below))) (omega arith)
          | inr outside ↦
              let same : spot_below name r (tree a below rest) p ≡ spot_below name r rest p =
              grind (arith, other, spot_below-absent name (Some (name a)) below p) in
              let x_at : index_in (children_at (spot_below name r rest p)) x ≡ Some i = rw same at e in
              let y_at : index_in (children_at (spot_below name r rest p)) y ≡ Some j = rw same at f in
              let q_in = in_rest a below rest x q (once x) (child_there r rest p x i x_at) u in
              let s_in = in_rest a below rest y s (once y) (child_there r rest p y j y_at) v in
              let lower = place-children r rest p x y i j q s (λ z. omega (arith, once z)) x_at y_at l q_in s_in in
              rw (place_rest a below rest q (once q) (omega (arith, count-alone-le name q x rest)), place_rest a below rest s (once s) (omega (arith, count-alone-le name s y rest))) (omega arith)
        ]
      ]

  -- a name comes before all that are below it
  pub ComesBefore-below : (t : Trees A) (k q : ℕ) → IsDistinct name t → 0 < count name q (alone name k t) → q ≢ k → ComesBefore (preorder name t) k q
  ComesBefore-below t k q once some other =
      record {
        first = place t k;
        second = place t q;
        first_is = grind (arith, index_in-preorder t k, alone-absent name k t);
        second_is = grind (arith, index_in-preorder t q, count-alone-le name q k t);
        before = place-below t q k once some other;
      }

  -- what is in the tree of a child comes before what is in that of a later child
  pub ComesBefore-children : (t : Trees A) (p x y q s : ℕ) → IsDistinct name t → ComesBefore (children_at (spot name t p)) x y
      → 0 < count name q (alone name x t) → 0 < count name s (alone name y t) → ComesBefore (preorder name t) q s
  ComesBefore-children t p x y q s once c u v =
      record {
        first = place t q;
        second = place t s;
        first_is = grind (arith, index_in-preorder t q, count-alone-le name q x t);
        second_is = grind (arith, index_in-preorder t s, count-alone-le name s y t);
        before = place-children None t p x y c.first c.second q s once c.first_is c.second_is c.before u v;
      }
