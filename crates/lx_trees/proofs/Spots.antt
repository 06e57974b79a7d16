-- The laws of where a name is.
use Rattle.std.proofs.Common.{cond, eqb, true, ◌&&◌, ◌≡◌, ℕ, ◌+◌, ◌<◌, false, List, Option, None, Some, refl, sym, ap, ◌∙◌, arith, subst, inl, inr}
use Rattle.std.specs.Prelude.{is_some, is_none, option_map}
use Rattle.std.specs.Option.{option_or}
use Rattle.std.proofs.lemmas.List.{append-nil}
use Rattle.std.proofs.lemmas.Bool.Decides.{eqb_tells}
use Rattle.lx_trees.specs.Trees.{Trees, nil, tree, joined}
use Rattle.lx_trees.specs.NamedTrees.{children_of, IsDistinct, mapped, count, has, names, without, alone, inserted, put_below}
use Rattle.lx_trees.specs.Siblings.{names_without, names_with, is_named, is_among, NoRepeats}
use Rattle.lx_trees.specs.Spots.{Spot, parent_at, children_at, spot_below, spot}
use Rattle.lx_trees.proofs.NamedTrees.{children_of-absent, count-joined, put_below-absent, names-without, names-inserted, names-put_below, names-mapped, names_without-absent}

-- ---- what an edit does to a spot

-- a spot with its label changed
abbrev pub relabelled : {A : Type 0} → (A → A) → Spot A → Spot A
relabelled change s = record { label = change s.label; parent = s.parent; children = s.children }

-- a spot that the child k left
abbrev pub left_by : {A : Type 0} → ℕ → Spot A → Spot A
left_by k s = record { label = s.label; parent = s.parent; children = names_without k s.children }

-- the spot at q after the child k left its parent for another, or for none
abbrev pub moved : {A : Type 0} → Option ℕ → ℕ → ℕ → Spot A → Spot A
moved parent k q s =
    record { label = s.label; parent = cond (eqb q k) parent s.parent; children = names_without k s.children }

-- the spot at q after p got these children before that one, or at the end
abbrev pub joined_by : {A : Type 0} → ℕ → Option ℕ → List ℕ → ℕ → Spot A → Spot A
joined_by p before new q s =
    record { label = s.label; parent = s.parent; children = cond (eqb q p) (names_with before new s.children) s.children }

-- ---- options

pub option_or-assoc : {X : Type 0} (o p r : Option X) → option_or (option_or o p) r ≡ option_or o (option_or p r)
option_or-assoc None p r = refl
option_or-assoc (Some x) p r = refl

pub option_or-None : {X : Type 0} (o : Option X) → option_or o None ≡ o
option_or-None None = refl
option_or-None (Some x) = refl

pub option_map-option_or : {X Y : Type 0} (f : X → Y) (o p : Option X) → option_map f (option_or o p) ≡ option_or (option_map f o) (option_map f p)
option_map-option_or f None p = refl
option_map-option_or f (Some x) p = refl

pub option_map-same : {X : Type 0} (f : X → X) → ((x : X) → f x ≡ x) → (o : Option X) → option_map f o ≡ o
option_map-same f same None = refl
option_map-same f same (Some x) = ap (λ y. Some y) (same x)

NoRepeats-either : {A : Type 0} (o p : Option (Spot A)) → NoRepeats (children_at o) → NoRepeats (children_at p) → NoRepeats (children_at (option_or o p))
NoRepeats-either None p u v = v
NoRepeats-either (Some s) p u v = u

module _ {A : Type 0} (name : A → ℕ) where
  pub spot_below-joined : (p : Option ℕ) (s t : Trees A) (q : ℕ) → spot_below name p (joined s t) q ≡ option_or (spot_below name p s q) (spot_below name p t q)
  spot_below-joined p nil t q = refl
  spot_below-joined p (tree a below rest) t q =
      grind (arith, spot_below-joined p rest t q, option_or-assoc {X = Spot A})

  pub spot_below-absent : (p : Option ℕ) (t : Trees A) (q : ℕ) → count name q t ≡ 0 → spot_below name p t q ≡ None
  spot_below-absent p nil q e = refl
  spot_below-absent p (tree a below rest) q e =
      grind (arith, spot_below-absent (Some (name a)) below q, spot_below-absent p rest q)

  pub is_some-spot_below : (p : Option ℕ) (t : Trees A) (q : ℕ) → is_some (spot_below name p t q) ≡ has name q t
  is_some-spot_below p nil q = refl
  is_some-spot_below p (tree a below rest) q =
      grind (arith, is_some-spot_below (Some (name a)) below q, is_some-spot_below p rest q)

  pub name-spot_below : (p : Option ℕ) (t : Trees A) (q : ℕ) (s : Spot A) → spot_below name p t q ≡ Some s → name s.label ≡ q
  name-spot_below p nil q s e = absurd (grind arith)
  name-spot_below p (tree a below rest) q s e =
      grind (arith, name-spot_below (Some (name a)) below q s, name-spot_below p rest q s, eqb_tells (name a) q)

  pub spot_below-mapped : (change : A → A) → ((a : A) → name (change a) ≡ name a) → (p : Option ℕ) (t : Trees A) (q : ℕ) →
      spot_below name p (mapped change t) q ≡ option_map (relabelled change) (spot_below name p t q)
  spot_below-mapped change kept p nil q = refl
  spot_below-mapped change kept p (tree a below rest) q =
      grind (arith, kept a, spot_below-mapped change kept (Some (name a)) below q, spot_below-mapped change kept p rest q, names-mapped name change kept below, option_map-option_or {X = Spot A} {Y = Spot A})

  pub spot_below-inserted : (p before : Option ℕ) (new t : Trees A) (q : ℕ) → count name q new + count name q t < 2 →
      spot_below name p (inserted name before new t) q ≡ option_or (spot_below name p new q) (spot_below name p t q)
  spot_below-inserted p before new nil q once = sym (option_or-None (spot_below name p new q))
  spot_below-inserted p before new (tree a below rest) q once =
      grind (arith, spot_below-inserted p before new rest q, spot_below-joined p new (tree a below rest) q, spot_below-absent p new q, spot_below-absent (Some (name a)) below q)

  -- at a name that is outside the tree of k, that tree is gone from the children
  pub spot_below-without : (p : Option ℕ) (k : ℕ) (t : Trees A) (q : ℕ) → count name q (alone name k t) ≡ 0 →
      spot_below name p (without name k t) q ≡ option_map (left_by k) (spot_below name p t q)
  spot_below-without p k nil q e = refl
  spot_below-without p k (tree a below rest) q e =
      grind (arith, eqb_tells (name a) k, spot_below-without (Some (name a)) k below q, spot_below-without p k rest q, count-joined name q (alone name k below) (alone name k rest), spot_below-absent (Some (name a)) below q, names-without name k below, option_map-option_or {X = Spot A} {Y = Spot A})

  -- where k is absent its leaving changes nothing
  pub moved-absent : (p r : Option ℕ) (k : ℕ) (t : Trees A) (q : ℕ) → count name k t ≡ 0 →
      option_map (moved r k q) (spot_below name p t q) ≡ spot_below name p t q
  moved-absent p r k nil q e = refl
  moved-absent p r k (tree a below rest) q e =
      grind (arith, eqb_tells (name a) k, eqb_tells (name a) q, eqb_tells q k, moved-absent (Some (name a)) r k below q, moved-absent p r k rest q, names_without-absent name k below, option_map-option_or {X = Spot A} {Y = Spot A})

  -- at a name that is in the tree of k alone
  pub spot_below-alone : (p r : Option ℕ) (k : ℕ) (t : Trees A) (q : ℕ) → count name k t < 2 → count name q (without name k t) ≡ 0 →
      spot_below name r (alone name k t) q ≡ option_map (moved r k q) (spot_below name p t q)
  spot_below-alone p r k nil q once e = refl
  spot_below-alone p r k (tree a below rest) q once e =
      grind (arith, eqb_tells (name a) k, eqb_tells (name a) q, eqb_tells q k, spot_below-alone (Some (name a)) r k below q, spot_below-alone p r k rest q, spot_below-joined r (alone name k below) (alone name k rest) q, moved-absent (Some (name a)) r k below q, names_without-absent name k below, option_map-option_or {X = Spot A} {Y = Spot A})

  -- new trees below the one place p, at each name that is at most once after that
  pub spot_below-put_below : (r : Option ℕ) (p : ℕ) (before : Option ℕ) (new t : Trees A) (q : ℕ) → count name p t ≡ 1 → count name q new + count name q t < 2 →
      spot_below name r (put_below name p before new t) q
      ≡ option_or (spot_below name (Some p) new q) (option_map (joined_by p before (names name new) q) (spot_below name r t q))
  spot_below-put_below r p before new nil q there once = absurd (omega arith)
  spot_below-put_below r p before new (tree a below rest) q there once =
      grind (arith, eqb_tells (name a) p, eqb_tells (name a) q, eqb_tells q p, spot_below-put_below (Some (name a)) p before new below q, spot_below-put_below r p before new rest q, spot_below-inserted (Some (name a)) before new below q, names-inserted name before new below, names-put_below name p before new below, put_below-absent name p before new below, put_below-absent name p before new rest, spot_below-absent (Some p) new q, spot_below-absent (Some (name a)) below q, spot_below-absent r rest q)

  -- ---- trees are determined by where their names are

  -- what `at` says of each label is where it is in these trees, which are below this parent, if any
  abbrev Tells : (ℕ → Option (Spot A)) → Option ℕ → Trees A → Type 0
  Tells at parent nil = Unit {0}
  Tells at parent (tree a below rest) =
      (at (name a) ≡ Some (record { label = a; parent = parent; children = names name below })) × Tells at (Some (name a)) below × Tells at parent rest

  Tells-spot_below : (at : ℕ → Option (Spot A)) (p : Option ℕ) (t : Trees A) → IsDistinct name t →
      ((q : ℕ) → 0 < count name q t → at q ≡ spot_below name p t q) → Tells at p t
  Tells-spot_below at p nil once same = tt
  Tells-spot_below at p (tree a below rest) once same = (
    grind (arith, same (name a), eqb_tells (name a) (name a)),
    Tells-spot_below at (Some (name a)) below (λ q. omega (arith, once q)) (λ q some. grind
        (arith, same q, once q, eqb_tells (name a) q, is_some-spot_below (Some (name a)) below q)),
    Tells-spot_below at p rest (λ q. omega (arith, once q)) (λ q some. grind
        (arith, same q, once q, eqb_tells (name a) q, spot_below-absent (Some (name a)) below q)),
  )

  same_from_Tells : (at : ℕ → Option (Spot A)) (p : Option ℕ) (s t : Trees A) → names name s ≡ names name t → Tells at p s → Tells at p t → s ≡ t
  same_from_Tells at p nil nil e x y = refl
  same_from_Tells at p nil (tree b under more) e x y = absurd (grind arith)
  same_from_Tells at p (tree a below rest) nil e x y = absurd (grind arith)
  same_from_Tells at p (tree a below rest) (tree b under more) e x y =
      let first : name a ≡ name b = cc in
      let spots : ◌≡◌ {A = Option (Spot A)} (Some (record { label = a; parent = p; children = names name below }))
      (Some (record { label = b; parent = p; children = names name under })) = sym x.0 ∙ ap at first ∙ y.0 in
      let label : ◌≡◌ {A = Option A} (Some a) (Some b) = ap (option_map (λ (s : Spot A). s.label)) spots in
      let kids : ◌≡◌ {A = Option (List ℕ)} (Some (names name below)) (Some (names name under)) = ap (option_map (λ (s : Spot A). s.children)) spots in
      let labels : a ≡ b = cc in
      let children : names name below ≡ names name under = cc in
      let firsts : names name rest ≡ names name more = cc in
      let told : Tells at (Some (name a)) under = subst (λ n. Tells at (Some n) under) (sym first) y.1 in
      cc (same_from_Tells at (Some (name a)) below under children x.1 told, same_from_Tells at p rest more firsts x.2 y.2)

  pub same_trees : (s t : Trees A) → IsDistinct name s → IsDistinct name t → names name s ≡ names name t → ((q : ℕ) → spot name s q ≡ spot name t q) → s ≡ t
  same_trees s t once once' firsts same =
      same_from_Tells (spot name s) None s t firsts (Tells-spot_below (spot name s) None s once (λ q some. refl))
      (Tells-spot_below (spot name s) None t once' (λ q some. same q))

  -- ---- parents and children

  pub is_among-names : (t : Trees A) (q : ℕ) → count name q t ≡ 0 → is_among q (names name t) ≡ false
  is_among-names nil q e = refl
  is_among-names (tree a below rest) q e = grind (arith, is_among-names rest q)

  pub NoRepeats-names : (t : Trees A) → IsDistinct name t → NoRepeats (names name t)
  NoRepeats-names nil once = tt
  NoRepeats-names (tree a below rest) once =
      (is_among-names rest (name a) (grind (arith, once (name a), eqb_tells (name a) (name a))), NoRepeats-names rest (λ q. omega (arith, once q)))

  pub NoRepeats-children : (r : Option ℕ) (t : Trees A) (q : ℕ) → IsDistinct name t → NoRepeats (children_at (spot_below name r t q))
  NoRepeats-children r nil q once = tt
  NoRepeats-children r (tree a below rest) q once =
      elim (eqb_tells (name a) q) [
        | inl h ↦ rw h.0 (NoRepeats-names below (λ x. omega (arith, once x)))
        | inr h ↦
            rw h.0 (NoRepeats-either (spot_below name (Some (name a)) below q) (spot_below name r rest q)
            (NoRepeats-children (Some (name a)) below q (λ x. omega (arith, once x))) (NoRepeats-children r rest q (λ x. omega (arith, once x))))
      ]

  -- a child is in the trees
  pub count-child : (r : Option ℕ) (t : Trees A) (q c : ℕ) → count name c t ≡ 0 → is_among c (children_at (spot_below name r t q)) ≡ false
  count-child r nil q c e = refl
  count-child r (tree a below rest) q c e =
      grind (arith, count-child (Some (name a)) below q c, count-child r rest q c, is_among-names below c)

  -- so does a parent, unless all the trees are below it
  pub parent-absent : (r : Option ℕ) (t : Trees A) (q p : ℕ) → count name p t ≡ 0 → is_named r p ≡ false
      → is_named (parent_at (spot_below name r t q)) p ≡ false
  parent-absent r nil q p e n = refl
  parent-absent r (tree a below rest) q p e n =
      grind (arith, eqb_tells (name a) p, eqb_tells p (name a), parent-absent (Some (name a)) below q p, parent-absent r rest q p)

  parent_of_first : (t : Trees A) (q p : ℕ) → IsDistinct name t → count name p t ≡ 0
      → is_named (parent_at (spot_below name (Some p) t q)) p ≡ is_among q (names name t)
  parent_of_first nil q p once e = refl
  parent_of_first (tree a below rest) q p once e =
      grind (arith, once q, eqb_tells (name a) q, eqb_tells (name a) p, eqb_tells p (name a), eqb_tells p p, parent_of_first rest q p (λ x. omega (arith, once x)), parent-absent (Some (name a)) below q p, is_among-names rest q, is_some-spot_below (Some (name a)) below q)

  -- q is a child of p just where p is the parent of q
  pub is_among-children : (r : Option ℕ) (t : Trees A) (q p : ℕ) → IsDistinct name t → is_named r p ≡ false →
      is_among q (children_at (spot_below name r t p)) ≡ is_named (parent_at (spot_below name r t q)) p
  is_among-children r nil q p once n = refl
  is_among-children r (tree a below rest) q p once n =
      elim (eqb_tells (name a) p) [
        | inl h ↦
            grind (arith, h, once q, once p, eqb_tells (name a) q, parent_of_first below q (name a) (λ x. omega (arith, once x)), parent-absent r rest q (name a), is_among-names below q, spot_below-absent (Some (name a)) below q, is_some-spot_below (Some (name a)) below q)
        | inr h ↦
            grind (arith, h, once q, once p, eqb_tells (name a) q, eqb_tells p (name a), is_among-children (Some (name a)) below q p (λ x. omega (arith, once x)), is_among-children r rest q p (λ x. omega (arith, once x)), spot_below-absent (Some (name a)) below q, is_some-spot_below (Some (name a)) below q, is_some-spot_below (Some (name a)) below p, is_some-spot_below r rest q, spot_below-absent (Some (name a)) below p, spot_below-absent r rest p, spot_below-absent r rest q, count-child (Some (name a)) below p q, count-child r rest p q, parent-absent r rest q p, parent-absent (Some (name a)) below q p)
      ]

  -- below a parent each name has a parent
  pub parent-present : (p : ℕ) (t : Trees A) (q : ℕ) → 0 < count name q t → is_some (parent_at (spot_below name (Some p) t q)) ≡ true
  parent-present p nil q some = absurd (omega arith)
  parent-present p (tree a below rest) q some =
      grind (arith, eqb_tells (name a) q, parent-present (name a) below q, parent-present p rest q, spot_below-absent (Some (name a)) below q, is_some-spot_below (Some (name a)) below q)

  -- the first names are those that are there and have no parent
  pub is_among-firsts : (t : Trees A) (q : ℕ) → IsDistinct name t → is_among q (names name t) ≡ (has name q t && is_none (parent_at (spot name t q)))
  is_among-firsts nil q once = refl
  is_among-firsts (tree a below rest) q once =
      grind (arith, once q, eqb_tells (name a) q, is_among-firsts rest q (λ x. omega (arith, once x)), parent-present (name a) below q, is_some-spot_below (Some (name a)) below q, spot_below-absent (Some (name a)) below q, is_among-names rest q)

  -- nothing is its own child
  pub is_among-children_self : (r : Option ℕ) (t : Trees A) (q : ℕ) → IsDistinct name t → is_among q (children_at (spot_below name r t q)) ≡ false
  is_among-children_self r nil q once = refl
  is_among-children_self r (tree a below rest) q once =
      grind (arith, once q, eqb_tells (name a) q, is_among-names below q, is_among-children_self (Some (name a)) below q (λ x. omega (arith, once x)), is_among-children_self r rest q (λ x. omega (arith, once x)))

  -- the children, by the other definition
  pub children_at-spot_below : (r : Option ℕ) (t : Trees A) (q : ℕ) → IsDistinct name t → children_at (spot_below name r t q) ≡ children_of name q t
  children_at-spot_below r nil q once = refl
  children_at-spot_below r (tree a below rest) q once =
      grind (arith, once q, eqb_tells (name a) q, children_at-spot_below (Some (name a)) below q (λ x. omega (arith, once x)), children_at-spot_below r rest q (λ x. omega (arith, once x)), children_of-absent name q below, children_of-absent name q rest, spot_below-absent (Some (name a)) below q, is_some-spot_below (Some (name a)) below q, append-nil (children_of name q below), append-nil (names name below))
