-- All names in preorder after trees leave or come.
use Rattle.std.proofs.Common.{◌≡◌, ℕ, ◌<◌, Bool, true, false, eqb, not, List, [], ◌∷◌, ◌++◌, Option, None, Some, refl, sym, ap, ◌∙◌, arith, append_assoc, subst, inl, inr}
use Rattle.std.specs.Prelude.{unwrap_or}
use Rattle.std.specs.List.{filter}
use Rattle.std.specs.Option.{option_or}
use Rattle.std.proofs.lemmas.List.{append-nil}
use Rattle.std.proofs.lemmas.List.Elements.{filter-append}
use Rattle.std.proofs.lemmas.Bool.{cases_lt}
use Rattle.std.proofs.lemmas.Bool.Decides.{eqb_tells}
use Rattle.lx_trees.specs.Trees.{Trees, nil, tree}
use Rattle.lx_trees.specs.NamedTrees.{IsDistinct, count, has, names, preorder, without, alone, inserted, put_below}
use Rattle.lx_trees.specs.Siblings.{is_among, NoRepeats, first_of, names_with, is_place}
use Rattle.lx_trees.specs.Spots.{children_at, spot_below, spot}
use Rattle.lx_trees.specs.Walks.{behind_before, behind}
use Rattle.lx_trees.proofs.NamedTrees.{alone-absent, count-joined, without-absent, put_below-absent, preorder-joined, is_among-preorder, NoRepeats-preorder}
use Rattle.lx_trees.proofs.Siblings.{is_among-append}
use Rattle.lx_trees.proofs.Spots.{count-child, is_among-names, is_some-spot_below, spot_below-absent}
use Rattle.lx_trees.proofs.Subtrees.{count-alone-le}
use Rattle.lx_trees.proofs.Walks.{behind_before-below, behind_before-rest}

-- ---- lists of names

filter-all : (keep : ℕ → Bool) (xs : List ℕ) → ((q : ℕ) → is_among q xs ≡ true → keep q ≡ true) → filter keep xs ≡ xs
filter-all keep [] each = refl
filter-all keep (x ∷ xs) each =
    rw (each x (grind (arith, eqb_tells x x)), filter-all keep xs (λ q among. each q (grind (arith, among))))

filter-none : (keep : ℕ → Bool) (xs : List ℕ) → ((q : ℕ) → is_among q xs ≡ true → keep q ≡ false) → filter keep xs ≡ []
filter-none keep [] each = refl
filter-none keep (x ∷ xs) each =
    rw (each x (grind (arith, eqb_tells x x))) (filter-none keep xs (λ q among. each q (grind (arith, among))))

-- new names before one: what is ahead of that, and what comes after, stays
names_with-behind : (b : ℕ) (new xs ys : List ℕ) → is_among b xs ≡ false → names_with (Some b) new (xs ++ ys) ≡ xs ++ names_with (Some b) new ys
names_with-behind b new [] ys e = refl
names_with-behind b new (x ∷ xs) ys e = grind (arith, eqb_tells x b, eqb_tells b x, names_with-behind b new xs ys)

names_with-ahead : (b : ℕ) (new xs ys : List ℕ) → is_among b xs ≡ true → names_with (Some b) new (xs ++ ys) ≡ names_with (Some b) new xs ++ ys
names_with-ahead b new [] ys e = absurd (grind arith)
names_with-ahead b new (x ∷ xs) ys e = grind (arith, eqb_tells x b, eqb_tells b x, names_with-ahead b new xs ys, append_assoc new (x ∷ xs) ys)

names_with-last : (new xs : List ℕ) → names_with None new xs ≡ xs ++ new
names_with-last new [] = refl
names_with-last new (x ∷ xs) = ap (λ ys. x ∷ ys) (names_with-last new xs)

-- new names between a front and what comes after it
names_with-first_of : (new xs ys : List ℕ) → NoRepeats (xs ++ ys) → names_with (first_of ys) new (xs ++ ys) ≡ xs ++ (new ++ ys)
names_with-first_of new xs [] u = rw (append-nil xs, append-nil new) (names_with-last new xs)
names_with-first_of new [] (y ∷ ys) u = grind (arith, eqb_tells y y)
names_with-first_of new (x ∷ xs) (y ∷ ys) u =
    grind (arith, names_with-first_of new xs (y ∷ ys), is_among-append x xs (y ∷ ys), eqb_tells x y, eqb_tells y x)

module _ {A : Type 0} (name : A → ℕ) where
  -- ---- a tree leaves

  -- the names that are kept are those outside the tree that left
  pub preorder-without : (keep : ℕ → Bool) (k : ℕ) (t : Trees A) → IsDistinct name t
      → ((q : ℕ) → 0 < count name q t → keep q ≡ not (has name q (alone name k t))) → preorder name (without name k t) ≡ filter keep (preorder name t)
  preorder-without keep k nil once says = refl
  preorder-without keep k (tree a below rest) once says =
      elim (eqb_tells (name a) k) [
        | inl own ↦
            let none : filter keep (preorder name below) ≡ [] =
            filter-none keep (preorder name below) (λ q among. grind (arith, own, among, says q, is_among-preorder name q below)) in
            let all : filter keep (preorder name rest) ≡ preorder name rest =
            filter-all keep (preorder name rest)
            (λ q among. grind (arith, own, among, says q, once q, once k, is_among-preorder name q rest, alone-absent name k rest)) in
            grind (arith, own, none, all, says (name a), once k, eqb_tells (name a) (name a), without-absent name k rest, filter-append keep (preorder name below) (preorder name rest))
        | inr other ↦
            let stays : keep (name a) ≡ true =
            grind (arith, other, says (name a), once (name a), eqb_tells (name a) (name a), count-joined name (name a) (alone name k below) (alone name k rest), count-alone-le name (name a) k below, count-alone-le name (name a) k rest) in
            let inner : preorder name (without name k below) ≡ filter keep (preorder name below) =
            preorder-without keep k below (λ q. omega (arith, once q))
            (λ q some. grind
            (arith, some, other, says q, once q, count-joined name q (alone name k below) (alone name k rest), count-alone-le name q k rest)) in
            let outer : preorder name (without name k rest) ≡ filter keep (preorder name rest) =
            preorder-without keep k rest (λ q. omega (arith, once q))
            (λ q some. grind
            (arith, some, other, says q, once q, count-joined name q (alone name k below) (alone name k rest), count-alone-le name q k below)) in
            grind (arith, other, stays, inner, outer, filter-append keep (preorder name below) (preorder name rest))
      ]

  -- ---- trees come

  preorder-inserted_before : (b : ℕ) (new t : Trees A) → IsDistinct name t → is_among b (names name t) ≡ true
      → preorder name (inserted name (Some b) new t) ≡ names_with (Some b) (preorder name new) (preorder name t)
  preorder-inserted_before b new nil once e = absurd (grind arith)
  preorder-inserted_before b new (tree a below rest) once e =
      elim (eqb_tells (name a) b) [
        | inl own ↦ grind (arith, own, eqb_tells b (name a), preorder-joined name new (tree a below rest))
        | inr other ↦
            let there : 0 < count name b rest = grind (arith, other, e, is_among-names name rest b) in
            let ahead : is_among b (preorder name below) ≡ false = grind (arith, there, once b, is_among-preorder name b below) in
            grind (arith, other, e, eqb_tells b (name a), names_with-behind b (preorder name new) (preorder name below) (preorder name rest) ahead, preorder-inserted_before b new rest (λ q. omega (arith, once q)))
      ]

  preorder-inserted_last : (new t : Trees A) → preorder name (inserted name None new t) ≡ preorder name t ++ preorder name new
  preorder-inserted_last new nil = refl
  preorder-inserted_last new (tree a below rest) = rw (preorder-inserted_last new rest, append_assoc)

  -- before a child of p
  come_before : (r : Option ℕ) (p b : ℕ) (new t : Trees A) → IsDistinct name t → is_among b (children_at (spot_below name r t p)) ≡ true
      → preorder name (put_below name p (Some b) new t) ≡ names_with (Some b) (preorder name new) (preorder name t)
  come_before r p b new nil once e = absurd (grind arith)
  come_before r p b new (tree a below rest) once e =
      elim (eqb_tells (name a) p) [
        | inl own ↦
            let there : 0 < count name b below = grind (arith, own, e, is_among-names name below b) in
            let inside : is_among b (preorder name below) ≡ true = grind (arith, there, is_among-preorder name b below) in
            grind (arith, own, e, there, once p, once b, eqb_tells b (name a), eqb_tells (name a) b, put_below-absent name p (Some b) new rest, preorder-inserted_before b new below (λ q. omega (arith, once q)), names_with-ahead b (preorder name new) (preorder name below) (preorder name rest) inside)
        | inr other ↦ elim (cases_lt 0 (count name p below)) [
          | inl inner ↦
              let child : is_among b (children_at (spot_below name (Some (name a)) below p)) ≡ true =
              grind (arith, other, e, inner, is_some-spot_below name (Some (name a)) below p) in
              let there : 0 < count name b below = grind (arith, child, count-child name (Some (name a)) below p b) in
              let inside : is_among b (preorder name below) ≡ true = grind (arith, there, is_among-preorder name b below) in
              grind (arith, other, there, inner, once p, once b, eqb_tells b (name a), eqb_tells (name a) b, put_below-absent name p (Some b) new rest, come_before (Some (name a)) p b new below (λ q. omega (arith, once q)) child, names_with-ahead b (preorder name new) (preorder name below) (preorder name rest) inside)
          | inr outer ↦
              let child : is_among b (children_at (spot_below name r rest p)) ≡ true =
              grind (arith, other, e, outer, spot_below-absent name (Some (name a)) below p) in
              let there : 0 < count name b rest = grind (arith, child, count-child name r rest p b) in
              let ahead : is_among b (preorder name below) ≡ false = grind (arith, there, once b, is_among-preorder name b below) in
              grind (arith, other, there, outer, once b, eqb_tells b (name a), eqb_tells (name a) b, put_below-absent name p (Some b) new below, come_before r p b new rest (λ q. omega (arith, once q)) child, names_with-behind b (preorder name new) (preorder name below) (preorder name rest) ahead)
        ]
      ]

  -- The names up to the end of the tree of p are the front: after it the rest goes on, and there new ones come.
  record IsFront (after : List ℕ) (p : ℕ) (new t : Trees A) (front : List ℕ) : Type 0 where
    split : preorder name t ++ after ≡ front ++ unwrap_or (behind_before name after t p) []
    come : preorder name (put_below name p None new t) ++ after ≡ front ++ (preorder name new ++ unwrap_or (behind_before name after t p) [])

  front_here : (after : List ℕ) (p : ℕ) (new : Trees A) (a : A) (below rest : Trees A) → eqb (name a) p ≡ true → count name p rest ≡ 0
      → IsFront after p new (tree a below rest) (name a ∷ preorder name below)
  front_here after p new a below rest own gone = record {
    split = rw own (ap (λ ks. name a ∷ ks) (append_assoc (preorder name below) (preorder name rest) after));
    come = rw (own, put_below-absent name p None new rest gone, preorder-inserted_last new below) (ap (λ ks. name a ∷ ks) (simp append_assoc));
  }

  front_below : (after : List ℕ) (p : ℕ) (new : Trees A) (a : A) (below rest : Trees A) (front : List ℕ) → eqb (name a) p ≡ false → count name p rest ≡ 0
      → behind_before name after (tree a below rest) p ≡ behind_before name (preorder name rest ++ after) below p →
      IsFront (preorder name rest ++ after) p new below front → IsFront after p new (tree a below rest) (name a ∷ front)
  front_below after p new a below rest front other gone same lower = record {
    split = rw same (ap (λ ks. name a ∷ ks) (append_assoc (preorder name below) (preorder name rest) after ∙ lower.split));
    come = rw (same, other, put_below-absent name p None new rest gone)
        (ap (λ ks. name a ∷ ks) (append_assoc (preorder name (put_below name p None new below)) (preorder name rest) after ∙ lower.come));
  }

  front_rest : (after : List ℕ) (p : ℕ) (new : Trees A) (a : A) (below rest : Trees A) (front : List ℕ) → eqb (name a) p ≡ false → count name p below ≡ 0
      → behind_before name after (tree a below rest) p ≡ behind_before name after rest p →
      IsFront after p new rest front → IsFront after p new (tree a below rest) (name a ∷ preorder name below ++ front)
  front_rest after p new a below rest front other gone same later = record {
    split = rw same
        (ap (λ ks. name a ∷ ks)
        (append_assoc (preorder name below) (preorder name rest) after ∙ ap (λ ks. preorder name below ++ ks) later.split
        ∙ sym (append_assoc (preorder name below) front (unwrap_or (behind_before name after rest p) []))));
    come = rw (same, other, put_below-absent name p None new below gone)
        (ap (λ ks. name a ∷ ks)
        (append_assoc (preorder name below) (preorder name (put_below name p None new rest)) after ∙ ap (λ ks. preorder name below ++ ks) later.come
        ∙ sym (append_assoc (preorder name below) front (preorder name new ++ unwrap_or (behind_before name after rest p) []))));
  }

  -- after the children of p
  come_last : (after : List ℕ) (p : ℕ) (new t : Trees A) → IsDistinct name t → 0 < count name p t → (front : List ℕ) × IsFront after p new t front
  come_last after p new nil once some = absurd (omega arith)
  come_last after p new (tree a below rest) once some =
      elim (eqb_tells (name a) p) [
        | inl own ↦ (name a ∷ preorder name below, front_here after p new a below rest own.0 (grind (arith, own, once p)))
        | inr other ↦ elim (cases_lt 0 (count name p below)) [
          | inl inner ↦
              let lower = come_last (preorder name rest ++ after) p new below (λ q. omega (arith, once q)) inner in
              (name a ∷ lower.0, front_below after p new a below rest lower.0 other.0 (grind (arith, inner, once p)) (behind_before-below name after a below rest p (once p) inner) lower.1)
          | inr outer ↦
              let there : 0 < count name p rest = grind (arith, other, some, outer) in
              let later = come_last after p new rest (λ q. omega (arith, once q)) there in
              (name a ∷ preorder name below ++ later.0, front_rest after p new a below rest later.0 other.0 (omega arith) (behind_before-rest name after a below rest p (once p) there) later.1)
        ]
      ]

  -- the names with new ones before that child of p, or else before what comes after p
  pub preorder-put_below : (p : ℕ) (before : Option ℕ) (new t : Trees A) → IsDistinct name t → 0 < count name p t
      → is_place before (children_at (spot name t p)) ≡ true →
      preorder name (put_below name p before new t) ≡ names_with (option_or before (first_of (behind name t p))) (preorder name new) (preorder name t)
  preorder-put_below p (Some b) new t once some e = come_before None p b new t once e
  preorder-put_below p None new t once some e =
      let cut = come_last [] p new t once some in
      let split : preorder name t ≡ cut.0 ++ behind name t p = sym (append-nil (preorder name t)) ∙ cut.1.split in
      sym (append-nil (preorder name (put_below name p None new t)))
      ∙ cut.1.come
      ∙ sym (names_with-first_of (preorder name new) cut.0 (behind name t p) (subst NoRepeats split (NoRepeats-preorder name t once)))
      ∙ ap (names_with (first_of (behind name t p)) (preorder name new)) (sym split)
