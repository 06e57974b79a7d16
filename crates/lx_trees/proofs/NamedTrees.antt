-- The laws of trees whose labels have names: one after another, where a name is absent, and after edits.
use Rattle.std.proofs.Common.{length, length-append, ◌≡◌, ℕ, ◌+◌, ◌≤◌, Bool, true, false, cond, eqb, List, [], ◌∷◌, ◌++◌, Option, refl, ap, arith, append_assoc}
use Rattle.std.proofs.lemmas.Bool.Decides.{eqb_tells}
use Rattle.lx_trees.specs.Trees.{Trees, nil, tree, joined}
use Rattle.lx_trees.specs.NamedTrees.{IsDistinct, has, total, mapped, count, names, preorder, without, alone, children_of, inserted, put_below}
use Rattle.lx_trees.specs.Siblings.{is_among, NoRepeats, names_without, names_with}
use Rattle.lx_trees.proofs.Siblings.{is_among-append, NoRepeats-append}

-- ---- one after another

pub joined-nil : {A : Type 0} (s : Trees A) → joined s nil ≡ s
joined-nil nil = refl
joined-nil (tree a below rest) = ap (tree a below) (joined-nil rest)

pub joined-assoc : {A : Type 0} (r s t : Trees A) → joined (joined r s) t ≡ joined r (joined s t)
joined-assoc nil s t = refl
joined-assoc (tree a below rest) s t = ap (tree a below) (joined-assoc rest s t)

pub total-joined : {A : Type 0} (s t : Trees A) → total (joined s t) ≡ total s + total t
total-joined nil t = omega arith
total-joined (tree a below rest) t = omega (arith, total-joined rest t)

pub total-mapped : {A : Type 0} (change : A → A) (t : Trees A) → total (mapped change t) ≡ total t
total-mapped change nil = refl
total-mapped change (tree a below rest) = rw (total-mapped change below, total-mapped change rest)

pub mapped-joined : {A : Type 0} (change : A → A) (s t : Trees A) → mapped change (joined s t) ≡ joined (mapped change s) (mapped change t)
mapped-joined change nil t = refl
mapped-joined change (tree a below rest) t = ap (tree (change a) (mapped change below)) (mapped-joined change rest t)

module _ {A : Type 0} (name : A → ℕ) where
  pub count-joined : (q : ℕ) (s t : Trees A) → count name q (joined s t) ≡ count name q s + count name q t
  count-joined q nil t = omega arith
  count-joined q (tree a below rest) t = omega (arith, count-joined q rest t)

  pub names-joined : (s t : Trees A) → names name (joined s t) ≡ names name s ++ names name t
  names-joined nil t = refl
  names-joined (tree a below rest) t = ap (λ xs. name a ∷ xs) (names-joined rest t)

  pub preorder-joined : (s t : Trees A) → preorder name (joined s t) ≡ preorder name s ++ preorder name t
  preorder-joined nil t = refl
  preorder-joined (tree a below rest) t = rw (preorder-joined rest t, append_assoc)

  pub without-joined : (k : ℕ) (s t : Trees A) → without name k (joined s t) ≡ joined (without name k s) (without name k t)
  without-joined k nil t = refl
  without-joined k (tree a below rest) t = grind (arith, without-joined k rest t)

  pub alone-joined : (k : ℕ) (s t : Trees A) → alone name k (joined s t) ≡ joined (alone name k s) (alone name k t)
  alone-joined k nil t = refl
  alone-joined k (tree a below rest) t = grind (arith, alone-joined k rest t, joined-assoc {A = A})

  pub put_below-joined : (p : ℕ) (before : Option ℕ) (new s t : Trees A)
      → put_below name p before new (joined s t) ≡ joined (put_below name p before new s) (put_below name p before new t)
  put_below-joined p before new nil t = refl
  put_below-joined p before new (tree a below rest) t =
      ap (tree a (cond (eqb (name a) p) (inserted name before new below) (put_below name p before new below))) (put_below-joined p before new rest t)

  pub children_of-joined : (q : ℕ) (s t : Trees A) → children_of name q (joined s t) ≡ children_of name q s ++ children_of name q t
  children_of-joined q nil t = refl
  children_of-joined q (tree a below rest) t = rw (children_of-joined q rest t, append_assoc)

  -- ---- where a name is absent

  absent_parts : (b : Bool) (m n : ℕ) → cond b 1 0 + m + n ≡ 0 → (b ≡ false) × (m ≡ 0) × (n ≡ 0)
  absent_parts true m n e = absurd (omega arith)
  absent_parts false m n e = (refl, omega arith, omega arith)

  pub without-absent : (k : ℕ) (t : Trees A) → count name k t ≡ 0 → without name k t ≡ t
  without-absent k nil e = refl
  without-absent k (tree a below rest) e = grind (arith, without-absent k below, without-absent k rest)

  pub alone-absent : (k : ℕ) (t : Trees A) → count name k t ≡ 0 → alone name k t ≡ nil
  alone-absent k nil e = refl
  alone-absent k (tree a below rest) e = grind (arith, alone-absent k below, alone-absent k rest)

  pub put_below-absent : (p : ℕ) (before : Option ℕ) (new t : Trees A) → count name p t ≡ 0 → put_below name p before new t ≡ t
  put_below-absent p before new nil e = refl
  put_below-absent p before new (tree a below rest) e = grind (arith, put_below-absent p before new below, put_below-absent p before new rest)

  pub children_of-absent : (q : ℕ) (t : Trees A) → count name q t ≡ 0 → children_of name q t ≡ []
  children_of-absent q nil e = refl
  children_of-absent q (tree a below rest) e = grind (arith, children_of-absent q below, children_of-absent q rest)

  -- ---- counts after edits

  pub count-without-alone : (q k : ℕ) (t : Trees A) → count name q (without name k t) + count name q (alone name k t) ≡ count name q t
  count-without-alone q k nil = omega arith
  count-without-alone q k (tree a below rest) =
      grind (arith, count-without-alone q k below, count-without-alone q k rest, count-joined q (alone name k below) (alone name k rest))

  pub count-without : (k : ℕ) (t : Trees A) → count name k (without name k t) ≡ 0
  count-without k nil = refl
  count-without k (tree a below rest) = grind (arith, count-without k below, count-without k rest, eqb_tells (name a) k)

  pub count-inserted : (q : ℕ) (before : Option ℕ) (new t : Trees A) → count name q (inserted name before new t) ≡ count name q new + count name q t
  count-inserted q before new nil = omega arith
  count-inserted q before new (tree a below rest) =
      grind (arith, count-inserted q before new rest, count-joined q new (tree a below rest))

  pub count-put_below : (q p : ℕ) (before : Option ℕ) (new t : Trees A) → count name p t ≡ 1
      → count name q (put_below name p before new t) ≡ count name q new + count name q t
  count-put_below q p before new nil once = absurd (omega arith)
  count-put_below q p before new (tree a below rest) once =
      grind (arith, count-put_below q p before new below, count-put_below q p before new rest, count-inserted q before new below, put_below-absent p before new below, put_below-absent p before new rest)

  pub count-mapped : (change : A → A) → ((a : A) → name (change a) ≡ name a) → (q : ℕ) (t : Trees A) → count name q (mapped change t) ≡ count name q t
  count-mapped change kept q nil = refl
  count-mapped change kept q (tree a below rest) = rw (kept a, count-mapped change kept q below, count-mapped change kept q rest)

  pub alone-mapped : (change : A → A) → ((a : A) → name (change a) ≡ name a) → (k : ℕ) (t : Trees A)
      → alone name k (mapped change t) ≡ mapped change (alone name k t)
  alone-mapped change kept k nil = refl
  alone-mapped change kept k (tree a below rest) =
      grind (arith, kept a, alone-mapped change kept k below, alone-mapped change kept k rest, mapped-joined change (alone name k below) (alone name k rest))

  -- ---- how many labels

  pub total-without-alone : (k : ℕ) (t : Trees A) → total (without name k t) + total (alone name k t) ≡ total t
  total-without-alone k nil = omega arith
  total-without-alone k (tree a below rest) =
      grind (arith, total-without-alone k below, total-without-alone k rest, total-joined (alone name k below) (alone name k rest))

  pub total-inserted : (before : Option ℕ) (new t : Trees A) → total (inserted name before new t) ≡ total new + total t
  total-inserted before new nil = omega arith
  total-inserted before new (tree a below rest) =
      grind (arith, total-inserted before new rest, total-joined new (tree a below rest))

  pub total-put_below : (p : ℕ) (before : Option ℕ) (new t : Trees A) → count name p t ≡ 1 → total (put_below name p before new t) ≡ total new + total t
  total-put_below p before new nil once = absurd (omega arith)
  total-put_below p before new (tree a below rest) once =
      grind (arith, total-put_below p before new below, total-put_below p before new rest, total-inserted before new below, put_below-absent p before new below, put_below-absent p before new rest)

  -- a name that is there is a label's
  pub count-le-total : (q : ℕ) (t : Trees A) → count name q t ≤ total t
  count-le-total q nil = omega arith
  count-le-total q (tree a below rest) = grind (arith, count-le-total q below, count-le-total q rest)

  -- ---- the first names

  pub names_without-append : (k : ℕ) (xs ys : List ℕ) → names_without k (xs ++ ys) ≡ names_without k xs ++ names_without k ys
  names_without-append k [] ys = refl
  names_without-append k (x ∷ xs) ys = grind (arith, names_without-append k xs ys)

  pub names-without : (k : ℕ) (t : Trees A) → names name (without name k t) ≡ names_without k (names name t)
  names-without k nil = refl
  names-without k (tree a below rest) = grind (arith, names-without k rest)

  pub names-inserted : (before : Option ℕ) (new t : Trees A) → names name (inserted name before new t) ≡ names_with before (names name new) (names name t)
  names-inserted before new nil = refl
  names-inserted before new (tree a below rest) = grind (arith, names-inserted before new rest, names-joined new (tree a below rest))

  pub names-put_below : (p : ℕ) (before : Option ℕ) (new t : Trees A) → names name (put_below name p before new t) ≡ names name t
  names-put_below p before new nil = refl
  names-put_below p before new (tree a below rest) = ap (λ xs. name a ∷ xs) (names-put_below p before new rest)

  pub names-mapped : (change : A → A) → ((a : A) → name (change a) ≡ name a) → (t : Trees A) → names name (mapped change t) ≡ names name t
  names-mapped change kept nil = refl
  names-mapped change kept (tree a below rest) = rw (kept a, names-mapped change kept rest)

  -- a name that is nowhere isn't among the first
  pub names_without-absent : (k : ℕ) (t : Trees A) → count name k t ≡ 0 → names_without k (names name t) ≡ names name t
  names_without-absent k nil e = refl
  names_without-absent k (tree a below rest) e = grind (arith, names_without-absent k rest)

  -- a tree alone comes first
  pub names-alone : (k : ℕ) (t : Trees A) → count name k t ≡ 1 → names name (alone name k t) ≡ k ∷ []
  names-alone k nil e = absurd (omega arith)
  names-alone k (tree a below rest) e =
      grind (arith, names-alone k below, names-alone k rest, alone-absent k below, alone-absent k rest, eqb_tells (name a) k, joined-nil (alone name k below))

  -- ---- all names

  pub preorder-mapped : (change : A → A) → ((a : A) → name (change a) ≡ name a) → (t : Trees A) → preorder name (mapped change t) ≡ preorder name t
  preorder-mapped change kept nil = refl
  preorder-mapped change kept (tree a below rest) = rw (kept a, preorder-mapped change kept below, preorder-mapped change kept rest)

  pub is_among-preorder : (q : ℕ) (t : Trees A) → is_among q (preorder name t) ≡ has name q t
  is_among-preorder q nil = refl
  is_among-preorder q (tree a below rest) =
      grind (arith, is_among-preorder q below, is_among-preorder q rest, is_among-append q (preorder name below) (preorder name rest))

  pub length-preorder : (t : Trees A) → length (preorder name t) ≡ total t
  length-preorder nil = refl
  length-preorder (tree a below rest) =
      omega (arith, length-preorder below, length-preorder rest, length-append (preorder name below) (preorder name rest))

  pub NoRepeats-preorder : (t : Trees A) → IsDistinct name t → NoRepeats (preorder name t)
  NoRepeats-preorder nil once = tt
  NoRepeats-preorder (tree a below rest) once = (
    grind (arith, once (name a), eqb_tells (name a) (name a), is_among-append (name a) (preorder name below) (preorder name rest), is_among-preorder (name a) below, is_among-preorder (name a) rest),
    NoRepeats-append (preorder name below) (preorder name rest) (NoRepeats-preorder below (λ q. omega (arith, once q))) (NoRepeats-preorder rest
        (λ q. omega (arith, once q))) (λ q. grind (arith, once q, is_among-preorder q below, is_among-preorder q rest)),
  )
