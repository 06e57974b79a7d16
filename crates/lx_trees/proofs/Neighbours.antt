-- The laws of siblings: neighbours have one parent, and what edits do to the list in which a name is.
use Rattle.std.proofs.Common.{◌≡◌, ℕ, true, false, cond, eqb, [], ◌∷◌, Option, None, Some, ap, ◌∙◌, arith, inl, inr}
use Rattle.std.proofs.lemmas.Bool.Decides.{eqb_tells}
use Rattle.lx_trees.specs.Siblings.{is_named, is_among, NoRepeats, names_without, names_with, place_behind}
use Rattle.lx_trees.proofs.Siblings.{is_named_tells, next_in-among, previous_from-among}
use Rattle.lx_trees.proofs.Lookups.{NoRepeats-children_of, children_of-put_in, children_of-take_out, children_of-with_new, is_among-children_of, parent_of-put_in, parent_of-take_out, parent_of-with_new}
use Rattle.lx_trees.proofs.Attached.{cases_option}
use Rattle.lx_trees.specs.Trees.{Trees}
use Rattle.lx_trees.specs.NamedTrees.{has}
use Rattle.lx_trees.specs.Lookups.{parent_of, children_of, children_below, siblings, previous_of, next_of, IsOrdered}
use Rattle.lx_trees.specs.Edits.{with_new, take_out, put_in, CanPut}

eqb-comm : (a b : ℕ) → eqb a b ≡ eqb b a
eqb-comm a b = grind (arith, eqb_tells a b, eqb_tells b a)

module _ {A : Type 0} (name : A → ℕ) where
  pub parent_of-next : (f : Trees A) (q n p : ℕ) → IsOrdered name f → parent_of name f q ≡ Some p → next_of name f q ≡ Some n → parent_of name f n ≡ Some p
  parent_of-next f q n p h up e =
      let among : is_among n (children_of name f p) ≡ true = next_in-among (children_of name f p) q n (rw up at e) in
      grind (arith, among, is_among-children_of name f n p h, is_named_tells (parent_of name f n) p)

  pub parent_of-previous : (f : Trees A) (q n p : ℕ) → IsOrdered name f → parent_of name f q ≡ Some p → previous_of name f q ≡ Some n
      → parent_of name f n ≡ Some p
  parent_of-previous f q n p h up e =
      let among : is_among n (children_of name f p) ≡ true = previous_from-among None (children_of name f p) q n (rw up at e) in
      grind (arith, among, is_among-children_of name f n p h, is_named_tells (parent_of name f n) p)

  pub NoRepeats-siblings : (f : Trees A) (q : ℕ) → IsOrdered name f → NoRepeats (siblings name f q)
  NoRepeats-siblings f q h = below (parent_of name f q) where
    below : (o : Option ℕ) → NoRepeats (children_below name f o)
    below None = tt
    below (Some p) = NoRepeats-children_of name f p h

  pub siblings-agree : (f g : Trees A) (q : ℕ) → parent_of name g q ≡ parent_of name f q
      → ((p : ℕ) → parent_of name f q ≡ Some p → children_of name g p ≡ children_of name f p) → siblings name g q ≡ siblings name f q
  siblings-agree f g q e same =
      elim (cases_option (parent_of name f q)) [
        | inl none ↦ rw (e, none)
        | inr (p, some) ↦ rw (e, some) (same p some)
      ]

  -- the name after which one comes that comes before a child
  pub place_behind-previous_of : (f : Trees A) (p b : ℕ) → parent_of name f b ≡ Some p → place_behind (Some b) (children_of name f p) ≡ previous_of name f b
  place_behind-previous_of f p b up = rw up

  pub siblings-with_new : (l : A) (f : Trees A) (q : ℕ) → IsOrdered name f → has name (name l) f ≡ false
      → siblings name (with_new name l f) q ≡ siblings name f q
  siblings-with_new l f q h free =
      siblings-agree f (with_new name l f) q (parent_of-with_new name l f q h free) (λ p up. children_of-with_new name l f p h free)

  pub siblings-take_out : (k : ℕ) (f : Trees A) (q : ℕ) → IsOrdered name f → eqb q k ≡ false
      → siblings name (take_out name k f) q ≡ names_without k (siblings name f q)
  siblings-take_out k f q h d =
      elim (cases_option (parent_of name f q)) [
        | inl none ↦ rw (parent_of-take_out name k f q h, d, none)
        | inr (p, some) ↦ rw (parent_of-take_out name k f q h, d, some) (children_of-take_out name k f p h)
      ]

  pub siblings-take_out_self : (k : ℕ) (f : Trees A) → IsOrdered name f → siblings name (take_out name k f) k ≡ []
  siblings-take_out_self k f h =
      let own : eqb k k ≡ true = grind (arith, eqb_tells k k) in
      rw (parent_of-take_out name k f k h, own)

  pub siblings-put_in_self : (p : ℕ) (before : Option ℕ) (k : ℕ) (f : Trees A) → IsOrdered name f → CanPut name p k f
      → siblings name (put_in name p before k f) k ≡ names_with before (k ∷ []) (children_of name f p)
  siblings-put_in_self p before k f h c =
      let own : eqb k k ≡ true = grind (arith, eqb_tells k k) in
      let there : eqb p p ≡ true = grind (arith, eqb_tells p p) in
      rw (parent_of-put_in name p before k f k h c, own) (children_of-put_in name p before k f p h c ∙ rw there)

  pub siblings-put_in : (p : ℕ) (before : Option ℕ) (k : ℕ) (f : Trees A) (q : ℕ) → IsOrdered name f → CanPut name p k f → eqb q k ≡ false
      → siblings name (put_in name p before k f) q ≡ cond (is_named (parent_of name f q) p) (names_with before (k ∷ []) (siblings name f q)) (siblings name f q)
  siblings-put_in p before k f q h c d =
      elim (cases_option (parent_of name f q)) [
        | inl none ↦ rw (parent_of-put_in name p before k f q h c, d, none)
        | inr (r, some) ↦
            rw (parent_of-put_in name p before k f q h c, d, some)
            (children_of-put_in name p before k f r h c
            ∙ ap (λ b. cond b (names_with before (k ∷ []) (children_of name f r)) (children_of name f r)) (eqb-comm r p))
      ]
