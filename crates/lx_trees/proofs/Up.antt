-- Ways up after edits: the names above one, and how many they are.
use Rattle.std.proofs.Common.{◌≡◌, ◌≢◌, ℕ, zero, suc, ◌+◌, ◌<◌, ◌≤◌, true, false, cond, eqb, [], ◌∷◌, ◌++◌, length, length-append, Option, None, Some, sym, ap, ◌∙◌, arith, inl, inr}
use Rattle.std.specs.Prelude.{option_map}
use Rattle.std.proofs.lemmas.Bool.{cases_eq, cases_Bool, or_right}
use Rattle.std.proofs.lemmas.Bool.Decides.{eqb_tells}
use Rattle.std.proofs.lemmas.List.{append-nil}
use Rattle.lx_trees.specs.Trees.{Trees}
use Rattle.lx_trees.specs.NamedTrees.{has}
use Rattle.lx_trees.specs.Siblings.{is_among}
use Rattle.lx_trees.specs.Walks.{ancestors}
use Rattle.lx_trees.proofs.Walks as walks
use Rattle.lx_trees.specs.Lookups.{parent_of, is_within, is_attached, depth, IsOrdered}
use Rattle.lx_trees.specs.Edits.{with_new, take_out, put_in, CanPut}
use Rattle.lx_trees.proofs.Edits.{has-root, parent_of-root}
use Rattle.lx_trees.proofs.Lookups.{parent_of-with_new, parent_of-take_out, parent_of-put_in}
use Rattle.lx_trees.proofs.Order.{is_attached-root, IsOrdered-with_new, IsOrdered-take_out, IsOrdered-put_in}
use Rattle.lx_trees.proofs.Attached.{cases_option, no_parent, is_attached-up, is_attached-top}
use Rattle.lx_trees.proofs.Within.{is_within-self, is_within-up, is_within-top, is_within-apart, is_attached-with_new, is_attached-take_out, is_attached-put_in}

module _ {A : Type 0} (name : A → ℕ) where
  ancestors-step : (f : Trees A) (q p : ℕ) → IsOrdered name f → parent_of name f q ≡ Some p → ancestors name f q ≡ p ∷ ancestors name f p
  ancestors-step f q p h up = walks.ancestors-step name f q p h.once up

  -- q is in the tree of k just where k is q or above it
  pub is_within-ancestors : (f : Trees A) (k q : ℕ) → IsOrdered name f → has name q f ≡ true → is_within name f k q ≡ is_among k (q ∷ ancestors name f q)
  is_within-ancestors f k q h there = walks.has-alone name k f q h.once (grind (arith, there))

  -- ---- where the parents are the same

  agree_within : (n : ℕ) (f g : Trees A) (q : ℕ) → IsOrdered name f → IsOrdered name g → length (ancestors name f q) ≤ n
      → ((x : ℕ) → is_among x (q ∷ ancestors name f q) ≡ true → parent_of name g x ≡ parent_of name f x) → ancestors name g q ≡ ancestors name f q
  agree_within zero f g q h i short same =
      elim (cases_option (parent_of name f q)) [
        | inl none ↦ walks.ancestors-top name g q (same q (grind (arith, eqb_tells q q)) ∙ none) ∙ sym (walks.ancestors-top name f q none)
        | inr (p, some) ↦ absurd (omega (arith, ap length (ancestors-step f q p h some)))
      ]
  agree_within (suc n) f g q h i short same =
      elim (cases_option (parent_of name f q)) [
        | inl none ↦ walks.ancestors-top name g q (same q (grind (arith, eqb_tells q q)) ∙ none) ∙ sym (walks.ancestors-top name f q none)
        | inr (p, some) ↦
            let step : ancestors name f q ≡ p ∷ ancestors name f p = ancestors-step f q p h some in
            ancestors-step g q p i (same q (grind (arith, eqb_tells q q)) ∙ some)
            ∙ ap (λ ks. p ∷ ks)
            (agree_within n f g p h i (omega (arith, ap length step))
            (λ x among. same x (rw step (or_right (eqb q x) (is_among x (p ∷ ancestors name f p)) among))))
            ∙ sym step
      ]

  -- where the parents are the same from q on, so are the ancestors
  pub ancestors-agree : (f g : Trees A) (q : ℕ) → IsOrdered name f → IsOrdered name g
      → ((x : ℕ) → is_among x (q ∷ ancestors name f q) ≡ true → parent_of name g x ≡ parent_of name f x) → ancestors name g q ≡ ancestors name f q
  ancestors-agree f g q h i same = agree_within (length (ancestors name f q)) f g q h i (omega arith) same

  -- ---- new and set change no ancestors

  pub ancestors-with_new : (l : A) (f : Trees A) (q : ℕ) → IsOrdered name f → has name (name l) f ≡ false
      → ancestors name (with_new name l f) q ≡ ancestors name f q
  ancestors-with_new l f q h free =
      ancestors-agree f (with_new name l f) q h (IsOrdered-with_new name l f h free) (λ x among. parent_of-with_new name l f x h free)

  -- ---- take and put

  not_above : (f : Trees A) (k q x : ℕ) → IsOrdered name f → has name q f ≡ true → is_within name f k q ≡ false → is_among x (q ∷ ancestors name f q) ≡ true
      → x ≡ k → ⊥
  not_above f k q x h there outside among e = grind (arith, e, among, outside, is_within-ancestors f k q h there)

  -- the ancestors of a name outside the tree that is taken out or put in stay
  pub ancestors-take_out_outside : (k : ℕ) (f : Trees A) (q : ℕ) → IsOrdered name f → is_within name f k q ≡ false
      → ancestors name (take_out name k f) q ≡ ancestors name f q
  ancestors-take_out_outside k f q h outside =
      elim (cases_Bool (has name q f)) [
        | inl there ↦
            ancestors-agree f (take_out name k f) q h (IsOrdered-take_out name k f h)
            (λ x among. grind (arith, parent_of-take_out name k f x h, eqb_tells x k, not_above f k q x h there outside among))
        | inr absent ↦
            let none : parent_of name f q ≡ None = no_parent name f q absent in
            walks.ancestors-top name (take_out name k f) q (grind (arith, none, parent_of-take_out name k f q h)) ∙ sym (walks.ancestors-top name f q none)
      ]

  pub ancestors-put_in_outside : (p : ℕ) (before : Option ℕ) (k : ℕ) (f : Trees A) (q : ℕ) → IsOrdered name f → CanPut name p k f → is_within name f k q ≡ false
      → ancestors name (put_in name p before k f) q ≡ ancestors name f q
  ancestors-put_in_outside p before k f q h c outside =
      elim (cases_Bool (has name q f)) [
        | inl there ↦
            ancestors-agree f (put_in name p before k f) q h (IsOrdered-put_in name p before k f h c)
            (λ x among. grind (arith, parent_of-put_in name p before k f x h c, eqb_tells x k, not_above f k q x h there outside among))
        | inr absent ↦
            let none : parent_of name f q ≡ None = no_parent name f q absent in
            let other : eqb q k ≡ false = grind (arith, eqb_tells q k, c.there, absent) in
            walks.ancestors-top name (put_in name p before k f) q (parent_of-put_in name p before k f q h c ∙ rw other none)
            ∙ sym (walks.ancestors-top name f q none)
      ]

  put_own : (p : ℕ) (before : Option ℕ) (k : ℕ) (f : Trees A) → IsOrdered name f → CanPut name p k f
      → ancestors name (put_in name p before k f) k ≡ ancestors name f k ++ p ∷ ancestors name f p
  put_own p before k f h c =
      ancestors-step (put_in name p before k f) k p (IsOrdered-put_in name p before k f h c)
      (grind (arith, parent_of-put_in name p before k f k h c, eqb_tells k k))
      ∙ ap (λ ks. p ∷ ks) (ancestors-put_in_outside p before k f p h c c.outside)
      ∙ rw (walks.ancestors-top name f k c.detached)

  put_above : (n p : ℕ) (before : Option ℕ) (k : ℕ) (f : Trees A) (q : ℕ) → IsOrdered name f → CanPut name p k f → is_within name f k q ≡ true
      → length (ancestors name f q) < n → ancestors name (put_in name p before k f) q ≡ ancestors name f q ++ p ∷ ancestors name f p
  put_above zero p before k f q h c inside short = absurd (omega arith)
  put_above (suc n) p before k f q h c inside short =
      elim (cases_eq q k) [
        | inl same ↦ rw same (put_own p before k f h c)
        | inr other ↦ elim (cases_option (parent_of name f q)) [
          | inl none ↦ absurd (grind (arith, inside, is_within-top name f k q h none other))
          | inr (r, some) ↦
              let step : ancestors name f q ≡ r ∷ ancestors name f r = ancestors-step f q r h some in
              ancestors-step (put_in name p before k f) q r (IsOrdered-put_in name p before k f h c)
              (grind (arith, parent_of-put_in name p before k f q h c, eqb_tells q k))
              ∙ ap (λ ks. r ∷ ks) (put_above n p before k f r h c (sym (is_within-up name f k q r h some other) ∙ inside) (omega (arith, ap length step)))
              ∙ ap (λ ks. ks ++ p ∷ ancestors name f p) (sym step)
        ]
      ]

  take_above : (n k : ℕ) (f : Trees A) (q : ℕ) → IsOrdered name f → is_within name f k q ≡ true → length (ancestors name f q) < n
      → ancestors name f q ≡ ancestors name (take_out name k f) q ++ ancestors name f k
  take_above zero k f q h inside short = absurd (omega arith)
  take_above (suc n) k f q h inside short =
      elim (cases_eq q k) [
        | inl same ↦ rw (same, walks.ancestors-top name (take_out name k f) k (grind (arith, parent_of-take_out name k f k h, eqb_tells k k)))
        | inr other ↦ elim (cases_option (parent_of name f q)) [
          | inl none ↦ absurd (grind (arith, inside, is_within-top name f k q h none other))
          | inr (r, some) ↦
              let step : ancestors name f q ≡ r ∷ ancestors name f r = ancestors-step f q r h some in
              step
              ∙ ap (λ ks. r ∷ ks) (take_above n k f r h (sym (is_within-up name f k q r h some other) ∙ inside) (omega (arith, ap length step)))
              ∙ ap (λ ks. ks ++ ancestors name f k)
              (sym (ancestors-step (take_out name k f) q r (IsOrdered-take_out name k f h) (grind (arith, parent_of-take_out name k f q h, eqb_tells q k))))
        ]
      ]

  -- inside it, the place and its ancestors come on top
  pub ancestors-put_in_inside : (p : ℕ) (before : Option ℕ) (k : ℕ) (f : Trees A) (q : ℕ) → IsOrdered name f → CanPut name p k f → is_within name f k q ≡ true
      → ancestors name (put_in name p before k f) q ≡ ancestors name f q ++ p ∷ ancestors name f p
  ancestors-put_in_inside p before k f q h c inside = put_above (suc (length (ancestors name f q))) p before k f q h c inside (omega arith)

  -- the ancestors of a name in a tree that is taken out end with the tree's own name
  pub ancestors-take_out_inside : (k : ℕ) (f : Trees A) (q : ℕ) → IsOrdered name f → is_within name f k q ≡ true
      → ancestors name f q ≡ ancestors name (take_out name k f) q ++ ancestors name f k
  ancestors-take_out_inside k f q h inside = take_above (suc (length (ancestors name f q))) k f q h inside (omega arith)

  pub ancestors-take_out : (k : ℕ) (f : Trees A) (q : ℕ) → IsOrdered name f
      → ancestors name f q ≡ ancestors name (take_out name k f) q ++ cond (is_within name f k q) (ancestors name f k) []
  ancestors-take_out k f q h =
      elim (cases_Bool (is_within name f k q)) [
        | inl inside ↦ rw inside (ancestors-take_out_inside k f q h inside)
        | inr outside ↦ rw (outside, append-nil (ancestors name (take_out name k f) q)) (sym (ancestors-take_out_outside k f q h outside))
      ]

  pub ancestors-put_in : (p : ℕ) (before : Option ℕ) (k : ℕ) (f : Trees A) (q : ℕ) → IsOrdered name f → CanPut name p k f
      → ancestors name (put_in name p before k f) q ≡ ancestors name f q ++ cond (is_within name f k q) (p ∷ ancestors name f p) []
  ancestors-put_in p before k f q h c =
      elim (cases_Bool (is_within name f k q)) [
        | inl inside ↦ rw inside (ancestors-put_in_inside p before k f q h c inside)
        | inr outside ↦ rw (outside, append-nil (ancestors name f q)) (ancestors-put_in_outside p before k f q h c outside)
      ]

  -- each name whose tree has an attached one in it is attached
  pub attached_above : (f : Trees A) (x q : ℕ) → IsOrdered name f → is_attached name f q ≡ true → is_within name f x q ≡ true → is_attached name f x ≡ true
  attached_above f x q h attached inside =
      elim (cases_eq 0 x) [
        | inl same ↦ rw (sym same) (is_attached-root name f h)
        | inr other ↦ grind (arith, attached, inside, is_within-top name f x 0 h (parent_of-root name f h) other, is_within-apart name f x 0 q h)
      ]

  -- ---- depth

  pub depth-root : (f : Trees A) → IsOrdered name f → depth name f 0 ≡ Some 0
  depth-root f h = rw (is_within-self name f 0, has-root name f h, walks.ancestors-top name f 0 (parent_of-root name f h))

  pub depth-step : (f : Trees A) (q p : ℕ) → IsOrdered name f → parent_of name f q ≡ Some p → depth name f q ≡ option_map (λ d. d + 1) (depth name f p)
  depth-step f q p h up = grind (arith, is_attached-up name f q p h up, ap length (ancestors-step f q p h up))

  pub depth-with_new : (l : A) (f : Trees A) (q : ℕ) → IsOrdered name f → has name (name l) f ≡ false → depth name (with_new name l f) q ≡ depth name f q
  depth-with_new l f q h free = rw (is_attached-with_new name l f q h free, ancestors-with_new l f q h free)

  pub depth-take_out : (k : ℕ) (f : Trees A) (q : ℕ) → IsOrdered name f → k ≢ 0
      → depth name (take_out name k f) q ≡ cond (is_within name f k q) None (depth name f q)
  depth-take_out k f q h other = grind (arith, is_attached-take_out name k f q h other, ancestors-take_out_outside k f q h)

  -- a detached tree has no attached name
  pub detached_inside : (f : Trees A) (k q : ℕ) → IsOrdered name f → k ≢ 0 → parent_of name f k ≡ None → is_within name f k q ≡ true
      → is_attached name f q ≡ false
  detached_inside f k q h other detached inside =
      grind (arith, inside, is_attached-top name f k h detached other, is_within-top name f k 0 h (parent_of-root name f h) (λ e. other (sym e)), is_within-apart name f k 0 q h)

  pub depth-put_in : (p : ℕ) (before : Option ℕ) (k : ℕ) (f : Trees A) (q : ℕ) → IsOrdered name f → CanPut name p k f
      → depth name (put_in name p before k f) q
      ≡ cond (is_within name f k q) (option_map (λ d. length (ancestors name f q) + 1 + d) (depth name f p)) (depth name f q)
  depth-put_in p before k f q h c =
      elim (cases_Bool (is_within name f k q)) [
        | inl inside ↦
            let below : length (ancestors name (put_in name p before k f) q) ≡ length (ancestors name f q) + 1 + length (ancestors name f p) =
            ap length (ancestors-put_in_inside p before k f q h c inside) ∙ omega (arith, length-append (ancestors name f q) (p ∷ ancestors name f p)) in
            grind (arith, inside, below, is_attached-put_in name p before k f q h c, detached_inside f k q h c.other c.detached inside)
        | inr outside ↦ grind (arith, outside, is_attached-put_in name p before k f q h c, ancestors-put_in_outside p before k f q h c outside)
      ]
