-- The laws of the primitive edits: how often a name is after one, and where it is.
use Rattle.std.proofs.Common.{◌≡◌, ℕ, ◌+◌, ◌<◌, true, false, cond, eqb, List, [], ◌∷◌, Option, None, Some, refl, sym, ap, ◌∙◌, arith, inl, inr}
use Rattle.std.specs.Prelude.{is_some, option_map}
use Rattle.std.specs.Option.{option_or}
use Rattle.std.proofs.lemmas.Bool.{cases_lt}
use Rattle.std.proofs.lemmas.Bool.Decides.{eqb_tells}
use Rattle.lx_trees.specs.Trees.{Trees, nil, tree}
use Rattle.lx_trees.specs.Siblings.{is_among, names_without}
use Rattle.lx_trees.specs.Spots.{Spot, spot, spot_below}
use Rattle.lx_trees.proofs.NamedTrees.{total-joined, count-joined, count-without-alone, count-put_below, total-without-alone, total-put_below, names-alone}
use Rattle.lx_trees.proofs.Siblings.{names_without-absent_list}
use Rattle.lx_trees.proofs.Spots.{relabelled, left_by, moved, joined_by, option_or-None, option_map-same, spot_below-joined, spot_below-absent, is_some-spot_below, name-spot_below, spot_below-mapped, spot_below-without, spot_below-alone, spot_below-put_below, is_among-children, is_among-firsts}
use Rattle.lx_trees.proofs.Subtrees.{count-alone_self}
use Rattle.lx_trees.specs.NamedTrees.{count, has, names, alone, without, mapped, total, put_below}
use Rattle.lx_trees.specs.Lookups.{rises, parent_of, is_within, is_attached, IsOrdered}
use Rattle.lx_trees.specs.Edits.{among_roots, with_new, take_out, put_in, CanPut, taken, placed}

pub option_map-map : {X Y Z : Type 0} (f : Y → Z) (g : X → Y) (o : Option X) → option_map f (option_map g o) ≡ option_map (λ x. f (g x)) o
option_map-map f g None = refl
option_map-map f g (Some x) = refl

-- of two functions that agree on what there is
pub option_map-agree : {X Y : Type 0} (f g : X → Y) (o : Option X) → ((x : X) → o ≡ Some x → f x ≡ g x) → option_map f o ≡ option_map g o
option_map-agree f g None same = refl
option_map-agree f g (Some x) same = ap (λ y. Some y) (same x refl)

-- the root's tree is the first one
rises-first : (xs : List ℕ) → rises xs ≡ true → is_among 0 xs ≡ true
rises-first [] e = absurd (grind arith)
rises-first (x ∷ xs) e = grind (arith, eqb_tells x 0)

module _ {A : Type 0} (name : A → ℕ) where
  pub count-among_roots : (q k : ℕ) (new f : Trees A) → count name q (among_roots name k new f) ≡ count name q new + count name q f
  count-among_roots q k new nil = omega arith
  count-among_roots q k new (tree l below rest) = grind (arith, count-among_roots q k new rest, count-joined name q new (tree l below rest))

  pub total-among_roots : (k : ℕ) (new f : Trees A) → total (among_roots name k new f) ≡ total new + total f
  total-among_roots k new nil = omega arith
  total-among_roots k new (tree l below rest) = grind (arith, total-among_roots k new rest, total-joined new (tree l below rest))

  pub spot-among_roots : (k : ℕ) (new f : Trees A) (q : ℕ) → count name q new + count name q f < 2
      → spot name (among_roots name k new f) q ≡ option_or (spot name new q) (spot name f q)
  spot-among_roots k new nil q once = sym (option_or-None (spot name new q))
  spot-among_roots k new (tree l below rest) q once =
      grind (arith, spot-among_roots k new rest q, spot_below-joined name None new (tree l below rest) q, spot_below-absent name None new q, spot_below-absent name (Some (name l)) below q)

  pub count-with_new : (q : ℕ) (l : A) (f : Trees A) → count name q (with_new name l f) ≡ cond (eqb (name l) q) 1 0 + count name q f
  unfolding with_new
  count-with_new q l f = omega (arith, count-among_roots q (name l) (tree l nil nil) f)

  pub count-take_out : (q k : ℕ) (f : Trees A) → count name q (take_out name k f) ≡ count name q f
  unfolding take_out
  count-take_out q k f = omega (arith, count-among_roots q k (alone name k f) (without name k f), count-without-alone name q k f)

  -- a name that is there, and in no tree but its own, is in what is left
  pub outside_once : (p k : ℕ) (f : Trees A) → IsOrdered name f → has name p f ≡ true → is_within name f k p ≡ false → count name p (without name k f) ≡ 1
  outside_once p k f h there outside = grind (arith, h.once p, count-without-alone name p k f)

  pub count-put_in : (q p : ℕ) (before : Option ℕ) (k : ℕ) (f : Trees A) → IsOrdered name f → has name p f ≡ true → is_within name f k p ≡ false
      → count name q (put_in name p before k f) ≡ count name q f
  unfolding put_in
  count-put_in q p before k f h there outside =
      omega (arith, count-put_below name q p before (alone name k f) (without name k f) (outside_once p k f h there outside), count-without-alone name q k f)

  pub total-with_new : (l : A) (f : Trees A) → total (with_new name l f) ≡ 1 + total f
  unfolding with_new
  total-with_new l f = omega (arith, total-among_roots (name l) (tree l nil nil) f)

  pub total-take_out : (k : ℕ) (f : Trees A) → total (take_out name k f) ≡ total f
  unfolding take_out
  total-take_out k f = omega (arith, total-among_roots k (alone name k f) (without name k f), total-without-alone name k f)

  pub total-put_in : (p : ℕ) (before : Option ℕ) (k : ℕ) (f : Trees A) → IsOrdered name f → has name p f ≡ true → is_within name f k p ≡ false
      → total (put_in name p before k f) ≡ total f
  unfolding put_in
  total-put_in p before k f h there outside =
      omega (arith, total-put_below name p before (alone name k f) (without name k f) (outside_once p k f h there outside), total-without-alone name k f)

  pub key-spot : (f : Trees A) (q : ℕ) (s : Spot A) → spot name f q ≡ Some s → name s.label ≡ q
  key-spot f q s e = name-spot_below name None f q s e

  pub is_some-spot : (f : Trees A) (q : ℕ) → is_some (spot name f q) ≡ has name q f
  is_some-spot f q = is_some-spot_below name None f q

  pub spot-with_new : (l : A) (f : Trees A) (q : ℕ) → IsOrdered name f → has name (name l) f ≡ false →
      spot name (with_new name l f) q ≡ cond (eqb q (name l)) (Some (record { label = l; parent = None; children = [] })) (spot name f q)
  unfolding with_new
  spot-with_new l f q h free =
      grind (arith, h.once q, spot-among_roots (name l) (tree l nil nil) f q, eqb_tells q (name l), eqb_tells (name l) q, spot_below-absent name None f q)

  -- what is outside the tree of k isn't k
  left_taken : (k : ℕ) (f : Trees A) (q : ℕ) (s : Spot A) → count name q (alone name k f) ≡ 0 → spot name f q ≡ Some s → left_by k s ≡ taken k q s
  left_taken k f q s gone e = grind (arith, eqb_tells q k, count-alone_self name k f, spot_below-absent name None f q)

  pub spot-take_out : (k : ℕ) (f : Trees A) (q : ℕ) → IsOrdered name f → spot name (take_out name k f) q ≡ option_map (taken k q) (spot name f q)
  unfolding take_out
  spot-take_out k f q h =
      let split : spot name (among_roots name k (alone name k f) (without name k f)) q
      ≡ option_or (spot name (alone name k f) q) (spot name (without name k f) q) =
      spot-among_roots k (alone name k f) (without name k f) q (omega (arith, h.once q, count-without-alone name q k f)) in
      elim (cases_lt 0 (count name q (alone name k f))) [
        | inl inside ↦
            let gone : count name q (without name k f) ≡ 0 = omega (arith, h.once q, count-without-alone name q k f) in
            split
            ∙ ap (option_or (spot name (alone name k f) q)) (spot_below-absent name None (without name k f) q gone)
            ∙ option_or-None (spot name (alone name k f) q)
            ∙ spot_below-alone name None None k f q (h.once k) gone
        | inr outside ↦
            let gone : count name q (alone name k f) ≡ 0 = omega arith in
            split
            ∙ ap (λ o. option_or o (spot name (without name k f) q)) (spot_below-absent name None (alone name k f) q gone)
            ∙ spot_below-without name None k f q gone
            ∙ option_map-agree (left_by k) (taken k q) (spot name f q) (λ s e. left_taken k f q s gone e)
      ]

  -- a name without a parent is nobody's child
  pub nobodys_child : (f : Trees A) (q k : ℕ) (s : Spot A) → IsOrdered name f → parent_of name f k ≡ None → spot name f q ≡ Some s
      → names_without k s.children ≡ s.children
  nobodys_child f q k s h detached e =
      names_without-absent_list k s.children (grind (arith, detached, e, is_among-children name None f k q h.once refl))

  inside_placed : (p : ℕ) (before : Option ℕ) (k : ℕ) (f : Trees A) (q : ℕ) (s : Spot A) → IsOrdered name f → CanPut name p k f
      → 0 < count name q (alone name k f) → spot name f q ≡ Some s →
      moved (Some p) k q s ≡ placed p before k q s
  inside_placed p before k f q s h c inside e = grind (arith, eqb_tells q p, c.outside, nobodys_child f q k s h c.detached e)

  outside_placed : (p : ℕ) (before : Option ℕ) (k : ℕ) (f : Trees A) (q : ℕ) (s : Spot A) → IsOrdered name f → CanPut name p k f
      → count name q (alone name k f) ≡ 0 → spot name f q ≡ Some s →
      joined_by p before (k ∷ []) q (left_by k s) ≡ placed p before k q s
  outside_placed p before k f q s h c gone e =
      grind (arith, eqb_tells q k, count-alone_self name k f, spot_below-absent name None f q, nobodys_child f q k s h c.detached e)

  pub spot-put_in : (p : ℕ) (before : Option ℕ) (k : ℕ) (f : Trees A) (q : ℕ) → IsOrdered name f → CanPut name p k f
      → spot name (put_in name p before k f) q ≡ option_map (placed p before k q) (spot name f q)
  unfolding put_in
  spot-put_in p before k f q h c =
      let one : count name k f ≡ 1 = grind (arith, h.once k, c.there) in
      let there : count name p (without name k f) ≡ 1 = outside_once p k f h c.parent c.outside in
      let first : names name (alone name k f) ≡ k ∷ [] = names-alone name k f one in
      let split : spot_below name None (put_below name p before (alone name k f) (without name k f)) q
      ≡ option_or (spot_below name (Some p) (alone name k f) q) (option_map (joined_by p before (k ∷ []) q) (spot name (without name k f) q)) =
      spot_below-put_below name None p before (alone name k f) (without name k f) q there (omega (arith, h.once q, count-without-alone name q k f))
      ∙ ap (λ ks. option_or (spot_below name (Some p) (alone name k f) q) (option_map (joined_by p before ks q) (spot name (without name k f) q))) first in
      elim (cases_lt 0 (count name q (alone name k f))) [
        | inl inside ↦
            let gone : count name q (without name k f) ≡ 0 = omega (arith, h.once q, count-without-alone name q k f) in
            split
            ∙ ap (λ o. option_or (spot_below name (Some p) (alone name k f) q) (option_map (joined_by p before (k ∷ []) q) o))
            (spot_below-absent name None (without name k f) q gone)
            ∙ option_or-None (spot_below name (Some p) (alone name k f) q)
            ∙ spot_below-alone name None (Some p) k f q (h.once k) gone
            ∙ option_map-agree (moved (Some p) k q) (placed p before k q) (spot name f q) (λ s e. inside_placed p before k f q s h c inside e)
        | inr outside ↦
            let gone : count name q (alone name k f) ≡ 0 = omega arith in
            split
            ∙ ap (λ o. option_or o (option_map (joined_by p before (k ∷ []) q) (spot name (without name k f) q)))
            (spot_below-absent name (Some p) (alone name k f) q gone)
            ∙ ap (option_map (joined_by p before (k ∷ []) q)) (spot_below-without name None k f q gone)
            ∙ option_map-map (joined_by p before (k ∷ []) q) (left_by k) (spot name f q)
            ∙ option_map-agree (λ s. joined_by p before (k ∷ []) q (left_by k s)) (placed p before k q) (spot name f q)
            (λ s e. outside_placed p before k f q s h c gone e)
      ]

  pub has-root : (f : Trees A) → IsOrdered name f → has name 0 f ≡ true
  has-root f h = grind (arith, is_among-firsts name f 0 h.once, rises-first (names name f) h.rising)

  pub parent_of-root : (f : Trees A) → IsOrdered name f → parent_of name f 0 ≡ None
  parent_of-root f h = grind (arith, is_among-firsts name f 0 h.once, rises-first (names name f) h.rising)

  pub same_spot : (s : Spot A) (parent : Option ℕ) (children : List ℕ) → parent ≡ s.parent → children ≡ s.children →
      record { label = s.label; parent = parent; children = children } ≡ s
  same_spot s parent children e g = rw (e, g)

  root_moved : (f : Trees A) (q : ℕ) (s : Spot A) → IsOrdered name f → spot name f q ≡ Some s → moved None 0 q s ≡ s
  root_moved f q s h e =
      same_spot s (cond (eqb q 0) None s.parent) (names_without 0 s.children) (grind (arith, eqb_tells q 0, parent_of-root f h))
      (nobodys_child f q 0 s h (parent_of-root f h) e)

  -- the root's tree alone has each attached name where it was
  pub spot-alone_root : (f : Trees A) (q : ℕ) → IsOrdered name f → spot name (alone name 0 f) q ≡ cond (is_attached name f q) (spot name f q) None
  spot-alone_root f q h =
      elim (cases_lt 0 (count name q (alone name 0 f))) [
        | inl inside ↦
            let gone : count name q (without name 0 f) ≡ 0 = omega (arith, h.once q, count-without-alone name q 0 f) in
            let whole : spot name (alone name 0 f) q ≡ spot name f q =
            spot_below-alone name None None 0 f q (h.once 0) gone
            ∙ option_map-agree (moved None 0 q) (λ s. s) (spot name f q) (λ s e. root_moved f q s h e)
            ∙ option_map-same (λ (s : Spot A). s) (λ s. refl) (spot name f q) in
            grind (arith, whole)
        | inr outside ↦ grind (arith, outside, spot_below-absent name None (alone name 0 f) q)
      ]

  -- labels changed, under the same names
  pub spot-mapped : (g : A → A) → ((a : A) → name (g a) ≡ name a) → (f : Trees A) (q : ℕ) → spot name (mapped g f) q ≡ option_map (relabelled g) (spot name f q)
  spot-mapped g keeps f q = spot_below-mapped name g keeps None f q

  -- what is in no tree of k, once that tree is gone
  pub spot-without : (k : ℕ) (f : Trees A) (q : ℕ) → IsOrdered name f → parent_of name f k ≡ None
      → spot name (without name k f) q ≡ cond (is_within name f k q) None (spot name f q)
  spot-without k f q h top =
      elim (cases_lt 0 (count name q (alone name k f))) [
        | inl inside ↦ grind (arith, h.once q, count-without-alone name q k f, spot_below-absent name None (without name k f) q)
        | inr outside ↦
            let gone : count name q (alone name k f) ≡ 0 = omega arith in
            let rest : spot name (without name k f) q ≡ option_map (left_by k) (spot name f q) = spot_below-without name None k f q gone in
            let same : option_map (left_by k) (spot name f q) ≡ spot name f q =
            option_map-agree (left_by k) (λ s. s) (spot name f q)
            (λ s e. same_spot s s.parent (names_without k s.children) refl (nobodys_child f q k s h top e))
            ∙ option_map-same (λ (s : Spot A). s) (λ s. refl) (spot name f q) in
            let no : is_within name f k q ≡ false = grind (arith, gone) in
            rw (no) (rest ∙ same)
      ]
