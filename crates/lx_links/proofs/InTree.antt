-- The key after one in the root's tree, and its depth.
use Rattle.std.proofs.Common.{ℕ, ◌≡◌, ◌&&◌, eqb, ◌+◌, ◌-◌, ◌<◌, ◌^◌, true, false, cond, length, List, [], ◌∷◌, Option, None, Some, option_map, refl, sym, ap, ◌∙◌, subst, inl, inr, arith, IfSome, IfNone}
use Rattle.std.proofs.lemmas.Bool.{cases_Bool, cases_eq}
use Rattle.std.proofs.lemmas.Bool.Decides.{eqb_tells}
use Rattle.lx_trees.specs.Siblings.{is_among, first_of}
use Rattle.lx_forest.specs.Forest.{Forest}
use Rattle.lx_forest.specs.Lookups.{has, parent_of, children_of, first_child, next_of, ancestors, is_within, is_attached, depth, from, behind, IsForest}
use Rattle.lx_forest.proofs.Walks.{cases_option, depth-step, from-child, from-leaf, behind-next, behind-last, behind-root, is_attached-top}
use Rattle.lx_forest.proofs.Siblings.{parent_of-next}
use Rattle.lx_forest.proofs.Within.{is_within-leaf}
use Rattle.lx_links.specs.Stands.{Sound}
use Rattle.lx_links.proofs.Placed.{parent_of-child}
use Rattle.lx_links.proofs.Up.{few_up, in_order_at, not_within}

-- ---- a key with a depth

-- a forest in which something has a depth is in order
in_order_with : (f : Forest) (q d : ℕ) → Sound f → depth f q ≡ Some d → IsForest f
in_order_with f q d s e = s.in_order (λ no. let P : Forest → Type 0 = λ g. depth g q ≡ Some d in let h : None ≡ Some d = subst P no e in cc)

attached_with : (f : Forest) (q d : ℕ) → depth f q ≡ Some d → is_attached f q ≡ true
attached_with f q d e = elim (cases_Bool (is_attached f q)) [
  | inl attached ↦ attached
  | inr detached ↦ let h : None ≡ Some d = sym (ap (λ b. cond b (Some (length (ancestors f q))) None) detached) ∙ e in cc
]

above_with : (f : Forest) (q d : ℕ) → depth f q ≡ Some d → d ≡ length (ancestors f q)
above_with f q d e =
    let h : Some (length (ancestors f q)) ≡ Some d = sym (ap (λ b. cond b (Some (length (ancestors f q))) None) (attached_with f q d e)) ∙ e in
    cc

few_above : (f : Forest) (q d : ℕ) → Sound f → depth f q ≡ Some d → d < 2 ^ 32
few_above f q d s e = omega (arith, above_with f q d e, few_up f q s)

-- the depth of a parent
lowered : (o : Option ℕ) (d : ℕ) → Some d ≡ option_map (λ d. d + 1) o → o ≡ Some (d - 1)
lowered None d e = cc
lowered (Some x) d e = let h : d ≡ x + 1 = cc in ap (λ n. Some n) (omega (arith, h))

positive : (o : Option ℕ) (d : ℕ) → Some d ≡ option_map (λ d. d + 1) o → 0 < d
positive None d e = cc
positive (Some x) d e = let h : d ≡ x + 1 = cc in omega (arith, h)

pub depth_above : (f : Forest) (q p d : ℕ) → Sound f → depth f q ≡ Some d → parent_of f q ≡ Some p → depth f p ≡ Some (d - 1)
depth_above f q p d s e up = lowered (depth f p) d (sym e ∙ depth-step f q p (in_order_with f q d s e) up)

pub is_below : (f : Forest) (q p d : ℕ) → Sound f → depth f q ≡ Some d → parent_of f q ≡ Some p → 0 < d
is_below f q p d s e up = positive (depth f p) d (sym e ∙ depth-step f q p (in_order_with f q d s e) up)

-- ---- down to the first child

among_first : (xs : List ℕ) (c : ℕ) → first_of xs ≡ Some c → is_among c xs ≡ true
among_first [] c e = cc
among_first (x ∷ xs) c e = grind (arith, e, eqb_tells x c)

none_first : (xs : List ℕ) → first_of xs ≡ None → xs ≡ []
none_first [] e = refl
none_first (x ∷ xs) e = cc

-- nothing but itself is in the tree of a node without children
pub within_leaf : (f : Forest) (k q : ℕ) → Sound f → first_child f k ≡ None → is_within f k q ≡ (eqb q k && has k f)
within_leaf f k q s none = elim (cases_Bool (has q f)) [
  | inl there ↦ is_within-leaf f k q (in_order_at f q s there) (none_first (children_of f k) none)
  | inr absent ↦ not_within f k q absent ∙ elim (eqb_tells q k) [
    | inl same ↦ sym (ap (λ b. b && has k f) same.0 ∙ ap (λ x. has x f) (sym same.1) ∙ absent)
    | inr other ↦ sym (ap (λ b. b && has k f) other.0)
  ]
]

pub record IsBehind (f : Forest) (q n d : ℕ) : Type 0 where
  pub next : from f q ≡ q ∷ from f n
  pub attached : is_attached f n ≡ true
  pub depth : depth f n ≡ Some d
  pub few : d < 2 ^ 32

child_of_first : (f : Forest) (q c : ℕ) → Sound f → first_child f q ≡ Some c → parent_of f c ≡ Some q
child_of_first f q c s e = parent_of-child f c q s (among_first (children_of f q) c e)

pub first_behind : (f : Forest) (q c d : ℕ) → Sound f → depth f q ≡ Some d → first_child f q ≡ Some c → IsBehind f q c (d + 1)
first_behind f q c d s e first =
    let h = in_order_with f q d s e in
    let up = child_of_first f q c s first in
    let deeper : depth f c ≡ Some (d + 1) = depth-step f c q h up ∙ ap (option_map (λ d. d + 1)) e in
    record {
      next = from-child f q c h (attached_with f q d e) first;
      attached = attached_with f c (d + 1) deeper;
      depth = deeper;
      few = few_above f c (d + 1) s deeper;
    }

leaf_behind : (f : Forest) (q d : ℕ) → Sound f → depth f q ≡ Some d → first_child f q ≡ None → from f q ≡ q ∷ behind f q
leaf_behind f q d s e none = from-leaf f q (in_order_with f q d s e) (attached_with f q d e) (none_first (children_of f q) none)

-- ---- after a tree

-- the next sibling
pub sibling_depth : (f : Forest) (q n d : ℕ) → Sound f → depth f q ≡ Some d → next_of f q ≡ Some n → depth f n ≡ Some d
sibling_depth f q n d s e next = elim (cases_option (parent_of f q)) [
  | inl none ↦ absurd (grind (arith, rw none at next))
  | inr (p, up) ↦
      let h = in_order_with f q d s e in
      depth-step f n p h (parent_of-next f q n p h up next) ∙ sym (depth-step f q p h up) ∙ e
]

pub sibling_attached : (f : Forest) (q n d : ℕ) → Sound f → depth f q ≡ Some d → next_of f q ≡ Some n → is_attached f n ≡ true
sibling_attached f q n d s e next = attached_with f n d (sibling_depth f q n d s e next)

pub sibling_behind : (f : Forest) (q n d : ℕ) → Sound f → depth f q ≡ Some d → next_of f q ≡ Some n → behind f q ≡ from f n
sibling_behind f q n d s e next = behind-next f q n (in_order_with f q d s e) (attached_with f q d e) next

-- after a last child is what comes after its parent
pub parent_behind : (f : Forest) (q p d : ℕ) → Sound f → depth f q ≡ Some d → next_of f q ≡ None → parent_of f q ≡ Some p → behind f q ≡ behind f p
parent_behind f q p d s e last up = behind-last f q p (in_order_with f q d s e) (attached_with f q d e) up last

-- nothing is after the root
is_root : (f : Forest) (q d : ℕ) → Sound f → depth f q ≡ Some d → parent_of f q ≡ None → q ≡ 0
is_root f q d s e up = elim (cases_eq q 0) [
  | inl root ↦ root
  | inr other ↦ let h : true ≡ false = sym (attached_with f q d e) ∙ is_attached-top f q (in_order_with f q d s e) up other in cc
]

pub none_behind : (f : Forest) (q d : ℕ) → Sound f → depth f q ≡ Some d → parent_of f q ≡ None → behind f q ≡ []
none_behind f q d s e up = ap (behind f) (is_root f q d s e up) ∙ behind-root f (in_order_with f q d s e)

-- ---- over the answers of calls

pub on_none : {A : Type 0} (o : Option A) (P : Type 0) → P → IfNone o P
on_none None P h = h
on_none (Some x) P h = tt

pub next_of_leaf : (o : Option (ℕ × ℕ)) (f : Forest) (q d : ℕ) → Sound f → depth f q ≡ Some d → first_child f q ≡ None → IfSome o (λ n. behind f q ≡ from f n.0)
    → IfSome o (λ n. from f q ≡ q ∷ from f n.0)
next_of_leaf None f q d s e none h = tt
next_of_leaf (Some n) f q d s e none h = leaf_behind f q d s e none ∙ ap (λ ks. q ∷ ks) h

pub last_leaf : (o : Option (ℕ × ℕ)) (f : Forest) (q d : ℕ) → Sound f → depth f q ≡ Some d → first_child f q ≡ None → IfNone o (behind f q ≡ [])
    → IfNone o (from f q ≡ q ∷ [])
last_leaf None f q d s e none h = leaf_behind f q d s e none ∙ ap (λ ks. q ∷ ks) h
last_leaf (Some n) f q d s e none h = tt
