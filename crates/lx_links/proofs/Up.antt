-- The way up from a key.
use Rattle.std.proofs.Common.{ℕ, ◌≡◌, ◌≢◌, ◌<◌, ◌≤◌, ◌^◌, ◌+◌, not, cond, true, false, ◌&&◌, length, None, Some, ltb, eqb, inl, inr, sym, ap, ◌∙◌, subst, arith}
use Rattle.lx_forest.specs.Forest.{Forest}
use Rattle.lx_forest.specs.Lookups.{has, count, alone, key_of, parent_of, ancestors, is_within, is_attached, depth, IsForest}
use Rattle.lx_forest.proofs.Walks.{no_parent, ancestors-top, ancestors-step, length-ancestors-lt, is_attached-up}
use Rattle.lx_forest.proofs.Order.{is_attached-root}
use Rattle.lx_forest.proofs.Within.{is_within-up, is_within-top, is_within-self}
use Rattle.std.proofs.lemmas.Bool.{cases_Bool}
use Rattle.std.proofs.lemmas.Bool.Decides.{eqb_tells, nat_tests}
use Rattle.lx_trees.proofs.Subtrees.{count-alone-le}
use Rattle.lx_links.specs.Stands.{Sound}

absent_within : (m n : ℕ) → n ≤ m → ltb 0 m ≡ false → ltb 0 n ≡ false
absent_within m n h e = grind (arith, h, e)

-- a forest in which something is below a parent is in order
pub in_order : (f : Forest) (q p : ℕ) → Sound f → parent_of f q ≡ Some p → IsForest f
in_order f q p s e = s.in_order (λ no. let P : Forest → Type 0 = λ g. parent_of g q ≡ Some p in let h : None ≡ Some p = subst P no e in cc)

pub in_order_at : (f : Forest) (q : ℕ) → Sound f → has q f ≡ true → IsForest f
in_order_at f q s e = s.in_order (λ no. let P : Forest → Type 0 = λ g. has q g ≡ true in let h : false ≡ true = subst P no e in cc)

pub one_up : (f : Forest) (q p : ℕ) → Sound f → parent_of f q ≡ Some p → length (ancestors f q) ≡ length (ancestors f p) + 1
one_up f q p s e = ap length (ancestors-step f q p (in_order f q p s e) e) ∙ omega arith

pub none_up : (f : Forest) (q : ℕ) → parent_of f q ≡ None → length (ancestors f q) ≡ 0
none_up f q e = ap length (ancestors-top f q e)

pub few_up : (f : Forest) (q : ℕ) → Sound f → length (ancestors f q) < 2 ^ 32
few_up f q s = elim (cases_Bool (has q f)) [
  | inl there ↦ omega (arith, length-ancestors-lt f q there, s.small)
  | inr absent ↦ omega (arith, none_up f q (no_parent f q absent))
]

pub attached_up : (f : Forest) (q p : ℕ) → Sound f → parent_of f q ≡ Some p → is_attached f q ≡ is_attached f p
attached_up f q p s e = is_attached-up f q p (in_order f q p s e) e

pub within_up : (f : Forest) (k q p : ℕ) → Sound f → parent_of f q ≡ Some p → q ≢ k → is_within f k q ≡ is_within f k p
within_up f k q p s e other = is_within-up f k q p (in_order f q p s e) e other

-- what isn't there is in no tree
pub not_within : (f : Forest) (k q : ℕ) → has q f ≡ false → is_within f k q ≡ false
not_within f k q h = absent_within (count q f) (count q (alone k f)) (count-alone-le key_of q k f) h

pub within_top : (f : Forest) (k q : ℕ) → Sound f → parent_of f q ≡ None → q ≢ k → is_within f k q ≡ false
within_top f k q s e other = elim (cases_Bool (has q f)) [
  | inl there ↦ is_within-top f k q (in_order_at f q s there) e other
  | inr absent ↦ not_within f k q absent
]

-- the top of the way up from an attached key is the root
pub attached_top : (f : Forest) (q t : ℕ) → Sound f → parent_of f t ≡ None → is_attached f q ≡ is_attached f t → (has q f && eqb t 0) ≡ is_attached f q
attached_top f q t s top same = elim (cases_Bool (has q f)) [
  | inr absent ↦ ap (λ b. b && eqb t 0) absent ∙ sym (not_within f 0 q absent)
  | inl there ↦ ap (λ b. b && eqb t 0) there ∙ elim (eqb_tells t 0) [
    | inl is ↦ is.0 ∙ sym (same ∙ ap (is_attached f) is.1 ∙ is_attached-root f (in_order_at f q s there))
    | inr other ↦ other.0 ∙ sym (same ∙ within_top f 0 t s top other.1)
  ]
]

pub within_met : (f : Forest) (k q : ℕ) → q ≡ k → is_within f k q ≡ has k f
within_met f k q e = ap (is_within f k) e ∙ is_within-self f k

-- what the test of a loop shows
pub test_other : (a b : ℕ) → not (eqb a b) ≡ true → a ≢ b
test_other a b e = grind (arith, nat_tests, e)

pub test_same : (a b : ℕ) → not (eqb a b) ≡ false → a ≡ b
test_same a b e = grind (arith, nat_tests, e)

pub depth_attached : (f : Forest) (q n : ℕ) → is_attached f q ≡ true → n ≡ length (ancestors f q) → Some n ≡ depth f q
depth_attached f q n there e = ap (λ n. Some n) e ∙ sym (ap (λ b. cond b (Some (length (ancestors f q))) None) there)

pub depth_detached : (f : Forest) (q : ℕ) → is_attached f q ≡ false → None ≡ depth f q
depth_detached f q away = sym (ap (λ b. cond b (Some (length (ancestors f q))) None) away)
