-- What a walk has gathered, and what is left of it.
use Rattle.std.proofs.Common.{◌≡◌, ◌∙◌, ℕ, Bool, true, false, cond, List, [], ◌∷◌, ◌++◌, Option, None, Some, refl, sym, ap, append_assoc}
use Rattle.std.specs.Prelude.{filter, IfSome, IfNone}
use Rattle.lx_trees.specs.Siblings.{is_named}
use Rattle.lx_forest.specs.Forest.{Forest}
use Rattle.lx_forest.specs.Lookups.{from, depth}
use Rattle.lx_blocks.specs.Places.{until}
use Rattle.lx_blocks.specs.Walks.{left_from, IsAt}

pub filter_first : (test : ℕ → Bool) (q : ℕ) (rest : List ℕ) → filter test (q ∷ rest) ≡ filter test (q ∷ []) ++ filter test rest
filter_first test q rest = by_test (test q) where
  by_test : (b : Bool) → cond b (q ∷ filter test rest) (filter test rest) ≡ cond b (q ∷ []) [] ++ filter test rest
  by_test true = refl
  by_test false = refl

-- the walk goes on after a node
gathered_on : (test : ℕ → Bool) (stop : Option ℕ) (q : ℕ) (rest made more whole : List ℕ) → is_named stop q ≡ false → more ≡ made ++ filter test (q ∷ [])
    → made ++ filter test (until stop (q ∷ rest)) ≡ whole → more ++ filter test (until stop rest) ≡ whole
gathered_on test stop q rest made more whole other is so_far =
    ap (λ xs. xs ++ filter test (until stop rest)) is ∙ append_assoc made (filter test (q ∷ [])) (filter test (until stop rest))
    ∙ ap (λ xs. made ++ xs) (sym (filter_first test q (until stop rest)))
    ∙ ap (λ b. made ++ filter test (cond b [] (q ∷ until stop rest))) (sym other) ∙ so_far

pub next_left : (o : Option (ℕ × ℕ)) (f : Forest) (q : ℕ) → IfSome o (λ next. from f q ≡ q ∷ from f next.0) → IfNone o (from f q ≡ q ∷ [])
    → from f q ≡ q ∷ left_from f o
next_left None f q next last = last
next_left (Some at) f q next last = next

pub next_at : (o : Option (ℕ × ℕ)) (f : Forest) → IfSome o (λ next. depth f next.0 ≡ Some next.1) → IsAt f o
next_at None f e = tt
next_at (Some at) f e = e

-- so far and what is left make all of a walk to a stop
abbrev pub IsWalking : (stop : Option ℕ) (f : Forest) (at : Option (ℕ × ℕ)) (made whole : List ℕ) → Type 0
IsWalking stop f at made whole = IsAt f at × (made ++ until stop (left_from f at) ≡ whole)

pub walking_on : (stop : Option ℕ) (at o : Option (ℕ × ℕ)) (f : Forest) (q d : ℕ) (made more whole : List ℕ) → IsWalking stop f at made whole
    → IfSome o (λ next. from f q ≡ q ∷ from f next.0) → IfNone o (from f q ≡ q ∷ []) → IfSome o (λ next. depth f next.0 ≡ Some next.1)
    → is_named stop q ≡ false → more ≡ made ++ q ∷ [] → at ≡ Some (q, d) → IsWalking stop f o more whole
walking_on stop at o f q d made more whole way next last deep other kept is = (
  next_at o f deep,
  ap (λ xs. xs ++ until stop (left_from f o)) kept ∙ append_assoc made (q ∷ []) (until stop (left_from f o))
      ∙ ap (λ b. made ++ cond b [] (q ∷ until stop (left_from f o))) (sym other)
      ∙ ap (λ xs. made ++ until stop xs) (sym (next_left o f q next last)) ∙ (rw is at way).1,
)

gathered_next : (test : ℕ → Bool) (stop : Option ℕ) (o : Option (ℕ × ℕ)) (f : Forest) (q : ℕ) (made more whole : List ℕ)
    → IfSome o (λ next. from f q ≡ q ∷ from f next.0)
    → IfNone o (from f q ≡ q ∷ []) → is_named stop q ≡ false → more ≡ made ++ filter test (q ∷ []) → made ++ filter test (until stop (from f q)) ≡ whole
    → more ++ filter test (until stop (left_from f o)) ≡ whole
gathered_next test stop o f q made more whole next last other is so_far =
    gathered_on test stop q (left_from f o) made more whole other is (ap (λ xs. made ++ filter test (until stop xs)) (sym (next_left o f q next last)) ∙ so_far)

-- ---- by the walk's own state

abbrev pub IsUnderWay : (test : ℕ → Bool) (stop : Option ℕ) (f : Forest) (at : Option (ℕ × ℕ)) (made whole : List ℕ) → Type 0
IsUnderWay test stop f at made whole = IsAt f at × (made ++ filter test (until stop (left_from f at)) ≡ whole)

pub way_on : (test : ℕ → Bool) (stop : Option ℕ) (at o : Option (ℕ × ℕ)) (f : Forest) (q d : ℕ) (made more whole : List ℕ)
    → IsUnderWay test stop f at made whole
    → IfSome o (λ next. from f q ≡ q ∷ from f next.0) → IfNone o (from f q ≡ q ∷ []) → IfSome o (λ next. depth f next.0 ≡ Some next.1)
    → is_named stop q ≡ false → more ≡ made ++ filter test (q ∷ []) → at ≡ Some (q, d) → IsUnderWay test stop f o more whole
way_on test stop at o f q d made more whole way next last deep other kept is =
    (next_at o f deep, gathered_next test stop o f q made more whole next last other kept (rw is at way).1)
