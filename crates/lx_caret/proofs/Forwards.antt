-- A walk on through the root's tree, for the first node that passes a test.
use Rattle.std.proofs.Common.{◌≡◌, ◌∙◌, ℕ, ◌<◌, Bool, true, false, not, ◌&&◌, eqb, List, [], ◌∷◌, length, Option, None, Some, refl, sym, ap, subst, arith}
use Rattle.std.specs.Prelude.{find, IfSome, IfNone}
use Rattle.lx_trees.specs.Siblings.{is_named, names_without}
use Rattle.lx_forest.specs.Forest.{Forest}
use Rattle.lx_forest.specs.Lookups.{from, behind, depth, is_attached}
use Rattle.lx_forest.proofs.Loose.{attached_at}
use Rattle.lx_links.specs.Stands.{Sound}
use Rattle.lx_blocks.specs.Walks.{left_from, IsAt, key_of_step}
use Rattle.lx_blocks.proofs.Gathered.{next_left, next_at}
use Rattle.lx_blocks.proofs.Up.{find_here}
use Rattle.lx_blocks.specs.Blocks.{frame_of}
use Rattle.lx_caret.specs.Deleting.{is_leaf_in, is_stop}
use Rattle.lx_caret.proofs.BlockOrder.{find_none, no_leaf_behind}
use Rattle.std.proofs.lemmas.Bool.Decides.{eqb_tells}

-- what is looked for is the first of the nodes that are left
abbrev pub IsForth : (test : ℕ → Bool) (f : Forest) (at : Option (ℕ × ℕ)) (whole : Option ℕ) → Type 0
IsForth test f at whole = IsAt f at × (find test (left_from f at) ≡ whole)

find_on : (test : ℕ → Bool) (q : ℕ) (rest : List ℕ) → test q ≡ false → find test (q ∷ rest) ≡ find test rest
find_on test q rest so = rw so refl

pub forth_on : (test : ℕ → Bool) (at o : Option (ℕ × ℕ)) (f : Forest) (q d : ℕ) (whole : Option ℕ) → IsForth test f at whole
    → IfSome o (λ next. from f q ≡ q ∷ from f next.0)
    → IfNone o (from f q ≡ q ∷ []) → IfSome o (λ next. depth f next.0 ≡ Some next.1) → test q ≡ false → at ≡ Some (q, d) → IsForth test f o whole
forth_on test at o f q d whole way next last deep so is =
    let way_at : IsForth test f (Some (q, d)) whole = subst (λ x. IsForth test f x whole) is way in
    (next_at o f deep, sym (find_on test q (left_from f o) so) ∙ sym (ap (find test) (next_left o f q next last)) ∙ way_at.1)

pub forth_found : (test : ℕ → Bool) (at o : Option (ℕ × ℕ)) (f : Forest) (q d : ℕ) (whole : Option ℕ) → IsForth test f at whole
    → IfSome o (λ next. from f q ≡ q ∷ from f next.0)
    → IfNone o (from f q ≡ q ∷ []) → test q ≡ true → at ≡ Some (q, d) → Some q ≡ whole
forth_found test at o f q d whole way next last so is =
    let way_at : IsForth test f (Some (q, d)) whole = subst (λ x. IsForth test f x whole) is way in
    sym (find_here test q (left_from f o) so) ∙ sym (ap (find test) (next_left o f q next last)) ∙ way_at.1

pub forth_ends : (test : ℕ → Bool) (at : Option (ℕ × ℕ)) (f : Forest) (whole : Option ℕ) → IsForth test f at whole → at ≡ None → None ≡ whole
forth_ends test at f whole way is = (subst (λ x. IsForth test f x whole) is way).1

pub forth_shorter : (at o : Option (ℕ × ℕ)) (f : Forest) (q d : ℕ) → IfSome o (λ next. from f q ≡ q ∷ from f next.0) → IfNone o (from f q ≡ q ∷ [])
    → at ≡ Some (q, d) → length (left_from f o) < length (left_from f at)
forth_shorter at o f q d next last is =
    let now : length (left_from f at) ≡ length (from f q) = ap (λ x. length (left_from f x)) is in
    omega (arith, now, ap length (next_left o f q next last))

-- what a walk comes to is attached
pub forth_attached : (test : ℕ → Bool) (at : Option (ℕ × ℕ)) (f : Forest) (q d : ℕ) (whole : Option ℕ) → IsForth test f at whole → at ≡ Some (q, d)
    → is_attached f q ≡ true
forth_attached test at f q d whole way is = attached_at f q d (subst (λ x. IsForth test f x whole) is way).0

-- ---- without the node that it starts from

abbrev pub is_other : (test : ℕ → Bool) → ℕ → ℕ → Bool
is_other test b k = not (eqb k b) && test k

pub find_without : (test : ℕ → Bool) (b : ℕ) (xs : List ℕ) → find (is_other test b) xs ≡ find test (names_without b xs)
find_without test b [] = refl
find_without test b (x ∷ xs) = grind (arith, find_without test b xs)

-- what the test of a walk for a stop shows
pub stop_told : (f : Forest) (block q : ℕ) (within : Option ℕ) (result told : Bool) → within ≡ frame_of f block
    → result ≡ (not (eqb q block) && is_stop f within q) → result ≡ told
    → is_other (is_stop f (frame_of f block)) block q ≡ told
stop_told f block q within result told frame tests tells = ap (λ o. not (eqb q block) && is_stop f o q) (sym frame) ∙ sym tests ∙ tells

-- ---- the first leaf of a block after a point

named_is : (end : Option (ℕ × ℕ)) (q : ℕ) → is_named (key_of_step end) q ≡ true → (step : ℕ × ℕ) × (end ≡ Some step) × (q ≡ step.0)
named_is None q e = absurd (cc)
named_is (Some step) q e = (step, refl, grind (arith, e, eqb_tells q step.0))

ends_at : (end : Option (ℕ × ℕ)) (f : Forest) (b : ℕ) (step : ℕ × ℕ) → IfSome end (λ next. behind f b ≡ from f next.0) → end ≡ Some step
    → behind f b ≡ from f step.0
ends_at None f b step e is = absurd (cc)
ends_at (Some at) f b step e is = let same : at ≡ step = cc in e ∙ ap (λ (x : ℕ × ℕ). from f x.0) same

-- after the block's tree none is left
pub leaf_passed : (end at : Option (ℕ × ℕ)) (f : Forest) (block q d : ℕ) (whole : Option ℕ) → Sound f → is_attached f block ≡ true
    → IfSome end (λ next. behind f block ≡ from f next.0)
    → IsForth (is_leaf_in f block) f at whole → is_named (key_of_step end) q ≡ true → at ≡ Some (q, d) → None ≡ whole
leaf_passed end at f block q d whole s attached ends way here is =
    let way_at : IsForth (is_leaf_in f block) f (Some (q, d)) whole = subst (λ x. IsForth (is_leaf_in f block) f x whole) is way in
    let stop = named_is end q here in
    let same : from f q ≡ behind f block = ap (from f) stop.2 ∙ sym (ends_at end f block stop.0 ends stop.1) in
    sym (find_none (is_leaf_in f block) (behind f block) (no_leaf_behind f block s attached)) ∙ sym (ap (find (is_leaf_in f block)) same) ∙ way_at.1
