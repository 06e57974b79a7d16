-- How far a line's children go to the last inline one.
use Rattle.std.proofs.Common.{◌≡◌, ◌∙◌, ℕ, ◌+◌, ◌≤◌, ◌<◌, ◌^◌, Bool, true, false, cond, List, [], ◌∷◌, length, sym, ap, ap₂, arith}
use Rattle.lx_node.specs.Kinds.{is_inline}
use Rattle.lx_forest.specs.Forest.{Forest}
use Rattle.lx_forest.specs.Lookups.{children_of, is_within}
use Rattle.lx_forest.proofs.Bounds.{size_of-le}
use Rattle.lx_links.specs.Stands.{Sound}
use Rattle.lx_blocks.specs.Blocks.{is_at}
use Rattle.lx_blocks.specs.Places.{before_holder}
use Rattle.lx_caret.specs.Deleting.{inline_end}

-- what was passed and what is left come to what all come to
pub record IsPassed (f : Forest) (block : ℕ) (all : List ℕ) (left : List ℕ) (so_far here : ℕ) : Type 0 where
  pub same : inline_end f so_far here (before_holder f block left) ≡ inline_end f 0 0 (before_holder f block all)
  pub counted : here + length left ≡ length all
  pub behind : so_far ≤ here

pub passed_none : (f : Forest) (block : ℕ) (all left : List ℕ) → left ≡ all → IsPassed f block all left 0 0
passed_none f block all left e =
    record { same = ap (λ ks. inline_end f 0 0 (before_holder f block ks)) e; counted = omega (arith, ap length e); behind = omega arith }

behind_next : (b : Bool) (so_far here next_far next : ℕ) → so_far ≤ here → next ≡ here + 1 → next_far ≡ cond b next so_far → next_far ≤ next
behind_next true so_far here next_far next was more far = omega (arith, far)
behind_next false so_far here next_far next was more far = omega (arith, was, more, far)

pub passed_on : (f : Forest) (block : ℕ) (all left rest : List ℕ) (k so_far here next_far next : ℕ) → IsPassed f block all left so_far here → left ≡ k ∷ rest
    → is_within f k block ≡ false
    → next ≡ here + 1 → next_far ≡ cond (is_at is_inline f k) next so_far → IsPassed f block all rest next_far next
passed_on f block all left rest k so_far here next_far next was is outside more far =
    record {
      same =
          ap₂ (λ a b. inline_end f a b (before_holder f block rest)) (far ∙ ap (λ n. cond (is_at is_inline f k) n so_far) more) more
          ∙ sym (ap (λ b. inline_end f so_far here (cond b [] (k ∷ before_holder f block rest))) outside)
          ∙ sym (ap (λ ks. inline_end f so_far here (before_holder f block ks)) is) ∙ was.same;
      counted = omega (arith, was.counted, more, ap length is);
      behind = behind_next (is_at is_inline f k) so_far here next_far next was.behind more far;
    }

-- a parent has fewer children than offsets
pub few_passed : (f : Forest) (line block : ℕ) (all left rest : List ℕ) (k so_far here : ℕ) → Sound f → all ≡ children_of f line
    → IsPassed f block all left so_far here → left ≡ k ∷ rest
    → here + 1 < 2 ^ 32
few_passed f line block all left rest k so_far here s children was is =
    omega (arith, was.counted, ap length is, ap length children, size_of-le f line, s.small)

-- the place is one among the children
pub place_within : (f : Forest) (line block : ℕ) (all left : List ℕ) (so_far here : ℕ) → all ≡ children_of f line → IsPassed f block all left so_far here
    → so_far ≤ length (children_of f line)
place_within f line block all left so_far here children was = omega (arith, was.behind, was.counted, ap length children)
