-- The inline children at the start of a list, passed one by one.
use Rattle.std.proofs.Common.{◌≡◌, ◌∙◌, ℕ, true, false, cond, List, [], ◌∷◌, ◌++◌, sym, ap, append_assoc, append-nil}
use Rattle.lx_node.specs.Kinds.{is_inline}
use Rattle.lx_forest.specs.Forest.{Forest}
use Rattle.lx_blocks.specs.Blocks.{is_at, leading_in}

pub leading_on : (f : Forest) (all rest made more whole : List ℕ) (k : ℕ) → all ≡ k ∷ rest → is_at is_inline f k ≡ true → more ≡ made ++ k ∷ []
    → made ++ leading_in f all ≡ whole → more ++ leading_in f rest ≡ whole
leading_on f all rest made more whole k is inline kept so_far =
    ap (λ xs. xs ++ leading_in f rest) kept ∙ append_assoc made (k ∷ []) (leading_in f rest)
    ∙ ap (λ b. made ++ cond b (k ∷ leading_in f rest) []) (sym inline) ∙ ap (λ xs. made ++ leading_in f xs) (sym is) ∙ so_far

pub leading_ends : (f : Forest) (all rest made whole : List ℕ) (k : ℕ) → all ≡ k ∷ rest → is_at is_inline f k ≡ false → made ++ leading_in f all ≡ whole
    → made ≡ whole
leading_ends f all rest made whole k is other so_far =
    sym (append-nil made) ∙ ap (λ b. made ++ cond b (k ∷ leading_in f rest) []) (sym other) ∙ ap (λ xs. made ++ leading_in f xs) (sym is) ∙ so_far
