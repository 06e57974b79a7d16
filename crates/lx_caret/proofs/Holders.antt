-- The way up from what holds a point.
use Rattle.std.proofs.Common.{◌≡◌, ◌∙◌, ◌++◌, ℕ, false, cond, List, [], ◌∷◌, None, Some, sym, ap, append_assoc, append-nil, eqb}
use Rattle.lx_forest.specs.Forest.{Forest}
use Rattle.lx_forest.specs.Lookups.{parent_of, ancestors}
use Rattle.lx_forest.proofs.Walks.{ancestors-top, ancestors-step}
use Rattle.lx_links.specs.Stands.{Sound}
use Rattle.lx_links.proofs.Up.{in_order}
use Rattle.lx_blocks.specs.Places.{until}

kept : (f : Forest) (block q : ℕ) (above made more whole : List ℕ) → eqb q block ≡ false → ancestors f q ≡ above → more ≡ made ++ q ∷ []
    → made ++ until (Some block) (q ∷ ancestors f q) ≡ whole → more ++ until (Some block) above ≡ whole
kept f block q above made more whole other up keeps so_far =
    ap (λ xs. xs ++ until (Some block) above) keeps ∙ append_assoc made (q ∷ []) (until (Some block) above)
    ∙ ap (λ xs. made ++ q ∷ until (Some block) xs) (sym up)
    ∙ ap (λ b. made ++ cond b [] (q ∷ until (Some block) (ancestors f q))) (sym other) ∙ so_far

-- another key is kept, and the way goes on from its parent
pub way_on : (f : Forest) (block q p : ℕ) (made more whole : List ℕ) → Sound f → parent_of f q ≡ Some p → eqb q block ≡ false → more ≡ made ++ q ∷ []
    → made ++ until (Some block) (q ∷ ancestors f q) ≡ whole → more ++ until (Some block) (p ∷ ancestors f p) ≡ whole
way_on f block q p made more whole s up other keeps so_far =
    kept f block q (p ∷ ancestors f p) made more whole other (ancestors-step f q p (in_order f q p s up) up) keeps so_far

-- ... or ends where there is none
pub way_top : (f : Forest) (block q : ℕ) (made more whole : List ℕ) → parent_of f q ≡ None → eqb q block ≡ false → more ≡ made ++ q ∷ []
    → made ++ until (Some block) (q ∷ ancestors f q) ≡ whole → more ≡ whole
way_top f block q made more whole top other keeps so_far =
    sym (append-nil more) ∙ kept f block q [] made more whole other (ancestors-top f q top) keeps so_far

pub above_parent : (f : Forest) (block q p : ℕ) → Sound f → parent_of f q ≡ Some p → until (Some block) (ancestors f q) ≡ until (Some block) (p ∷ ancestors f p)
above_parent f block q p s up = ap (until (Some block)) (ancestors-step f q p (in_order f q p s up) up)

pub above_top : (f : Forest) (block q : ℕ) → parent_of f q ≡ None → until (Some block) (ancestors f q) ≡ []
above_top f block q top = ap (until (Some block)) (ancestors-top f q top)
