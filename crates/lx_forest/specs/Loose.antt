-- What an update has moved: keys among which is each that is below nothing, and below which is each that is deep.
use Rattle.std.specs.Prelude.{ℕ, ◌<◌, ◌≡◌, ◌≢◌, ◌==◌, ◌||◌, ◌&&◌, not, is_none, Bool, true, false, List, [], ◌∷◌, Some, None}
use Rattle.lx_trees.specs.Siblings.{is_among}
use Rattle.lx_forest.specs.Forest.{Forest}
use Rattle.lx_forest.specs.Lookups.{has, parent_of, is_within, depth}

-- whether the key is below nothing and isn't the root's
abbrev pub is_top : Forest → ℕ → Bool
is_top f q = has q f && (is_none (parent_of f q) && not (q == 0))

-- each key but the root's that is below nothing is among these
abbrev pub AreLoose : Forest → List ℕ → Type 0
AreLoose f ks = (q : ℕ) → has q f ≡ true → parent_of f q ≡ None → q ≢ 0 → is_among q ks ≡ true

-- whether the key is in the tree of one of these
abbrev pub is_in_one : Forest → List ℕ → ℕ → Bool
is_in_one f [] q = false
is_in_one f (k ∷ ks) q = is_within f k q || is_in_one f ks q

-- each key that is deeper than this is in the tree of one of these
abbrev pub IsShallowBut : ℕ → Forest → List ℕ → Type 0
IsShallowBut most f ks = (q d : ℕ) → depth f q ≡ Some d → most < d → is_in_one f ks q ≡ true

-- these keys are all that an update may have moved: no other is below nothing, and no other tree reaches deeper than
-- this
pub record AreMoved (most : ℕ) (f : Forest) (ks : List ℕ) : Type 0 where
  pub loose : AreLoose f ks
  pub shallow : IsShallowBut most f ks
