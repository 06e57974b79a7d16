-- Pieces of texts, which are lists of characters.
use Rattle.std.specs.Prelude.{ℕ, ◌==◌, ◌&&◌, ◌||◌, Bool, true, false, List, [], ◌∷◌}

-- whether a piece is at the front of a text
abbrev pub begins : List ℕ → List ℕ → Bool
begins [] text = true
begins (p ∷ piece) [] = false
begins (p ∷ piece) (c ∷ text) = (p == c) && begins piece text

-- whether a piece is anywhere in a text
abbrev pub has_piece : List ℕ → List ℕ → Bool
has_piece piece [] = begins piece []
has_piece piece (c ∷ text) = begins piece (c ∷ text) || has_piece piece text
