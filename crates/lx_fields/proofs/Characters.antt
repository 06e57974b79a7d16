-- The characters of the texts that fields begin with.
use Rattle.std.proofs.Common.{◌≡◌, refl, [], ◌∷◌}
use Rattle.std.specs.Str.{chars}

pub no_chars : chars [] ≡ []
unfolding chars
no_chars = refl

pub tab_chars : chars (9 ∷ []) ≡ 9 ∷ []
unfolding chars
tab_chars = refl
