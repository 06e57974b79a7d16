-- The characters of the place where the nodes of a slice are.
use Rattle.std.proofs.Common.{◌≡◌, codes, refl}
use Rattle.std.specs.Str.{chars}

pub chars_nodes : chars (codes "/nodes") ≡ codes "/nodes"
unfolding chars
chars_nodes = refl
