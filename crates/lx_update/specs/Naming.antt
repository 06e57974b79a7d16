-- Names of nodes, each with the node that got it last.
use Rattle.std.specs.Prelude.{ℕ, List, [], ◌∷◌, String, string_bytes, chars, Option, Some}
use Rattle.std.specs.Ordering.{nat_cmp}
use Rattle.std.specs.Cmp.Lexicographic.{slice_cmp}
use Rattle.std.specs.FinMap.{FinMap, empty, insert}

-- a map from names, which are texts, to nodes
abbrev pub Naming : Type 0
Naming = FinMap (slice_cmp nat_cmp) ℕ

-- no node has a name
abbrev pub no_names : Naming
no_names = empty

-- a node gets a name, if there is both: from then on no other has it
abbrev pub names_bound : Option (List ℕ) → Option ℕ → Naming → Naming
names_bound (Some name) (Some k) names = insert names name k
names_bound _ _ names = names

-- the entries of a map from names, each name as the text that its bytes are
abbrev pub as_texts : {Y : Type 0} → List (String Y × ℕ) → List (List ℕ × ℕ)
as_texts [] = []
as_texts (e ∷ es) = (chars (string_bytes e.0), e.1) ∷ as_texts es
