-- A test of two texts says whether they have the same characters.
use Rattle.std.proofs.Common.{◌≡◌, ℕ, List, Bool}
use Rattle.std.specs.Prelude.{IsTrue, ◌↔◌}
use Rattle.std.proofs.lemmas.Bool.Decides.{same_from_decides}
use Rattle.lx_node.specs.Same.{same_text}
use Rattle.lx_node.proofs.Same.{same_text-Decides}

pub same_by : (b : Bool) (xs ys : List ℕ) → IsTrue b ↔ (xs ≡ ys) → b ≡ same_text xs ys
same_by b xs ys tells = same_from_decides b (same_text xs ys) tells (same_text-Decides xs ys)
