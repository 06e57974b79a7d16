-- The offers of a name are those above the built-in command, and then those after it.
use Rattle.std.proofs.Common.{◌≡◌, ◌++◌, ℕ, List, refl, append_assoc}
use Rattle.lx_step.specs.declared.listener.Listener.{Listener}
use Rattle.lx_bus.specs.Offers.{offers, above, behind}

pub offers_parted : (name : List ℕ) (ls : List Listener) → offers name ls ≡ above name ls ++ behind name ls
unfolding offers above behind
offers_parted name ls = simp append_assoc refl
