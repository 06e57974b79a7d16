-- The last of some keys, and the last node of a tree that isn't there.
use Rattle.std.proofs.Common.{◌≡◌, ◌∙◌, ◌-◌, ℕ, suc, false, List, [], ◌∷◌, length, Some, sym, ap, arith}
use Rattle.std.specs.Prelude.{unwrap_or}
use Rattle.std.specs.List.{slice_get}
use Rattle.std.proofs.lemmas.Bool.Decides.{nat_tests}
use Rattle.lx_trees.specs.NamedTrees as named
use Rattle.lx_trees.specs.Siblings.{last_of}
use Rattle.lx_trees.proofs.NamedTrees.{alone-absent}
use Rattle.lx_trees.proofs.Positions.{last_of-slice_get}
use Rattle.lx_forest.specs.Forest.{Forest}
use Rattle.lx_forest.specs.Lookups.{key_of, has, count}
use Rattle.lx_clip.specs.Pasting.{last_leaf}

before_end : (n : ℕ) → n ≡ suc n - 1
before_end n = omega arith

pub last_got : (ks : List ℕ) (k : ℕ) → slice_get ks (length ks - 1) ≡ Some k → last_of ks ≡ Some k
last_got [] k got = absurd (grind (arith, got))
last_got (x ∷ ks) k got = last_of-slice_get x ks ∙ ap (slice_get (x ∷ ks)) (before_end (length ks)) ∙ got

pub none_within : (f : Forest) (k : ℕ) → has k f ≡ false → k ≡ last_leaf f k
none_within f k out =
    let none : count k f ≡ 0 = grind (arith, nat_tests, out) in
    sym (ap (λ t. unwrap_or (last_of (named.preorder key_of t)) k) (alone-absent key_of k f none))
