-- What tests say that hold together.
use Rattle.std.proofs.Common.{◌≡◌, Bool, true, false, ◌&&◌, not, arith}

pub first_of : (a b : Bool) → (a && b) ≡ true → a ≡ true
first_of a b e = grind (arith, e)

pub second_of : (a b : Bool) → (a && b) ≡ true → b ≡ true
second_of a b e = grind (arith, e)

pub not_true : (a : Bool) → not a ≡ true → a ≡ false
not_true a e = grind (arith, e)
