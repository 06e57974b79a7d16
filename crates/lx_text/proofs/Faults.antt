-- Which cause comes first, from what the two cuts answered.
use Rattle.std.proofs.Common.{◌≡◌, ℕ, ◌-◌, ◌<◌, ◌≤◌, true, false, List, None, Some, arith}
use Rattle.std.proofs.lemmas.Bool.Decides.{nat_tests}
use Rattle.lx_node.specs.declared.cause.Cause.TheVariants.{BadPlace}
use Rattle.lx_text.specs.Texts.{is_offset, rest_of, slice_fault}
use Rattle.lx_text.proofs.Told.{offset-further}

pub fault_turned : (from to : ℕ) (cs : List ℕ) → is_offset from cs ≡ true → is_offset to cs ≡ true → to < from → slice_fault cs from to ≡ Some (BadPlace from)
fault_turned from to cs first second order = grind (arith, nat_tests, first, second)

pub fault_second : (from to : ℕ) (cs : List ℕ) → is_offset from cs ≡ true → is_offset to cs ≡ false → slice_fault cs from to ≡ Some (BadPlace to)
fault_second from to cs first none = grind (arith, nat_tests, first, none)

pub fault_behind : (from to : ℕ) (cs : List ℕ) → is_offset from cs ≡ true → from ≤ to → is_offset (to - from) (rest_of from cs) ≡ false
    → slice_fault cs from to ≡ Some (BadPlace to)
fault_behind from to cs first order none = grind (arith, nat_tests, first, none, offset-further from to cs first order)

pub no_fault : (from to : ℕ) (cs : List ℕ) → is_offset from cs ≡ true → from ≤ to → is_offset (to - from) (rest_of from cs) ≡ true
    → slice_fault cs from to ≡ None
no_fault from to cs first order some = grind (arith, nat_tests, first, some, offset-further from to cs first order)
