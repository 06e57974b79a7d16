use Rattle.std.proofs.Common.{◌≡◌, ◌∙◌, ℕ, ◌<◌, min, Result, Ok, Err, ap, chars, arith}
use Rattle.std.specs.Result.{OkIff, result_unwrap_or}
use Rattle.lx_text.specs.Texts.{text_length}
use Rattle.lx_text.proofs.Appended.{min-capped}
use Rattle.lx_text.proofs.pieces.units.Goals as goal

-- a count that fits is what it is, and another is the last one that fits
capped : {E : Type 0} (r : Result ℕ E) (n : ℕ) → OkIff r (n < 4294967296) n → result_unwrap_or r 4294967295 ≡ min n 4294967295
capped (Ok x) n h = omega (arith, h.0, h.1)
capped (Err e) n h = omega (arith, h)

pub returns : goal.returns
unfolding text_length
returns c =
    c.unwrap_or.ensures ∙ capped c.try_from.result c.units.result c.try_from.ensures ∙ ap (λ n. min n 4294967295) c.units.ensures
    ∙ min-capped (text_length (chars c.args.text.now))
