use Rattle.std.proofs.Common.{◌≡◌, ◌∙◌, ◌==◌, length, sym, ap, arith}
use Rattle.lx_script.proofs.Reading.{has_three-array}
use Rattle.lx_script.proofs.references.has_three.Goals as goal

pub returns-in-Some : goal.returns-in-Some
returns-in-Some c =
    let len : c.len.result ≡ length c.in-Some.items.now.items = omega arith in
    ap (λ n. n == 3) len ∙ sym (has_three-array _ _ c.in-Some.ensures)
