use Rattle.std.proofs.Common.{◌≡◌, ◌≤◌, ◌++◌, length, take, drop, sym, ap, ◌∙◌, arith}
use Rattle.std.proofs.lemmas.Grind.{common_steps}
use Rattle.std.proofs.lemmas.List.{drop-drop}
use Rattle.lx_io.proofs.Fronts.{front_then_rest}
use Rattle.lx_io.proofs.sure_source.SureSourceSource.read.Goals as goal

pub returns-clause-front : goal.returns-clause-front
returns-clause-front c =
    let n = c.min-count.result in
    let left = drop c.self.inside.start c.self.inside.bytes.items in
    let front = c.copy_from_slice.new.self in
    let copied : front ≡ take n left = grind (arith, common_steps) in
    let within : n ≤ length left = grind (arith, common_steps) in
    sym c.self.view_is
    ∙ front_then_rest left front (drop n c.args.into.now) n copied within
    ∙ ap (λ rest. take n (front ++ drop n c.args.into.now) ++ rest) (drop-drop n c.self.inside.start c.self.inside.bytes.items)
