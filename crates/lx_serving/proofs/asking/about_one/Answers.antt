use Rattle.std.proofs.Common.{arith}
use Rattle.lx_serving.proofs.Asked.{about_one-others}
use Rattle.lx_serving.proofs.asking.about_one.Goals as goal

pub returns-then-items-ne2 : goal.returns-then-items-ne2
returns-then-items-ne2 c = about_one-others c.args.items.now (λ two. omega arith)
