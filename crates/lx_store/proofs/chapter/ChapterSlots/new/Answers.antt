use Rattle.std.proofs.Common.{◌≡◌, ◌*◌, replicate, None, ap, ◌∙◌, arith}
use Rattle.lx_store.specs.Pages.{joined}
use Rattle.lx_store.proofs.Joined.{joined_empty}
use Rattle.lx_store.proofs.chapter.ChapterSlots.new.Goals as goal

pub returns : goal.returns
returns g c =
    let all : c.loop.counter * 32 ≡ 1024 = grind (arith, c.loop.auto.counter-end, c.loop-test.false) in
    ap joined c.loop.invariant ∙ joined_empty c.loop.counter ∙ ap (λ n. replicate n None) all
