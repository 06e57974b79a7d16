use Rattle.std.proofs.Common.{◌∙◌, ap, sym, arith}
use Rattle.lx_edit.proofs.Climbed.{climbed, climb_told, removed_from}
use Rattle.lx_edit.proofs.removing.remove.Goals as goal

pub loop-next-smaller : goal.loop-next-smaller
loop-next-smaller c = omega (arith, c.in-Ok.ensures.counted, c.in-Ok.ensures.within)

pub loop-next-preserved : goal.loop-next-preserved
loop-next-preserved c =
    climbed c.in-Some.at c.loop-next.draft c.remove_one.new.draft c.in-Ok.emptied c.in-Ok.ensures.order c.in-Ok.ensures.does c.in-Ok.ensures.emptied
    ∙ sym (ap (λ n. removed_from n c.loop-next.draft) c.in-Some.is) ∙ c.loop-next.invariant

pub returns-in-Err : goal.returns-in-Err
returns-in-Err c =
    climb_told c.in-Some.at c.loop-next.draft _ (sym (ap (λ n. removed_from n c.loop-next.draft) c.in-Some.is) ∙ c.loop-next.invariant) c.in-Err.ensures.does
