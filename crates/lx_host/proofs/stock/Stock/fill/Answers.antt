use Rattle.std.proofs.Common.{length, sym, ap, ◌∙◌, subst, arith, ◌∷◌, [], length-append}
use Rattle.std.specs.Result.{is_ok}
use Rattle.lx_host.specs.Stocked.{AreRoomy}
use Rattle.lx_host.proofs.Roomy.{roomy_more, pushed}
use Rattle.lx_host.proofs.stock.Stock.fill.Goals as goal

pub loop-preserved : goal.loop-preserved
loop-preserved c =
    let had = c.loop.self-inside.vectors.items in
    let more = pushed (is_ok c.push.result) _ _ _ (ap is_ok (sym c.in_ok-push.was)) c.push.ensures.items in
    let longer = ap length more ∙ length-append had (c.in_ok-roomy.roomy ∷ []) in
    record {
      roomy = subst AreRoomy (sym more)
          (roomy_more had c.in_ok-roomy.roomy c.loop.invariant.roomy c.in_ok-roomy.ensures.items (omega (arith, c.in_ok-roomy.ensures.exact)));
      filled = omega (arith, longer, c.loop.invariant.filled);
      kept = omega (arith, longer, c.loop.invariant.kept);
    }
