use Rattle.std.proofs.Common.{◌≡◌, ◌∙◌, ◌+◌, ◌++◌, ◌∷◌, [], take, sym, ap}
use Rattle.std.proofs.lemmas.List.{take_more}
use Rattle.lx_compare.proofs.Settled.{among_more}
use Rattle.lx_compare.proofs.comparing.mark_among.Goals as goal

pub loop-key-preserved : goal.loop-key-preserved
loop-key-preserved c =
    let keys = c.args.keys.now in
    let made = c.in_ok-settle.ensures in
    let front = take c.loop-key.key-index keys in
    let push : take (c.loop-key.key-index + 1) keys ≡ front ++ c.key-item.result ∷ [] =
    take_more keys c.loop-key.key-index c.key-item.result c.loop-key-test.true ∙ ap (λ k. front ++ k ∷ []) (sym c.key-item.is) in
    record {
      founded = made.founded;
      grows = λ q e. made.grows q (c.loop-key.invariant.grows q e);
      settled =
          among_more c.args.old.now c.args.new.now c.loop-key.marks c.settle.new.marks _ front c.key-item.result push c.loop-key.invariant.settled made.grows
          made.settled;
    }
