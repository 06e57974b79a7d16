use Rattle.std.proofs.Common.{◌∙◌, sym}
use Rattle.std.proofs.lemmas.Result.{IfOk-weaker}
use Rattle.lx_reconcile.proofs.Around.{stay_either}
use Rattle.lx_reconcile.proofs.Parts.{whole_part}
use Rattle.lx_reconcile.proofs.reconciling.moves_of.Goals as goal

-- ---- all children of a touched node

pub moves_of_all-requires-clause-sound_before : goal.moves_of_all-requires-clause-sound_before
moves_of_all-requires-clause-sound_before g c = c.requires.between.was_sound

pub moves_of_all-requires-clause-sound_after : goal.moves_of_all-requires-clause-sound_after
moves_of_all-requires-clause-sound_after g c = c.requires.between.sound

pub moves_of_all-requires-clause-ordered_before : goal.moves_of_all-requires-clause-ordered_before
moves_of_all-requires-clause-ordered_before g c = c.requires.between.view.before

pub moves_of_all-requires-clause-ordered_after : goal.moves_of_all-requires-clause-ordered_after
moves_of_all-requires-clause-ordered_after g c = c.requires.between.view.after

pub returns-then-walks_all-clause-part : goal.returns-then-walks_all-clause-part
returns-then-walks_all-clause-part g c = IfOk-weaker c.moves_of_all.result _ _ (λ moves walk. whole_part _ _ _ moves.items walk) c.moves_of_all.ensures.walk

-- ---- a run of them

pub window_moves-requires-clause-stay : goal.window_moves-requires-clause-stay
window_moves-requires-clause-stay g c =
    stay_either _ _ _ _ c.requires.between c.args.parent.now.key c.requires.there_after c.args.given.now.whole
    (sym c.walks_all.ensures ∙ c.if-walks_all.false) c.requires.wide c.requires.there_before
