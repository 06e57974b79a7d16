use Rattle.std.proofs.Common.{◌≡◌, drop}
use Rattle.lx_draft.specs.Faults.{after}
use Rattle.lx_caret.specs.Formatting.{isolated}
use Rattle.lx_caret.proofs.Isolating.{and_ahead}
use Rattle.lx_caret.proofs.pieces.isolate_each.Given as goal

-- the draft is as it was at the first piece, and the texts so far, with those of the pieces that are left, are what all come to
abbrev pub invariant-loop-piece : goal.invariant-loop-piece
invariant-loop-piece l = record {
  first : l.piece-index ≡ 0 → l.draft ≡ l.fn.draft;
  way : after (isolated (drop l.piece-index l.pieces) l.draft) (and_ahead l.keys.items) ≡ isolated l.pieces l.fn.draft;
}
