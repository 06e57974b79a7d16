use Rattle.std.proofs.Common.{◌≡◌, ◌++◌, drop}
use Rattle.lx_caret.proofs.Covering.{wholes}
use Rattle.lx_caret.proofs.pieces.keep_each.Given as goal

-- the pieces so far, and those of the nodes that are left
abbrev pub invariant-loop-key : goal.invariant-loop-key
invariant-loop-key l = l.pieces.items ++ wholes l.draft.forest (drop l.key-index l.keys) ≡ l.fn.pieces.items ++ wholes l.draft.forest l.keys
