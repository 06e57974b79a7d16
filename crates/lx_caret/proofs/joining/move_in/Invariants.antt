use Rattle.std.proofs.Common.{◌≡◌, ◌+◌, drop}
use Rattle.lx_caret.specs.Deleting.{moved_in}
use Rattle.lx_caret.proofs.joining.move_in.Given as goal

-- those that are left, after what was moved, come to what all come to
abbrev pub invariant-loop-key : goal.invariant-loop-key
invariant-loop-key l =
    record { moved : moved_in l.to l.at (drop l.key-index l.keys) l.draft ≡ moved_in l.to l.index l.keys l.fn.draft; at : l.at ≡ l.index + l.key-index }
