use Rattle.std.proofs.Common.{◌≡◌, ◌++◌, drop}
use Rattle.lx_script.proofs.Sent.{keys_left}
use Rattle.lx_script.proofs.selection.put_keys.Given as goal

abbrev pub invariant-keys : goal.invariant-keys
invariant-keys l =
    (l.writer.before ≡ l.initial.writer.before)
    × (l.writer.tokens ++ keys_left (drop l.key-index l.keys) ≡ l.initial.writer.tokens ++ keys_left l.keys)
