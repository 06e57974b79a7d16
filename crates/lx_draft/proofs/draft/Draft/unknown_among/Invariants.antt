use Rattle.std.proofs.Common.{◌≡◌, drop}
use Rattle.lx_draft.specs.Selecting.{unknown_among}
use Rattle.lx_draft.proofs.draft.Draft.unknown_among.Given as goal

-- the first that isn't there is among those that are left
abbrev pub invariant-loop-key : goal.invariant-loop-key
invariant-loop-key l = unknown_among l.self.forest (drop l.key-index l.keys) ≡ unknown_among l.self.forest l.keys
