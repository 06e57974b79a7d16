use Rattle.std.proofs.Common.{◌≡◌, ◌++◌, map}
use Rattle.lx_outline.specs.Events.{event_of}
use Rattle.lx_outline.proofs.keys.Keys.tell.Given as goal

-- what was listed, with the keys that are left, is all
abbrev pub invariant-loop-key : goal.invariant-loop-key
invariant-loop-key l = l.events.items ++ map (event_of l.change) l.key-iterator ≡ l.fn.events.items ++ map (event_of l.change) l.self
