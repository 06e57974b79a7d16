-- What can be seen of a source that never fails.
use Rattle.std.specs.Prelude.{ℕ, List, None, Some}
use Rattle.lx_cli.specs.Run.{SourceSeen}

-- a source that never fails, with these bytes left
abbrev pub sure_seen : List ℕ → SourceSeen
sure_seen left = record { left = Some left; faults = 0; reads = None }
