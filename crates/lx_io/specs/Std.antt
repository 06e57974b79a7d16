-- What is seen of a reader or a writer of std that is behind a source or a sink.
use Rattle.std.specs.Prelude.{ℕ, List, Option}

-- the bytes that the reader has left or the writer holds, where its type shows them to a proof (std's streams, files
-- and sockets don't), and how often a call failed
pub record StdState : Type 0 where
  pub known : Option (List ℕ)
  pub faults : ℕ

-- a reader or writer before any call
abbrev pub new_std : Option (List ℕ) → StdState
new_std known = record { known = known; faults = 0 }
