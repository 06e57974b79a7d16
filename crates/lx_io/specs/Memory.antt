-- What a source and a sink in memory hold, and what a call of either does.
use Rattle.std.specs.Prelude.{ℕ, ◌+◌, ◌-◌, ◌==◌, ◌&&◌, ◌||◌, Bool, min, max, nat_lt, List, [], ◌++◌, length, drop}
use Rattle.std.specs.List.{list_any}
use Rattle.lx_io.specs.Devices.{last_count}

-- a count after one more, which ends at the last
abbrev pub raised : ℕ → ℕ
raised count = min (count + 1) last_count

-- whether this number is in the list
abbrev pub is_listed : List ℕ → ℕ → Bool
is_listed numbers number = list_any (λ listed. listed == number) numbers

-- a source: the bytes that are left, the most bytes that a read gives, the numbers of the reads that fail, how often it
-- was read, and how often that failed
pub record SourceState : Type 0 where
  pub left : List ℕ
  pub at_most : ℕ
  pub failing : List ℕ
  pub calls : ℕ
  pub faults : ℕ

-- a source that was not read yet
abbrev pub new_source : List ℕ → ℕ → List ℕ → SourceState
new_source bytes at_most failing =
    record { left = bytes; at_most = at_most; failing = failing; calls = 0; faults = 0 }

-- whether the next read fails
abbrev pub fails_read : SourceState → Bool
fails_read s = is_listed s.failing (raised s.calls)

-- how many bytes a read into a buffer of this length gives
abbrev pub read_length : SourceState → ℕ → ℕ
read_length s room = min (min (max s.at_most 1) room) (length s.left)

-- the source after a read that gave so many bytes
abbrev pub after_read : SourceState → ℕ → SourceState
after_read s count = record s { left = drop count s.left; calls = raised s.calls }

-- the source after a read that failed
abbrev pub after_failed_read : SourceState → SourceState
after_failed_read s = record s { calls = raised s.calls; faults = raised s.faults }

-- a sink: the bytes that it took, how many bytes it takes in all, the most bytes that a write takes, the numbers of the
-- writes that fail, how often it was written to, and how often that failed
pub record SinkState : Type 0 where
  pub taken : List ℕ
  pub room : ℕ
  pub at_most : ℕ
  pub failing : List ℕ
  pub calls : ℕ
  pub faults : ℕ

-- a sink that took nothing yet
abbrev pub new_sink : ℕ → ℕ → List ℕ → SinkState
new_sink room at_most failing =
    record { taken = []; room = room; at_most = at_most; failing = failing; calls = 0; faults = 0 }

-- how many bytes there is still room for
abbrev pub room_left : SinkState → ℕ
room_left s = s.room - length s.taken

-- whether the next write fails, with a piece of this length
abbrev pub fails_write : SinkState → ℕ → Bool
fails_write s piece_length =
    is_listed s.failing (raised s.calls) || (room_left s == 0 && nat_lt 0 piece_length)

-- how many bytes a write of a piece of this length takes
abbrev pub write_length : SinkState → ℕ → ℕ
write_length s piece_length = min (min (max s.at_most 1) piece_length) (room_left s)

-- the sink after a write that took these bytes
abbrev pub after_write : SinkState → List ℕ → SinkState
after_write s bytes = record s { taken = s.taken ++ bytes; calls = raised s.calls }

-- the sink after a write that failed
abbrev pub after_failed_write : SinkState → SinkState
after_failed_write s = record s { calls = raised s.calls; faults = raised s.faults }
