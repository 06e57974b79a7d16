-- The numbers that an editor doesn't go beyond.
use Rattle.std.specs.Prelude.{ℕ}

-- the last number of a u32
abbrev pub last_u32 : ℕ
last_u32 = 4294967295

-- the last number of a u64
abbrev pub last_u64 : ℕ
last_u64 = 18446744073709551615

-- ---- limits of one update

-- how often one update may count: 100,000 times
abbrev pub most_counts : ℕ
most_counts = 100000

-- how many scalar values one update may write: 16,777,216
abbrev pub most_written : ℕ
most_written = 16777216

-- ---- limits of a committed state

-- how deep the deepest node of a committed state may be: 48 below the root
abbrev pub most_depth : ℕ
most_depth = 48

-- how many nodes a committed state may have: 16,384
abbrev pub most_nodes : ℕ
most_nodes = 16384

-- how many scalar values the strings of a committed state may have together: 1,048,576
abbrev pub most_characters : ℕ
most_characters = 1048576

-- the greatest next key that a committed state may have: 1,048,576
abbrev pub most_key : ℕ
most_key = 1048576
