-- What is known of a key, with one host more or fewer.
use Rattle.std.specs.Prelude.{ℕ, ◌+◌, ◌-◌, Bool, true, nat_lt, if◌then◌else◌, Option, None, Some}
use Rattle.lx_host.specs.declared.keys.Shown.{Shown}

-- what is known of a key with one host more
abbrev pub with_one : ℕ → Option Shown → Shown
with_one id None = record { hosts = 1; ids = id }
with_one id (Some s) = record { hosts = s.hosts + 1; ids = s.ids + id }

-- whether one host at most shows the key
abbrev pub is_last : Option Shown → Bool
is_last None = true
is_last (Some s) = nat_lt s.hosts 2

-- what is known of the key with one host fewer, where others are left
abbrev pub one_fewer : ℕ → Shown → Shown
one_fewer id s = record { hosts = s.hosts - 1; ids = s.ids - id }

-- what is known of a key with one host fewer: nothing where that was the last
abbrev pub without_one : ℕ → Option Shown → Option Shown
without_one id None = None
without_one id (Some s) = if nat_lt s.hosts 2 then None else Some (one_fewer id s)
