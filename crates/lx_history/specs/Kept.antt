-- A history, with the room that there is for entries more.
use Rattle.std.specs.Prelude.{ℕ, ◌<◌, List, Option}
use Rattle.lx_history.specs.History.{History}

-- a history, with the room on each list for further entries, and the places at which the current state may differ from what is
-- committed
pub record Kept : Type 0 where
  pub history : History
  pub undo_room : ℕ
  pub redo_room : ℕ
  pub strays : Option (List ℕ)

-- there is room for one more entry on each list
pub record IsPrepared (k : Kept) : Type 0 where
  pub undo : 0 < k.undo_room
  pub redo : 0 < k.redo_room
