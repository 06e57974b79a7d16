-- What the fields of a history mean.
use Rattle.std.specs.Prelude.{◌-◌}
use Rattle.std.specs.VecDeque.{deque_len, deque_capacity}
use Rattle.lx_history.specs.declared.history.History.TheInside.{Inside}
use Rattle.lx_history.specs.History.{History}
use Rattle.lx_history.specs.Kept.{Kept}
use Rattle.lx_history.specs.Told.{states}

-- the history that the code's fields mean
abbrev pub history_in : Inside → History
history_in h = record {
  delay = h.delay;
  undo = states h.undo.items;
  redo = states h.redo.items;
  current = h.current;
  last = h.last;
  moment = h.moment;
}

-- the same with the room that its lists have for further entries
abbrev pub kept_of : Inside → Kept
kept_of h = record {
  history = history_in h;
  undo_room = deque_capacity h.undo - deque_len h.undo;
  redo_room = deque_capacity h.redo - deque_len h.redo;
  strays = h.strays;
}
