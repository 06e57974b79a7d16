use Rattle.std.proofs.Common.{◌≡◌, ◌+◌, ◌-◌, ◌*◌, ◌<◌, ◌≤◌, length}
use Rattle.json.specs.Json.{parse_map}
use Rattle.serde_json.specs.View.{members_view}
use Rattle.lx_value.specs.Ahead.{items_from, members_from, items_ahead, members_ahead}
use Rattle.lx_value.proofs.Values.{behind}
use Rattle.lx_value.proofs.reading.+next.Given as goal

abbrev pub decreases-next_value : goal.decreases-next_value
decreases-next_value l = 2 * l.depth + 1

abbrev pub decreases-next_array : goal.decreases-next_array
decreases-next_array l = 2 * l.depth

abbrev pub decreases-next_object : goal.decreases-next_object
decreases-next_object l = 2 * l.depth

abbrev pub invariant-next_array-items : goal.invariant-next_array-items
invariant-next_array-items l =
    (0 < l.depth) × (items_ahead l.depth l.initial.reader ≡ parse_map (behind l.found.items) (items_from (l.depth - 1) l.reader))
    × (length l.reader ≤ length l.initial.reader)

abbrev pub decreases-next_array-items : goal.decreases-next_array-items
decreases-next_array-items l = length l.reader

abbrev pub invariant-next_object-members : goal.invariant-next_object-members
invariant-next_object-members l =
    (0 < l.depth) × (members_ahead l.depth l.initial.reader ≡ members_from (l.depth - 1) (members_view l.found.entries) l.reader)
    × (length l.reader ≤ length l.initial.reader)

abbrev pub decreases-next_object-members : goal.decreases-next_object-members
decreases-next_object-members l = length l.reader
