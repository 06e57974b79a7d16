-- Where each edit moves a point. An offset counts the code units of a text, or the children of an element. A point that no
-- case names stays.
use Rattle.std.specs.Prelude.{ℕ, ◌+◌, ◌-◌, ◌==◌, ◌&&◌, Bool, true, false, nat_lt, nat_le, min, if◌then◌else◌, List}
use Rattle.lx_node.specs.Limits.{last_u32}
use Rattle.lx_node.specs.declared.cause.Point.{Point}
use Rattle.lx_node.specs.declared.cause.PointKind.{PointKind}
use Rattle.lx_node.specs.declared.cause.PointKind.TheVariants.{Text, Element}
use Rattle.lx_text.specs.Texts.{within}

-- a sum of offsets, which ends at the last number of a u32
unfoldable pub offset_sum : ℕ → ℕ → ℕ
offset_sum a b = min (a + b) last_u32

-- ---- a child comes or goes

-- a point counts children, and no code units
unfoldable pub is_counting_children : PointKind → Bool
is_counting_children Text = false
is_counting_children Element = true

-- the point lies among the children of the parent, after the child at the index
unfoldable pub is_behind : ℕ → ℕ → Point → Bool
is_behind parent index p = is_counting_children p.kind && (p.key == parent && nat_lt index p.offset)

-- where a point goes as a child comes to the index of the parent
unfoldable pub put_moves : ℕ → ℕ → Point → Point
put_moves parent index p = if is_behind parent index p then record p { offset = offset_sum p.offset 1 } else p

-- where a point goes as the child at the index of the parent goes
unfoldable pub take_moves : ℕ → ℕ → Point → Point
take_moves parent index p = if is_behind parent index p then record p { offset = p.offset - 1 } else p

-- ---- a text changes

-- where an offset goes as a piece of this length replaces what is between two others
unfoldable pub spliced_offset : ℕ → ℕ → ℕ → ℕ → ℕ
spliced_offset from to len o =
    if nat_le o from then o
    else if nat_le to o then offset_sum (o - (to - from)) len
    else offset_sum from len

-- where a point goes as a piece of this length replaces what is between two offsets of the key
unfoldable pub splice_moves : ℕ → ℕ → ℕ → ℕ → Point → Point
splice_moves key from to len p = if p.key == key then record p { offset = spliced_offset from to len p.offset } else p

-- where a point goes as the key gets this text: an offset that isn't one of it becomes the last one before
unfoldable pub set_moves : ℕ → List ℕ → Point → Point
set_moves key text p = if p.key == key then record p { offset = within text p.offset } else p

-- where a point goes as the key keeps what comes before an offset, and a new one gets the rest
unfoldable pub split_moves : ℕ → ℕ → ℕ → Point → Point
split_moves key at new p =
    if p.key == key && nat_lt at p.offset then record p { key = new; offset = p.offset - at } else p

-- where a point goes as the new key, with this text, comes in the place of the old one
unfoldable pub replace_moves : ℕ → ℕ → List ℕ → Point → Point
replace_moves old new text p = if p.key == old then record p { key = new; offset = within text p.offset } else p

-- ---- what one node has comes to another

-- where a point goes as what was at 0 of the one key comes to this offset of the other
unfoldable pub carry_moves : ℕ → ℕ → ℕ → Point → Point
carry_moves from to at p = if p.key == from then record p { key = to; offset = offset_sum at p.offset } else p

-- where a point goes as the text of the second goes after that of the first, which has this length
unfoldable pub join_moves : ℕ → ℕ → ℕ → Point → Point
join_moves first len second p = carry_moves second first len p

-- where a point goes as the children of the one go after those of the other, which has so many
unfoldable pub children_moves : ℕ → ℕ → ℕ → Point → Point
children_moves from to size p = carry_moves from to size p

-- where a point goes as the children of the key come in its place, at the index of the parent
unfoldable pub unwrap_moves : ℕ → ℕ → ℕ → Point → Point
unwrap_moves key parent index p = carry_moves key parent index p

-- ---- a point is sent elsewhere

-- every point on the key becomes this one
unfoldable pub moved_to : ℕ → Point → Point → Point
moved_to key to p = if p.key == key then to else p
