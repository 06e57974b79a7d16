-- What the rectangle of two cells is, without a word of how it is found.
use Rattle.std.specs.Prelude.{ℕ, ◌≡◌, ◌<◌, ◌&&◌, not, Bool, true, false, nat_le, nat_lt, List}
use Rattle.std.specs.List.{list_any}
use Rattle.lx_table.specs.declared.spots.Spot.{Spot}
use Rattle.lx_table.specs.declared.rectangles.Rectangle.{Rectangle}
use Rattle.lx_table.specs.Spots.{covers}
use Rattle.lx_table.specs.Reading.{around, meet}

-- whether a rectangle lies within another
abbrev pub lies_within : Rectangle → Rectangle → Bool
lies_within r t = (nat_le t.top r.top && nat_le t.left r.left) && (nat_le r.bottom t.bottom && nat_le r.right t.right)

-- whether a rectangle holds a cell as a whole
abbrev pub holds_spot : Rectangle → Spot → Bool
holds_spot r s = lies_within (around s) r

-- whether a cell crosses the edge of a rectangle: it shares a place with it and isn't within it
abbrev pub crosses : Rectangle → Spot → Bool
crosses r s = meet r (around s) && not (holds_spot r s)

-- a rectangle encloses two cells: it holds both, and none of these cells crosses its edge
pub record Encloses (spots : List Spot) (a b : Spot) (r : Rectangle) : Type 0 where
  pub first : holds_spot r a ≡ true
  pub second : holds_spot r b ≡ true
  pub uncrossed : list_any (crosses r) spots ≡ false

-- a rectangle is the least that encloses two cells
pub record IsLeast (spots : List Spot) (a b : Spot) (r : Rectangle) : Type 0 where
  pub is : Encloses spots a b r
  pub least : (t : Rectangle) → Encloses spots a b t → lies_within r t ≡ true

-- a rectangle has places
pub record HasPlaces (r : Rectangle) : Type 0 where
  pub rows : r.top < r.bottom
  pub columns : r.left < r.right

-- whether a place of a row is in a rectangle
abbrev pub has_place : Rectangle → ℕ → ℕ → Bool
has_place r row column = (nat_le r.top row && nat_lt row r.bottom) && (nat_le r.left column && nat_lt column r.right)

-- a rectangle and a cell share a place
pub record SharePlace (r : Rectangle) (s : Spot) : Type 0 where
  pub row : ℕ
  pub column : ℕ
  pub here : has_place r row column ≡ true
  pub there : covers row column s ≡ true
