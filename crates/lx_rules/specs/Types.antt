-- When kinds are one, and sets of types, which are rows of the table of kinds.
use Rattle.std.specs.Prelude.{ℕ, ◌^◌, ◌/◌, ◌%◌, ◌==◌, Bool, false, nat_lt, if◌then◌else◌, Option, None, Some}
use Rattle.lx_node.specs.declared.kind.Kind.{Kind}
use Rattle.lx_node.specs.declared.kind.Kind.TheVariants.{Heading, List as ListKind}
use Rattle.lx_node.specs.declared.kind.ListType.{ListType}
use Rattle.lx_node.specs.declared.kind.ListType.TheVariants.{Bullet, Number, Check}
use Rattle.lx_step.specs.Types.{rows_in_table, row_of}

-- the number of a type of list, which no other has
unfoldable pub place_of : ListType → ℕ
place_of Bullet = 0
place_of Number = 1
place_of Check = 2

-- whether two kinds are one: of one type, two headings also of one level, and two lists of one list type
unfoldable pub same_kind : Kind → Kind → Bool
same_kind (Heading level) (Heading other) = level == other
same_kind (ListKind type) (ListKind other) = place_of type == place_of other
same_kind a b = row_of a == row_of b

-- whether there is a kind, and it is this one
abbrev pub is_kind : Option Kind → Kind → Bool
is_kind None kind = false
is_kind (Some a) kind = same_kind a kind

-- whether there is a kind, and its type is that of a row
abbrev pub is_of_row : ℕ → Option Kind → Bool
is_of_row row None = false
is_of_row row (Some kind) = row == row_of kind

-- whether a kind's type is in a set of rows, whose bit i stands for row i
abbrev pub is_on : ℕ → Kind → Bool
is_on rows kind = (rows / 2 ^ row_of kind) % 2 == 1

-- the set of one row, and of none where the table has no such row
abbrev pub set_of_row : ℕ → ℕ
set_of_row row = if nat_lt row rows_in_table then 2 ^ row else 0
