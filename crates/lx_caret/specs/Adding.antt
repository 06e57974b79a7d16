-- Adding a node at a point.
use Rattle.std.specs.Prelude.{ℕ, ◌-◌, ◌==◌, ◌&&◌, Bool, false, nat_lt, is_some, if◌then◌else◌, [], ◌∷◌, Option, None, Some, Result, Ok}
use Rattle.lx_node.specs.Kinds.{may_hold}
use Rattle.lx_node.specs.declared.kind.Kind.{Kind}
use Rattle.lx_node.specs.declared.fields.Fields.{Fields}
use Rattle.lx_node.specs.declared.cause.Cause.{Cause}
use Rattle.lx_node.specs.declared.cause.Cause.TheVariants.{WrongKind}
use Rattle.lx_node.specs.declared.cause.Point.{Point}
use Rattle.lx_node.specs.declared.cause.PointKind.{PointKind}
use Rattle.lx_node.specs.declared.cause.PointKind.TheVariants as point
use Rattle.lx_forest.specs.Forest.{Forest}
use Rattle.lx_forest.specs.Lookups.{kind_of}
use Rattle.lx_draft.specs.Working.{Working}
use Rattle.lx_draft.specs.Faults.{answer, after}
use Rattle.lx_draft.specs.Steps.{new_step, put_step}
use Rattle.lx_edit.specs.Conditions.{kind_above}
use Rattle.lx_draft.specs.Beside.{put_before_step, put_behind_step}
use Rattle.lx_edit.specs.Texts.{split_step}
use Rattle.lx_blocks.specs.Ranges.{normal_at, characters_at}

-- the kind of what a node goes into at a point: an element itself, or what a text is below
abbrev pub kind_around : Forest → ℕ → PointKind → Option Kind
kind_around f k point.Text = kind_above f k
kind_around f k point.Element = kind_of f k

-- what a node goes into may not hold such a node
abbrev pub no_room : Kind → Option Kind → Option Cause
no_room inner None = None
no_room inner (Some outer) = if may_hold outer inner then None else Some (WrongKind outer)

-- a text holds the point strictly inside
abbrev pub is_inside : Forest → Point → PointKind → Bool
is_inside f p point.Text = nat_lt 0 p.offset && nat_lt p.offset (characters_at f p.key)
is_inside f p point.Element = false

-- a normal text that holds the point strictly inside is split there
abbrev pub opened : Point → Working → Result Working Cause
opened p w =
    if is_inside w.forest p p.kind && is_some (normal_at w.forest p.key) then split_step p.key (p.offset ∷ []) w else Ok w

-- a node put at a point: before a text at offset 0, else after it; in an element at the offset
abbrev pub put_by : ℕ → Point → PointKind → Working → Result Working Cause
put_by k p point.Text w = if p.offset == 0 then put_before_step k p.key w else put_behind_step k p.key w
put_by k p point.Element w = put_step k p.key p.offset w

-- the node that was made last
abbrev pub newest : Working → ℕ
newest w = w.next_key - 1

-- a new node at a point, made once the text there is split
unfoldable pub add_step : Point → Kind → Fields → Working → Result Working Cause
add_step p kind fields w =
    after (answer (no_room kind (kind_around w.forest p.key p.kind)) w) (λ v.
    after (opened p v) (λ split.
    after (new_step kind fields split) (put_by split.next_key p p.kind)))
