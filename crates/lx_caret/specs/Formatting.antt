-- Formatting the covered texts of a range.
use Rattle.std.specs.Prelude.{ℕ, ◌-◌, ◌==◌, ◌&&◌, Bool, true, false, not, nat_lt, is_some, if◌then◌else◌, List, [], ◌∷◌, ◌++◌, map, filter, bit_and, bit_or, Option, Some, Result, Ok}
use Rattle.lx_node.specs.Kinds.{has_characters}
use Rattle.lx_node.specs.declared.fields.Fields.{Fields}
use Rattle.lx_node.specs.declared.fields.Fields.TheVariants as fields
use Rattle.lx_node.specs.declared.cause.Cause.{Cause}
use Rattle.lx_node.specs.declared.cause.Point.{Point}
use Rattle.lx_node.specs.declared.cause.PointKind.{PointKind}
use Rattle.lx_node.specs.declared.cause.PointKind.TheVariants as point
use Rattle.lx_forest.specs.Forest.{Forest}
use Rattle.lx_forest.specs.Lookups.{fields_of}
use Rattle.lx_draft.specs.Working.{Working}
use Rattle.lx_draft.specs.Faults.{after}
use Rattle.lx_draft.specs.Steps.{set_step}
use Rattle.lx_edit.specs.Texts.{split_step}
use Rattle.lx_edit.specs.InTurn.{in_turn}
use Rattle.lx_blocks.specs.Blocks.{is_at}
use Rattle.lx_blocks.specs.Places.{covered}
use Rattle.lx_select.specs.Selection.{with_format}
use Rattle.lx_blocks.specs.Ranges.{range_of, start_of, end_of, normal_at, characters_at}
pub use Rattle.lx_caret.specs.declared.pieces.Piece.{Piece}
use Rattle.lx_caret.specs.Removing.{start_part}

-- ---- bits

-- a format has the bit
abbrev pub has_bit : ℕ → ℕ → Bool
has_bit bit format = not (bit_and format bit == 0)

-- a format without the bit
abbrev pub without_bit : ℕ → ℕ → ℕ
without_bit bit format = format - bit_and format bit

-- the bit that this one excludes: subscript and superscript exclude each other
abbrev pub excluded : ℕ → ℕ
excluded bit = if bit == 32 then 64 else if bit == 64 then 32 else 0

-- a format with the bit set, and without the one that it excludes, or with the bit cleared
abbrev pub switched : Bool → ℕ → ℕ → ℕ
switched true bit format = bit_or (without_bit (excluded bit) format) bit
switched false bit format = without_bit bit format

-- ---- covered texts

-- the part of a text or tab between two offsets
abbrev pub piece : ℕ → ℕ → ℕ → Piece
piece k from to = record { key = k; from = from; to = to }

-- what is covered of the text or tab that has the first point
abbrev pub start_piece : Forest → Point → Point → PointKind → List Piece
start_piece f start end point.Text = piece start.key start.offset (start_part f start end) ∷ []
start_piece f start end point.Element = []

-- what is covered of the one that has the second point, if it is another
abbrev pub end_piece : Point → Point → PointKind → List Piece
end_piece start end point.Text = if start.key == end.key then [] else piece end.key 0 end.offset ∷ []
end_piece start end point.Element = []

-- all of a text or tab
abbrev pub whole : Forest → ℕ → Piece
whole f k = piece k 0 (characters_at f k)

-- the covered parts of a range in order, those in which a character is covered
abbrev pub pieces : Forest → Point → Point → List Piece
pieces f start end =
    filter (λ p. nat_lt p.from p.to)
    (start_piece f start end start.kind ++ (map (whole f) (filter (is_at has_characters f) (covered f start end)) ++ end_piece start end end.kind))

-- ---- a piece by itself

-- the offsets strictly inside a text at which the piece begins and ends
abbrev pub edges : Forest → Piece → List ℕ
edges f p = filter (λ o. nat_lt 0 o && nat_lt o (characters_at f p.key)) (p.from ∷ p.to ∷ [])

-- a normal text is split where the piece begins and ends
unfoldable pub isolate_step : Piece → Working → Result Working Cause
isolate_step p w = if is_some (normal_at w.forest p.key) then split_step p.key (edges w.forest p) w else Ok w

-- the text that has the piece then
abbrev pub isolated_key : Piece → Working → ℕ
isolated_key p w = if is_some (normal_at w.forest p.key) && nat_lt 0 p.from then w.next_key else p.key

-- a draft in which covered pieces are texts by themselves, and these texts
pub record Isolated : Type 0 where
  pub draft : Working
  pub texts : List ℕ

-- one more text in front of those that are covered
abbrev pub and_before : ℕ → Isolated → Result Isolated Cause
and_before k made = Ok (record { draft = made.draft; texts = k ∷ made.texts })

-- each covered piece made a text by itself
unfoldable pub isolated : List Piece → Working → Result Isolated Cause
isolated [] w = Ok (record { draft = w; texts = [] })
isolated (p ∷ ps) w = after (isolate_step p w) (λ v. after (isolated ps v) (and_before (isolated_key p w)))

-- ---- the command

-- the format in fields: 0 where they are no text's or tab's
abbrev pub format_in : Option Fields → ℕ
format_in (Some (fields.Text text)) = text.format
format_in other = 0

-- the format of a node: 0 where it is no text or tab
abbrev pub format_at : Forest → ℕ → ℕ
format_at f k = format_in (fields_of f k)

-- a bit set or cleared in a node with these fields
abbrev pub switched_in : Bool → ℕ → Option Fields → ℕ → Working → Result Working Cause
switched_in on bit (Some (fields.Text text)) k w = set_step k (fields.Text (record text { format = switched on bit text.format })) w
switched_in on bit other k w = Ok w

-- a bit set or cleared in a node
unfoldable pub switch_step : Bool → ℕ → ℕ → Working → Result Working Cause
switch_step on bit k w = switched_in on bit (fields_of w.forest k) k w

-- a draft whose range has another format
abbrev pub selection_format : ℕ → Working → Working
selection_format format w = record w { selection = with_format format w.selection }

-- a bit cleared in all texts where the first has it, else set in all; the selection gets the format that the first has
-- then
abbrev pub switched_all : ℕ → List ℕ → Working → Result Working Cause
switched_all bit [] w = Ok w
switched_all bit (k ∷ ks) w =
    after (in_turn (switch_step (not (has_bit bit (format_at w.forest k))) bit) (k ∷ ks) w)
    (λ v. Ok (selection_format (format_at v.forest k) v))

-- the covered parts formatted, or the selection's format alone where there are none
abbrev pub formatted : ℕ → List Piece → ℕ → Working → Result Working Cause
formatted bit [] format w = Ok (selection_format (switched (not (has_bit bit format)) bit format) w)
formatted bit ps format w = after (isolated ps w) (λ made. switched_all bit made.texts made.draft)

-- the command that formats what is covered
unfoldable pub format_text_step : ℕ → Working → Result Working Cause
format_text_step bit w =
    after (range_of w) (λ r. formatted bit (pieces w.forest (start_of w.forest r) (end_of w.forest r)) r.format w)
