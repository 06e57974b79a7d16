-- Inserting text, a line break or a tab at the caret.
use Rattle.std.specs.Prelude.{ℕ, ◌+◌, ◌==◌, Bool, false, if◌then◌else◌, List, [], ◌∷◌, Option, None, Some, Result, Ok}
use Rattle.lx_node.specs.declared.kind.Kind.TheVariants.{Text, Tab, Break}
use Rattle.lx_node.specs.declared.fields.Fields.{Fields}
use Rattle.lx_node.specs.declared.fields.Fields.TheVariants as fields
use Rattle.lx_node.specs.declared.fields.TextFields.{TextFields}
use Rattle.lx_node.specs.declared.fields.Mode.TheVariants as mode
use Rattle.lx_node.specs.declared.cause.Cause.{Cause}
use Rattle.lx_node.specs.declared.cause.Point.{Point}
use Rattle.lx_select.specs.Rules.{offset_sum}
use Rattle.lx_forest.specs.Forest.{Forest}
use Rattle.lx_forest.specs.Lookups.{parent_of, index_of}
use Rattle.lx_draft.specs.Working.{Working}
use Rattle.lx_draft.specs.Selecting.{length_told}
use Rattle.lx_draft.specs.Faults.{after}
use Rattle.lx_draft.specs.Steps.{splice_step}
use Rattle.lx_edit.specs.Edits.{text_point, element_point}
use Rattle.lx_edit.specs.Texts.{has_no_text}
use Rattle.lx_blocks.specs.Ranges.{at_anchor, caret_at, normal_at}
use Rattle.lx_caret.specs.Adding.{add_step, newest}
use Rattle.lx_caret.specs.Removing.{remove_text_step}

-- ---- text

-- there is a normal text, and it is of the format
abbrev pub is_of_format : ℕ → Option TextFields → Bool
is_of_format format None = false
is_of_format format (Some text) = text.format == format

-- the style of a normal text, and none of any other node
abbrev pub style_in : Option TextFields → List ℕ
style_in None = []
style_in (Some text) = text.style

-- the fields of a new text, in the style of the text where it is typed
abbrev pub typed_fields : List ℕ → ℕ → List ℕ → Fields
typed_fields text format style =
    fields.Text (record { text = text; format = format; detail = 0; mode = mode.Normal; style = style })

-- text typed into the text itself, where its format is that of the selection
unfoldable pub typed_into : List ℕ → Point → Working → Result Working Cause
typed_into text p w =
    after (splice_step p.key p.offset p.offset text w) (λ v. Ok (caret_at (text_point p.key (offset_sum p.offset (length_told text))) v))

-- text typed into a new text
unfoldable pub typed_new : List ℕ → ℕ → Point → Working → Result Working Cause
typed_new text format p w =
    after (add_step p Text (typed_fields text format (style_in (normal_at w.forest p.key))) w)
    (λ v. Ok (caret_at (text_point (newest v) (length_told text)) v))

-- text typed at a point, into the text there or a new one
unfoldable pub typed : List ℕ → Point → ℕ → Working → Result Working Cause
typed text p format w = if is_of_format format (normal_at w.forest p.key) then typed_into text p w else typed_new text format p w

-- the command that inserts text in the place of what is covered
unfoldable pub insert_text_step : List ℕ → Working → Result Working Cause
insert_text_step text w = after (remove_text_step w) (λ v. if has_no_text text then Ok v else at_anchor (typed text) v)

-- ---- a line break and a tab

-- the place after a node in its parent
abbrev pub behind_at : ℕ → Option ℕ → Option ℕ → Point
behind_at k (Some p) (Some index) = element_point p (index + 1)
behind_at k _ _ = element_point k 0

-- the place after a node of a forest
abbrev pub place_behind : Forest → ℕ → Point
place_behind f k = behind_at k (parent_of f k) (index_of f k)

-- a line break at a point, and the caret after it
unfoldable pub broken : Point → ℕ → Working → Result Working Cause
broken p format w = after (add_step p Break fields.Bare w) (λ v. Ok (caret_at (place_behind v.forest (newest v)) v))

-- the command that inserts a line break
unfoldable pub insert_line_break_step : Working → Result Working Cause
insert_line_break_step w = after (remove_text_step w) (at_anchor broken)

-- the fields of a tab
abbrev pub tab_fields : ℕ → Fields
tab_fields format = fields.Text (record { text = 9 ∷ []; format = format; detail = 2; mode = mode.Normal; style = [] })

-- a tab at a point, and the caret after its character
unfoldable pub tabbed : Point → ℕ → Working → Result Working Cause
tabbed p format w = after (add_step p Tab (tab_fields format) w) (λ v. Ok (caret_at (text_point (newest v) 1) v))

-- the command that inserts a tab
unfoldable pub insert_tab_step : Working → Result Working Cause
insert_tab_step w = after (remove_text_step w) (at_anchor tabbed)
