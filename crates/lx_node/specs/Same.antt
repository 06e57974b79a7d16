-- Equality of fields, part by part.
use Rattle.std.specs.Prelude.{ℕ, List, [], ◌∷◌, Bool, true, false, ◌==◌, ◌&&◌}
use Rattle.std.specs.Bool.{beq}
use Rattle.std.specs.Option.{option_eq}
use Rattle.lx_node.specs.declared.fields.Mode.{Mode}
use Rattle.lx_node.specs.declared.fields.Mode.TheVariants.{Normal, Token, Segmented}
use Rattle.lx_node.specs.declared.fields.Direction.{Direction}
use Rattle.lx_node.specs.declared.fields.Direction.TheVariants as direction
use Rattle.lx_node.specs.declared.fields.Align.{Align}
use Rattle.lx_node.specs.declared.fields.Align.TheVariants as align
use Rattle.lx_node.specs.declared.fields.TextFields.{TextFields}
use Rattle.lx_node.specs.declared.fields.ElementFields.{ElementFields}
use Rattle.lx_node.specs.declared.fields.Extra.{Extra}
use Rattle.lx_node.specs.declared.fields.Extra.TheVariants as extra
use Rattle.lx_node.specs.declared.fields.Fields.{Fields}
use Rattle.lx_node.specs.declared.fields.Fields.TheVariants as fields

-- ---- parts

-- whether two texts have the same characters
unfoldable pub same_text : List ℕ → List ℕ → Bool
same_text [] [] = true
same_text (x ∷ xs) (y ∷ ys) = (x == y) && same_text xs ys
same_text _ _ = false

-- whether two modes are equal
unfoldable pub same_mode : Mode → Mode → Bool
same_mode Normal Normal = true
same_mode Token Token = true
same_mode Segmented Segmented = true
same_mode _ _ = false

-- whether two directions are equal
unfoldable pub same_direction : Direction → Direction → Bool
same_direction direction.Unset direction.Unset = true
same_direction direction.Ltr direction.Ltr = true
same_direction direction.Rtl direction.Rtl = true
same_direction _ _ = false

-- whether two alignments are equal
unfoldable pub same_align : Align → Align → Bool
same_align align.Unset align.Unset = true
same_align align.Left align.Left = true
same_align align.Center align.Center = true
same_align align.Right align.Right = true
same_align align.Justify align.Justify = true
same_align align.Start align.Start = true
same_align align.End align.End = true
same_align _ _ = false

-- ---- what a text has, and an element

-- whether two texts have the same parts
unfoldable pub same_text_fields : TextFields → TextFields → Bool
same_text_fields a b =
    same_text a.text b.text && ((a.format == b.format) && ((a.detail == b.detail) && (same_mode a.mode b.mode && same_text a.style b.style)))

-- whether two elements have the same of their own kinds
unfoldable pub same_extra : Extra → Extra → Bool
same_extra extra.Plain extra.Plain = true
same_extra (extra.List start) (extra.List other_start) = start == other_start
same_extra (extra.Item value checked) (extra.Item other_value other_checked) =
    (value == other_value) && option_eq beq checked other_checked
same_extra (extra.Link rel target title url) (extra.Link other_rel other_target other_title other_url) =
    option_eq same_text rel other_rel
    && (option_eq same_text target other_target && (option_eq same_text title other_title && same_text url other_url))
same_extra (extra.Cell header row_span col_span background) (extra.Cell other_header other_row_span other_col_span other_background) =
    (header == other_header)
    && ((row_span == other_row_span) && ((col_span == other_col_span) && option_eq same_text background other_background))
same_extra _ _ = false

-- whether two elements have the same parts
unfoldable pub same_element : ElementFields → ElementFields → Bool
same_element a b =
    same_direction a.direction b.direction
    && (same_align a.format b.format
    && ((a.indent == b.indent) && ((a.text_format == b.text_format) && (same_text a.text_style b.text_style && same_extra a.extra b.extra))))

-- ---- fields of one variant that have the same parts

-- whether fields are equal: of one variant, with the same parts
unfoldable pub same_fields : Fields → Fields → Bool
same_fields (fields.Element a) (fields.Element b) = same_element a b
same_fields (fields.Text a) (fields.Text b) = same_text_fields a b
same_fields (fields.Embed a) (fields.Embed b) = same_text a b
same_fields fields.Bare fields.Bare = true
same_fields _ _ = false
