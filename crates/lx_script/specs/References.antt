-- How lines name nodes, points and selections.
use Rattle.std.specs.Prelude.{◌==◌, ℕ, List, [], ◌∷◌, Bool, false, codes, chars, if◌then◌else◌, Option, None, Some, option_map, option_and_then}
use Rattle.std.specs.Option.{option_or, option_zip}
use Rattle.std.specs.Str.{bytes_eq}
use Rattle.serde_json.specs.Data.{Data, null, array}
use Rattle.serde_json.specs.Events.{items_len}
use Rattle.serde_json.specs.Find.{at, as_str}
use Rattle.lx_node.specs.Limits.{last_u32}
use Rattle.lx_node.specs.declared.cause.PointKind.{PointKind}
use Rattle.lx_step.specs.declared.reference.Reference.{Reference}
use Rattle.lx_step.specs.declared.reference.Reference.TheVariants as reference
use Rattle.lx_step.specs.declared.reference.PointRef.{PointRef}
use Rattle.lx_step.specs.declared.reference.SelectionRef.{SelectionRef}
use Rattle.lx_step.specs.declared.reference.SelectionRef.TheVariants as selection
use Rattle.lx_fields.specs.Values.{whole_of, number_within, named, has_only, required, optional, list_of}
use Rattle.lx_script.specs.Words.{point_kinds}

-- The node that a string names. A string that isn't one of the three that begin with @ is a name, whatever it begins with.
abbrev pub named_node : List ℕ → Reference
named_node text =
    if bytes_eq text (codes "@anchor") then reference.Anchor
    else (if bytes_eq text (codes "@focus") then reference.Focus
    else (if bytes_eq text (codes "@block") then reference.Block
    else reference.Name (chars text)))

-- how a line names a node: by a key, or by a string
abbrev pub reference_of : Data → Option Reference
reference_of d = option_or (option_map (λ key. reference.Key key) (number_within 0 last_u32 d)) (option_map named_node (as_str d))

-- whether a value is a list of three items
abbrev pub has_three : Data → Bool
has_three (array items) = items_len items == 3
has_three d = false

-- a point by its node, its offset and what that counts
abbrev pub point_from : Reference → ℕ → PointKind → PointRef
point_from node offset kind = record { node = node; offset = offset; kind = kind }

-- a point: [REF,offset,"text"] or [REF,offset,"element"]
abbrev pub point_of : Data → Option PointRef
point_of d =
    if has_three d then option_map (λ p. point_from p.0.0 p.0.1 p.1)
    (option_zip (option_zip (option_and_then reference_of (at 0 d)) (option_and_then whole_of (at 1 d))) (option_and_then (named point_kinds) (at 2 d)))
    else None

-- selected nodes: {"keys":[REF..]}
abbrev pub nodes_of : Data → Option SelectionRef
nodes_of d =
    if has_only (codes "keys" ∷ []) d then option_map (λ nodes. selection.Nodes nodes) (required (list_of reference_of) (codes "keys") d)
    else None

-- a range: {"anchor":POINT,"focus":POINT,"format"?:0 to 65535}
abbrev pub range_of : Data → Option SelectionRef
range_of d =
    if has_only (codes "anchor" ∷ codes "focus" ∷ codes "format" ∷ []) d then option_map (λ p. selection.Range p.0.0 p.0.1 p.1)
    (option_zip (option_zip (required point_of (codes "anchor") d) (required point_of (codes "focus") d)) (optional (number_within 0 65535) (codes "format") d))
    else None

-- selected cells: {"anchor":REF,"focus":REF,"table":REF}
abbrev pub cells_of : Data → Option SelectionRef
cells_of d =
    if has_only (codes "anchor" ∷ codes "focus" ∷ codes "table" ∷ []) d then option_map (λ p. selection.Cells p.0.0 p.0.1 p.1)
    (option_zip (option_zip (required reference_of (codes "table") d) (required reference_of (codes "anchor") d)) (required reference_of (codes "focus") d))
    else None

-- a selection: null, or one of nodes, of cells or of a range
unfoldable pub selection_of : Data → Option SelectionRef
selection_of null = Some selection.Nothing
selection_of d = option_or (nodes_of d) (option_or (cells_of d) (range_of d))
