-- What is covered of a document's trees may stand where it is read.
use Rattle.std.proofs.Common.{◌≡◌, ◌∙◌, ℕ, Bool, true, false, cond, ◌&&◌, not, List, [], ◌∷◌, Option, None, Some, refl, ap, sym, subst, arith}
use Rattle.std.specs.Prelude.{find, unwrap_or}
use Rattle.std.proofs.lemmas.Option.{same_Some}
use Rattle.lx_trees.specs.Trees.{nil, tree, joined}
use Rattle.lx_trees.specs.Siblings.{is_among}
use Rattle.lx_node.specs.Kinds.{is_cell, is_inline, is_block, may_hold, type_name}
use Rattle.lx_node.specs.declared.kind.Kind.{Kind}
use Rattle.lx_node.specs.declared.kind.Kind.TheVariants as kinds
use Rattle.lx_node.specs.declared.fields.Fields.{Fields}
use Rattle.lx_node.specs.declared.fields.Fields.TheVariants as fields
use Rattle.lx_node.specs.declared.fields.TextFields.{TextFields}
use Rattle.lx_select.specs.declared.selection.Selection.{Selection}
use Rattle.lx_forest.specs.Forest.{Forest, Label}
use Rattle.lx_forest.specs.Lookups.{kind_of, children_of, trees_of, ancestors}
use Rattle.lx_draft.specs.Faults.{text_in}
use Rattle.lx_draft.specs.Selecting.{length_told}
use Rattle.lx_blocks.specs.declared.ranges.Ranged.{Ranged}
use Rattle.lx_blocks.specs.Blocks.{passes, is_at, frame_of, same_node}
use Rattle.lx_blocks.specs.Ranges.{if_normal, shown_range, is_collapsed, start_of, end_of}
use Rattle.lx_fields.specs.Types.{kind_of_type}
use Rattle.lx_fields.proofs.Exported.{type-there}
use Rattle.lx_json.specs.Exporting.{trees_data}
use Rattle.lx_clip.specs.Covers.{Extent, from_in, to_in, is_covered_text, cut_to, part_cover, is_nil, cover, covers, are_inline}
use Rattle.lx_clip.specs.Slices.{extent, covers_below, common_block, frame_covers, if_inline, covers_in, covers_between, range_covers, covers_if, sliced}
use Rattle.lx_clip.specs.Pasting.{is_inline_type, begins_inline, holder}
use Rattle.lx_json.proofs.BackTrees.{AreHeld}
use Rattle.lx_clip.specs.Copies.{IsCopy}
use Rattle.lx_clip_laws.proofs.Kept.{IsKept, kept_below, none_below}

-- ---- covers

cut_kind : (o : Option TextFields) (from to : ℕ) (l : Label) → (cut_to o from to l).kind ≡ l.kind
cut_kind None from to l = refl
cut_kind (Some text) from to l = refl

held_if : (b : Bool) (parent : Kind) (f : Forest) → AreHeld parent f → AreHeld parent (cond b f nil)
held_if true parent f held = held
held_if false parent f held = tt

held_else : (b : Bool) (parent : Kind) (f : Forest) → AreHeld parent f → AreHeld parent (cond b nil f)
held_else true parent f held = tt
held_else false parent f held = held

held_cover : (e : Extent) (parent : Kind) (x : Fields) (l : Label) (below : Forest) → may_hold parent l.kind ≡ true → AreHeld l.kind below
    → AreHeld parent (cover e x l below)
held_cover e parent (fields.Text text) l below held inner =
    let length : ℕ = length_told text.text in
    let from : ℕ = from_in e l.key in
    let to : ℕ = to_in e l.key length in
    held_if (is_covered_text e l.key length) parent (part_cover from to l)
    (ap (may_hold parent) (cut_kind (if_normal (text_in (Some l))) from to l) ∙ held, tt, tt)
held_cover e parent (fields.Element element) l below held inner =
    held_else (is_nil below && not (is_among l.key e.between)) parent (tree l below nil) (held, inner, tt)
held_cover e parent (fields.Embed source) l below held inner = held_if (is_among l.key e.between) parent (tree l nil nil) (held, tt, tt)
held_cover e parent fields.Bare l below held inner = held_if (is_among l.key e.between) parent (tree l nil nil) (held, tt, tt)

held_joined : (parent : Kind) (a b : Forest) → AreHeld parent a → AreHeld parent b → AreHeld parent (joined a b)
held_joined parent nil b x y = y
held_joined parent (tree l below rest) b x y = (x.0, x.1, held_joined parent rest b x.2 y)

held_covers : (e : Extent) (parent : Kind) (f : Forest) → AreHeld parent f → AreHeld parent (covers e f)
unfolding covers
held_covers e parent nil held = tt
held_covers e parent (tree l below rest) held =
    held_joined parent (cover e l.fields l (covers e below)) (covers e rest)
    (held_cover e parent l.fields l (covers e below) held.0 (held_covers e l.kind below held.1)) (held_covers e parent rest held.2)

-- ---- what holds them where they are read

inline_held : (parent : Kind) (f : Forest) → AreHeld parent f → are_inline f ≡ true → AreHeld kinds.Paragraph f
unfolding may_hold
inline_held parent nil held is = tt
inline_held parent (tree l below rest) held is =
    let first : is_inline l.kind ≡ true = grind (arith, is) in
    let others : are_inline rest ≡ true = grind (arith, is) in
    (first, held.1, inline_held parent rest held.2 others)

block_held : (f : Forest) → AreHeld kinds.Cell f → AreHeld kinds.Root f
unfolding may_hold
block_held nil held = tt
block_held (tree l below rest) held = (held.0, held.1, block_held rest held.2)

typed_inline : (kind : Kind) → passes is_inline (kind_of_type (type_name kind)) ≡ is_inline kind
unfolding type_name is_inline
typed_inline kinds.Root = refl
typed_inline _ = refl

no_inline : (kind : Kind) → is_block kind ≡ true → is_inline kind ≡ false
unfolding is_block is_inline
no_inline kinds.Root e = cc
no_inline _ e = cc

-- they are read as children of a kind that holds them
pub record IsReadable (c : Forest) : Type 0 where
  pub kind : Kind
  pub held : AreHeld kind c
  pub holds : holder (begins_inline (trees_data c)) ≡ kind

begins : (l : Label) (below rest : Forest) → begins_inline (trees_data (tree l below rest)) ≡ is_inline l.kind
unfolding trees_data
begins l below rest = ap is_inline_type (type-there l.kind l.fields (trees_data below)) ∙ typed_inline l.kind

inlines_readable : (c : Forest) → AreHeld kinds.Paragraph c → IsReadable c
unfolding may_hold trees_data
inlines_readable nil held = record { kind = kinds.Root; held = tt; holds = refl }
inlines_readable (tree l below rest) held = record { kind = kinds.Paragraph; held = held; holds = ap holder (begins l below rest ∙ held.0) }

blocks_readable : (c : Forest) → AreHeld kinds.Root c → IsReadable c
unfolding may_hold trees_data
blocks_readable nil held = record { kind = kinds.Root; held = tt; holds = refl }
blocks_readable (tree l below rest) held = record { kind = kinds.Root; held = held; holds = ap holder (begins l below rest ∙ no_inline l.kind held.0) }

-- ---- a slice

found : (test : ℕ → Bool) (ks : List ℕ) (k : ℕ) → find test ks ≡ Some k → test k ≡ true
found test [] k e = absurd (cc)
found test (x ∷ xs) k e = grind (arith, e, found test xs k)

cell_kind : (o : Option Kind) → passes is_cell o ≡ true → o ≡ Some kinds.Cell
unfolding is_cell
cell_kind (Some kinds.Cell) e = refl
cell_kind _ e = absurd (cc)

-- the covers of children of a node of this kind
below_held : (e : Extent) (f : Forest) (p : ℕ) (kind : Kind) → IsKept f → kind_of f p ≡ Some kind → AreHeld kind (covers_below e f p)
below_held e f p kind kept is = held_covers e kind (trees_of f (children_of f p)) (kept_below f p kind kept is)

frame_readable : (e : Extent) (f : Forest) → IsKept f → IsReadable (frame_covers e f)
frame_readable e f kept = by_frame (frame_of f e.start.key) refl where
  by_frame : (o : Option ℕ) → frame_of f e.start.key ≡ o → IsReadable (covers_below e f (unwrap_or o 0))
  by_frame None at = blocks_readable (covers_below e f 0) (below_held e f 0 kinds.Root kept kept.order.root)
  by_frame (Some cell) at =
      blocks_readable (covers_below e f cell) (block_held (covers_below e f cell)
      (below_held e f cell kinds.Cell kept (cell_kind (kind_of f cell) (found (is_at is_cell f) (ancestors f e.start.key) cell at))))

inner_readable : (e : Extent) (f : Forest) (block : ℕ) → IsKept f → are_inline (covers_below e f block) ≡ true → IsReadable (covers_below e f block)
unfolding covers trees_data
inner_readable e f block kept inline = by_kind (kind_of f block) refl where
  by_kind : (o : Option Kind) → kind_of f block ≡ o → IsReadable (covers_below e f block)
  by_kind (Some kind) is = inlines_readable (covers_below e f block) (inline_held kind (covers_below e f block) (below_held e f block kind kept is) inline)
  by_kind None is = subst (λ t. IsReadable (covers e t)) (sym (none_below f block is)) (record { kind = kinds.Root; held = tt; holds = refl })

either_readable : (e : Extent) (f : Forest) (block : ℕ) → IsKept f → IsReadable (if_inline (covers_below e f block) (frame_covers e f))
either_readable e f block kept = by_test (are_inline (covers_below e f block)) refl where
  by_test : (b : Bool) → are_inline (covers_below e f block) ≡ b → IsReadable (cond b (covers_below e f block) (frame_covers e f))
  by_test true is = inner_readable e f block kept is
  by_test false is = frame_readable e f kept

covers_readable : (o : Option ℕ) (e : Extent) (f : Forest) → IsKept f → IsReadable (covers_in o e f)
covers_readable None e f kept = frame_readable e f kept
covers_readable (Some block) e f kept = either_readable e f block kept

range_readable : (f : Forest) (r : Ranged) (c : Forest) → IsKept f → range_covers f r ≡ Some c → IsReadable c
range_readable f r c kept e = by_tests (is_collapsed r) (same_node (frame_of f r.anchor.key) (frame_of f r.focus.key)) e where
  by_tests : (a b : Bool) → cond a None (cond b (Some (covers_between f (start_of f r) (end_of f r))) None) ≡ Some c → IsReadable c
  by_tests false true e =
      let start = start_of f r in
      let end = end_of f r in
      subst IsReadable (same_Some (covers_between f start end) c e) (covers_readable (common_block f start end) (extent f start end) f kept)
  by_tests _ _ e = absurd (cc)

slice_readable : (f : Forest) (s : Selection) (c : Forest) → IsKept f → sliced f s ≡ Some c → IsReadable c
unfolding sliced
slice_readable f s c kept e = by_range (shown_range s) e where
  by_range : (o : Option Ranged) → covers_if f o ≡ Some c → IsReadable c
  by_range None e = absurd (cc)
  by_range (Some r) e = range_readable f r c kept e

pub copy_readable : (c : Forest) → IsCopy c → IsReadable c
copy_readable c copy = slice_readable copy.tree copy.selection c (record { order = copy.order; held = copy.held }) copy.covered
