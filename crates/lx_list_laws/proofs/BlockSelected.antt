-- A range with both points in one line of inline nodes selects that line alone.
use Rattle.std.proofs.Common.{◌≡◌, ◌≢◌, ◌∙◌, ℕ, Bool, true, false, cond, eqb, ◌&&◌, ◌||◌, List, [], ◌∷◌, ◌++◌, length, Option, None, Some, Result, Ok, Err, refl, sym, ap, ap₂, subst, arith, inl, inr}
use Rattle.std.specs.Prelude.{find, filter, drop}
use Rattle.std.specs.List.{list_any, list_all}
use Rattle.std.proofs.lemmas.Bool.Decides.{eqb_tells}
use Rattle.lx_trees.specs.Siblings.{is_among, first_of, NoRepeats}
use Rattle.lx_node.specs.Kinds.{may_hold, is_inline, is_text_block, is_cell}
use Rattle.lx_node.specs.declared.kind.Kind.{Kind}
use Rattle.lx_node.specs.declared.kind.Kind.TheVariants as kinds
use Rattle.lx_node.specs.declared.cause.Cause.{Cause}
use Rattle.lx_node.specs.declared.cause.Cause.TheVariants.{NoSelection}
use Rattle.lx_node.specs.declared.cause.SelectionKind.TheVariants as selected
use Rattle.lx_node.specs.declared.cause.Point.{Point}
use Rattle.lx_select.specs.declared.selection.Selection.{Selection}
use Rattle.lx_select.specs.declared.selection.Selection.TheVariants.{Range}
use Rattle.lx_forest.specs.Forest.{Forest}
use Rattle.lx_forest.specs.Lookups.{parent_of, children_of, ancestors, is_within, is_attached, from, IsForest, IsHeld}
use Rattle.lx_forest.proofs.Walks.{NoRepeats-preorder_of, ancestors-step}
use Rattle.lx_draft.specs.Working.{Working}
use Rattle.lx_draft.specs.Faults.{after}
use Rattle.lx_draft.proofs.Gaps.{child_of}
use Rattle.lx_edit.specs.InTurn.{in_turn}
use Rattle.lx_edit.proofs.Climbed.{first_part}
use Rattle.lx_edit_laws.proofs.WrapSteps.{was_same}
use Rattle.lx_blocks.specs.declared.ranges.Ranged.{Ranged}
use Rattle.lx_blocks.specs.Blocks.{is_at, is_line, block_of, frame_of, same_node}
use Rattle.lx_blocks.specs.Lines.{from_block, behind_block, up_to, is_line_beside, lines_between, selected_lines}
use Rattle.lx_blocks.specs.Places.{comes_first}
use Rattle.lx_blocks.specs.Walks.{nodes_before}
use Rattle.lx_blocks.specs.Ranges.{is_fit, range_in, range_of}
use Rattle.lx_blocks.proofs.Stretches.{before_and_from, first_from}
use Rattle.lx_caret.specs.Lying.{EachPoint}
use Rattle.lx_list.specs.Lines.{step_if_there, each_line}
use Rattle.lx_list_laws.proofs.ReadEdits.{so_at}
use Rattle.lx_list_laws.proofs.ReadLines.{inline_no_block}
use Rattle.lx_list_laws.proofs.ReadSaid.{inline_below}
use Rattle.lx_list_laws.proofs.StayKeys.{EachKey}
use Rattle.lx_list_laws.proofs.StayUnder.{rise}

-- a text block of the root's tree, in which all is inline
pub record IsInlineBlock (f : Forest) (b : ℕ) : Type 0 where
  pub order : IsForest f
  pub held : IsHeld may_hold f
  pub there : is_attached f b ≡ true
  pub block : is_at is_text_block f b ≡ true
  pub inline : list_all (is_at is_inline f) (children_of f b) ≡ true

pub all-one : (test : ℕ → Bool) (xs : List ℕ) (q : ℕ) → list_all test xs ≡ true → is_among q xs ≡ true → test q ≡ true
all-one test [] q all among = absurd (cc)
all-one test (x ∷ xs) q all among = elim (eqb_tells x q) [
  | inl here ↦ ap test (sym here.1) ∙ grind (arith, all)
  | inr other ↦ all-one test xs q (grind (arith, all)) (grind (arith, among, other.0))
]

no_cell : (kind : Kind) → is_inline kind ≡ true → is_cell kind ≡ false
unfolding is_inline is_cell
no_cell kinds.Cell e = absurd (cc)
no_cell kind e = refl

block_no_cell : (kind : Kind) → is_text_block kind ≡ true → is_cell kind ≡ false
unfolding is_text_block is_cell
block_no_cell kinds.Cell e = absurd (cc)
block_no_cell kind e = refl

-- what is in the block: its block and its frame are those of the block
record IsIn (f : Forest) (b q : ℕ) : Type 0 where
  kind : q ≢ b → is_at is_inline f q ≡ true
  cell : is_at is_cell f q ≡ false
  block : find (is_at is_text_block f) (q ∷ ancestors f q) ≡ Some b
  frame : find (is_at is_cell f) (ancestors f q) ≡ find (is_at is_cell f) (ancestors f b)

module _ (f : Forest) (b : ℕ) (s : IsInlineBlock f b) where
  own_in : IsIn f b b
  own_in = record {
    kind = λ other. absurd (other refl);
    cell = so_at is_text_block is_cell false block_no_cell f b s.block;
    block = grind (arith, s.block);
    frame = refl;
  }

  child_in : (q c : ℕ) → parent_of f q ≡ Some c → is_within f b c ≡ true → IsIn f b c → IsIn f b q
  child_in q c up inside i =
      let inline : is_at is_inline f q ≡ true = elim (eqb_tells c b) [
        | inl same ↦ all-one (is_at is_inline f) (children_of f b) q s.inline (ap (λ n. is_among q (children_of f n)) (sym same.1) ∙ child_of f c q s.order up)
        | inr other ↦ inline_below f q c s.held up (i.kind other.1)
      ] in
      let step : ancestors f q ≡ c ∷ ancestors f c = ancestors-step f q c s.order up in
      record {
        kind = λ other. inline;
        cell = so_at is_inline is_cell false no_cell f q inline;
        block = grind (arith, so_at is_inline is_text_block false inline_no_block f q inline) ∙ ap (find (is_at is_text_block f)) step ∙ i.block;
        frame = ap (find (is_at is_cell f)) step ∙ grind (arith, i.cell) ∙ i.frame;
      }

  inside : (q : ℕ) → is_within f b q ≡ true → IsIn f b q
  inside q within = rise f b s.order (IsIn f b) own_in child_in (ancestors f q) q refl within

  -- a node in the block other than it is inline
  pub inline_in : (q : ℕ) → is_within f b q ≡ true → q ≢ b → is_at is_inline f q ≡ true
  inline_in q within other = (inside q within).kind other

  pub line : is_line f b ≡ true
  line = some (children_of f b) s.inline where
    some : (xs : List ℕ) → list_all (is_at is_inline f) xs ≡ true → (is_at is_text_block f b && (eqb (length xs) 0 || list_any (is_at is_inline f) xs)) ≡ true
    some [] all = grind (arith, s.block)
    some (x ∷ xs) all = grind (arith, s.block, all)

  -- ---- from the block to the block there is the block

  once : NoRepeats (from f b)
  once = back (nodes_before f b) (from f b) (subst NoRepeats (before_and_from f b s.order s.there) (NoRepeats-preorder_of f s.order)) where
    back : (xs ys : List ℕ) → NoRepeats (xs ++ ys) → NoRepeats ys
    back [] ys u = u
    back (x ∷ xs) ys u = back xs ys u.1

  up_to_next : (xs : List ℕ) → first_of xs ≡ Some b → NoRepeats xs → up_to (first_of (drop 1 xs)) xs ≡ b ∷ []
  up_to_next [] first u = absurd (cc)
  up_to_next (x ∷ []) first u = cc
  up_to_next (x ∷ y ∷ ys) first u =
      let same : x ≡ b = cc in
      let other : eqb x y ≡ false = grind (arith, u.0, eqb_tells y x, eqb_tells x y) in
      grind (arith, other, same, eqb_tells y y, eqb_tells x y, eqb_tells y x)

  same_frame : (o : Option ℕ) → same_node o o ≡ true
  same_frame None = refl
  same_frame (Some k) = grind (arith, eqb_tells k k)

  between : (start end : Point) → is_within f b start.key ≡ true → is_within f b end.key ≡ true → lines_between f start end ≡ b ∷ []
  between start end first last =
      let i = inside start.key first in
      let j = inside end.key last in
      let keys : up_to (behind_block f end (block_of f end.key)) (from_block f start (block_of f start.key)) ≡ b ∷ [] =
      ap₂ (λ x y. up_to (behind_block f end x) (from_block f start y)) j.block i.block ∙ up_to_next (from f b) (first_from f b s.there) once in
      let beside : is_line_beside f start.key b ≡ true =
      ap₂ ◌&&◌ line (ap (same_node (frame_of f b)) i.frame ∙ same_frame (frame_of f b)) in
      ap (filter (is_line_beside f start.key)) keys ∙ grind (arith, beside)

  pub one_selected : (r : Ranged) → is_within f b r.anchor.key ≡ true → is_within f b r.focus.key ≡ true → selected_lines f r ≡ b ∷ []
  unfolding selected_lines
  one_selected r first last = by_test (comes_first f r.anchor r.focus) where
    by_test : (t : Bool) → lines_between f (cond t r.anchor r.focus) (cond t r.focus r.anchor) ≡ b ∷ []
    by_test true = between r.anchor r.focus first last
    by_test false = between r.focus r.anchor last first

-- ---- so a command goes by it alone

range_tells : (P : ℕ → Type 0) (f : Forest) (s : Selection) (r : Ranged) → range_in f s ≡ Ok r → EachPoint (λ x. P x.key) s → P r.anchor.key × P r.focus.key
range_tells P f (Range a b format) r e each = by_test (is_fit f a b) e where
  by_test : (t : Bool) → cond t (Ok (record { anchor = a; focus = b; format = format })) (Err (NoSelection selected.Range)) ≡ Ok r
      → P r.anchor.key × P r.focus.key
  by_test false e = absurd (cc)
  by_test true e =
      let is : ◌≡◌ {A = Ranged} (record { anchor = a; focus = b; format = format }) r = cc in
      (subst (λ x. P x.anchor.key) is each.0, subst (λ x. P x.focus.key) is each.1)
range_tells P f other r e each = absurd (cc)

pub ends_in : (P : ℕ → Type 0) (w : Working) (r : Ranged) → range_of w ≡ Ok r → EachKey P w → P r.anchor.key × P r.focus.key
unfolding range_of
ends_in P w r e keys = range_tells P w.forest w.selection r e keys

pub step_alone : (step : ℕ → Working → Result Working Cause) (b : ℕ) (w v : Working) → IsInlineBlock w.forest b
    → EachKey (λ q. is_within w.forest b q ≡ true) w
    → each_line step w ≡ Ok v → step b w ≡ Ok v
unfolding each_line range_of in_turn
step_alone step b w v s keys e = by_range (range_in w.forest w.selection) refl e where
  by_range : (o : Result Ranged Cause) → range_in w.forest w.selection ≡ o
      → after o (λ range. in_turn (step_if_there step) (selected_lines w.forest range) w) ≡ Ok v → step b w ≡ Ok v
  by_range (Err cause) is e = absurd (cc)
  by_range (Ok r) is e =
      let ends = range_tells (λ q. is_within w.forest b q ≡ true) w.forest w.selection r is keys in
      let one : in_turn (step_if_there step) (b ∷ []) w ≡ Ok v =
      sym (ap (λ ks. in_turn (step_if_there step) ks w) (one_selected w.forest b s r ends.0 ends.1)) ∙ e in
      let a = first_part (step_if_there step b w) (in_turn (step_if_there step) []) v one in
      let there : step_if_there step b w ≡ Ok v = a.1 ∙ ap Ok (was_same a.0 v a.2) in rw s.there at there
