-- Of two lines beside each other, the first is what deleting back from the second meets, and the second what deleting on from the first meets.
use Rattle.lx_blocks.proofs.Until.{last_append, until_front}
use Rattle.lx_blocks.specs.Blocks.{frame_of, is_at, is_rule_or_table, passes, same_node}
use Rattle.lx_blocks.specs.Places.{until}
use Rattle.lx_caret.proofs.Lies.{both}
use Rattle.lx_caret.specs.Deleting.{is_stop, stop_before, stop_behind}
use Rattle.lx_caret_laws.proofs.Covers.{among_at, behind_along, from_tree, in_one, keeps_none, no_repeats_back}
use Rattle.lx_caret_laws.proofs.InPlace.{keys-level}
use Rattle.lx_caret_laws.specs.Joining.{IsLine}
use Rattle.lx_draft.proofs.Gaps.{parent_here}
use Rattle.lx_edit_laws.proofs.Reading.{down, kind_known, spread}
use Rattle.lx_forest.proofs.Lookups.{NoRepeats-children_of, has-child, has-parent_of}
use Rattle.lx_forest.proofs.Tops.{is_within-child}
use Rattle.lx_forest.proofs.Walks.{NoRepeats-preorder_of, ancestors-step, is_attached-up, tree_distinct}
use Rattle.lx_forest.specs.Forest.{Forest}
use Rattle.lx_forest.specs.Lookups.{IsForest, IsHeld, alone, behind, children_of, from, holds, is_attached, is_within, key_of, keys_within, kind_of, parent_of, preorder}
use Rattle.lx_node.specs.Kinds.{is_cell, is_inline, is_link, is_text_block, may_hold}
use Rattle.lx_node.specs.declared.kind.Kind.TheVariants as kinds
use Rattle.lx_node.specs.declared.kind.Kind.{Kind}
use Rattle.lx_trees.proofs.Cuts.{preorder-cut}
use Rattle.lx_trees.proofs.Siblings.{is_among-append, names_without-absent_list}
use Rattle.lx_trees.specs.Siblings.{NoRepeats, is_among, last_of, names_without}
use Rattle.std.proofs.Common.{Bool, List, None, Option, Some, [], ap, append_assoc, ap₂, arith, cond, eqb, false, inl, inr, length, not, refl, subst, sym, true, ℕ, ◌&&◌, ◌++◌, ◌||◌, ◌∙◌, ◌∷◌, ◌≡◌, ◌≢◌}
use Rattle.std.proofs.lemmas.Bool.Decides.{eqb_tells}
use Rattle.std.proofs.lemmas.List.Elements.{filter-append}
use Rattle.std.specs.List.{list_any}
use Rattle.std.specs.Prelude.{filter, find}

-- ---- what is inline is no stop, and has only that below it

held_inline : (outer inner : Kind) → is_inline outer ≡ true → may_hold outer inner ≡ true → is_inline inner ≡ true
unfolding may_hold is_inline
held_inline kinds.Link inner a e = (both (is_inline inner) (not (is_link inner)) e).0
held_inline outer inner a e = absurd (cc)

pub inline_child : (f : Forest) (c b : ℕ) → IsHeld may_hold f → parent_of f c ≡ Some b → is_at is_inline f b ≡ true → is_at is_inline f c ≡ true
inline_child f c b held up inline =
    let outer = kind_known f b (has-parent_of f c b up) in
    let inner = kind_known f c (has-child f c b up) in
    let may : may_hold outer.0 inner.0 ≡ true = sym (ap₂ (holds may_hold) outer.1 inner.1) ∙ held.each c b up in
    ap (passes is_inline) inner.1 ∙ held_inline outer.0 inner.0 (sym (ap (passes is_inline) outer.1) ∙ inline) may

pub inline_below : (f : Forest) (b : ℕ) → IsForest f → IsHeld may_hold f → is_at is_inline f b ≡ true → (q : ℕ) → is_within f b q ≡ true
    → is_at is_inline f q ≡ true
inline_below f b h held = down f h (λ b. is_at is_inline f b ≡ true → (q : ℕ) → is_within f b q ≡ true → is_at is_inline f q ≡ true)
    (λ b each inline q inside. elim (eqb_tells q b) [
      | inl own ↦ ap (is_at is_inline f) own.1 ∙ inline
      | inr other ↦
          let child = is_within-child f b q h inside other.1 in
          each child.child child.up (inline_child f child.child b held child.up inline) q child.inside
    ]) b

pub no_stop_kind : (o : Option Kind) → passes is_inline o ≡ true → (passes is_text_block o ≡ false) × (passes is_rule_or_table o ≡ false)
unfolding is_inline is_text_block
no_stop_kind None e = absurd (cc)
no_stop_kind (Some kinds.Text) e = (refl, refl)
no_stop_kind (Some kinds.Tab) e = (refl, refl)
no_stop_kind (Some kinds.Break) e = (refl, refl)
no_stop_kind (Some kinds.Link) e = (refl, refl)
no_stop_kind (Some kinds.Embed) e = (refl, refl)
no_stop_kind (Some kind) e = absurd (cc)

none_of : (a b c d : Bool) → a ≡ false → c ≡ false → (((a && b) || c) && d) ≡ false
none_of a b c d first second = grind (arith, first, second)

inline_passed : (f : Forest) (frame : Option ℕ) (q : ℕ) → is_at is_inline f q ≡ true → is_stop f frame q ≡ false
inline_passed f frame q e =
    let kind = no_stop_kind (kind_of f q) e in
    none_of (is_at is_text_block f q) (eqb (length (children_of f q)) 0 || list_any (is_at is_inline f) (children_of f q))
    (is_at is_rule_or_table f q) (same_node (frame_of f q) frame) kind.0 kind.1

-- ---- a line is one

same_self : (o : Option ℕ) → same_node o o ≡ true
same_self None = refl
same_self (Some a) = grind (arith, eqb_tells a a)

filled : (f : Forest) (cs : List ℕ) → ((c : ℕ) → is_among c cs ≡ true → is_at is_inline f c ≡ true)
    → (eqb (length cs) 0 || list_any (is_at is_inline f) cs) ≡ true
filled f [] each = refl
filled f (c ∷ cs) each = let first = each c (grind (arith, eqb_tells c c)) in grind (arith, first)

pub line_children : (f : Forest) (k : ℕ) → IsForest f → IsLine f k → (c : ℕ) → is_among c (children_of f k) ≡ true → is_at is_inline f c ≡ true
line_children f k h is c among = is.inline c (parent_here f k c h among)

all_of : (a b c d : Bool) → a ≡ true → b ≡ true → d ≡ true → (((a && b) || c) && d) ≡ true
all_of a b c d first second last = grind (arith, first, second, last)

line_stops : (f : Forest) (frame : Option ℕ) (k : ℕ) → IsForest f → IsLine f k → frame_of f k ≡ frame → is_stop f frame k ≡ true
line_stops f frame k h is same =
    all_of (is_at is_text_block f k) (eqb (length (children_of f k)) 0 || list_any (is_at is_inline f) (children_of f k))
    (is_at is_rule_or_table f k) (same_node (frame_of f k) frame) is.kind (filled f (children_of f k) (line_children f k h is))
    (ap (λ o. same_node o frame) same ∙ same_self frame)

-- below a line nothing is
below_passed : (f : Forest) (frame : Option ℕ) (k : ℕ) → IsForest f → IsHeld may_hold f → IsLine f k → (q : ℕ)
    → is_among q (spread (keys_within f) (children_of f k)) ≡ true → is_stop f frame q ≡ false
below_passed f frame k h held is q among =
    let one = in_one f (children_of f k) q among in
    inline_passed f frame q (inline_below f one.tree h held (line_children f k h is one.tree one.at) q one.inside)

find_past : (test : ℕ → Bool) (xs : List ℕ) (y : ℕ) (ys : List ℕ) → ((q : ℕ) → is_among q xs ≡ true → test q ≡ false) → test y ≡ true
    → find test (xs ++ (y ∷ ys)) ≡ Some y
find_past test [] y ys none e = ap (λ t. cond t (Some y) (find test ys)) e
find_past test (x ∷ xs) y ys none e =
    ap (λ t. cond t (Some x) (find test (xs ++ (y ∷ ys)))) (none x (grind (arith, eqb_tells x x)))
    ∙ find_past test xs y ys (λ q among. none q (grind (arith, among))) e

-- ---- two lines beside each other

-- two lines of an attached node
pub record AreThere (f : Forest) (parent first second : ℕ) (before behind : List ℕ) : Type 0 where
  pub order : IsForest f
  pub held : IsHeld may_hold f
  pub there : is_attached f parent ≡ true
  pub are : children_of f parent ≡ before ++ (first ∷ (second ∷ behind))
  pub one : IsLine f first
  pub two : IsLine f second

module _ (f : Forest) (parent first second : ℕ) (before rest : List ℕ) (l : AreThere f parent first second before rest) where
  h : IsForest f
  h = l.order

  pub up_first : parent_of f first ≡ Some parent
  up_first = parent_here f parent first h (ap (is_among first) l.are ∙ among_at before first (second ∷ rest))

  pub up_second : parent_of f second ≡ Some parent
  up_second = parent_here f parent second h (ap (is_among second) l.are ∙ is_among-append second before (first ∷ (second ∷ rest))
      ∙ grind (arith, eqb_tells second second))

  pub once : NoRepeats (before ++ (first ∷ (second ∷ rest)))
  once = subst NoRepeats l.are (NoRepeats-children_of f parent h)

  pub apart : first ≢ second
  apart e =
      let back = no_repeats_back before (first ∷ (second ∷ rest)) once in
      absurd (grind (arith, e, back.0, eqb_tells second first, eqb_tells second second))

  first_there : is_attached f first ≡ true
  first_there = is_attached-up f first parent h up_first ∙ l.there

  second_there : is_attached f second ≡ true
  second_there = is_attached-up f second parent h up_second ∙ l.there

  same_frame : frame_of f first ≡ frame_of f second
  same_frame = ap (find (is_at is_cell f)) (ancestors-step f first parent h up_first ∙ sym (ancestors-step f second parent h up_second))

  abbrev low_first : List ℕ
  low_first = spread (keys_within f) (children_of f first)

  abbrev low_second : List ℕ
  low_second = spread (keys_within f) (children_of f second)

  abbrev tail : List ℕ
  tail = low_second ++ behind f second

  from_second : from f second ≡ second ∷ tail
  from_second =
      from_tree f second h second_there ∙ ap (λ ks. ks ++ behind f second) (keys-level f second h (has-child f second parent up_second))

  from_first : from f first ≡ (first ∷ low_first) ++ (second ∷ tail)
  from_first =
      from_tree f first h first_there
      ∙ ap₂ (λ ks rest. ks ++ rest) (keys-level f first h (has-child f first parent up_first))
      (behind_along f parent first before [] second rest h l.there l.are ∙ from_second)

  cut : (front : List ℕ) × (preorder f ≡ front ++ from f first)
  cut = preorder-cut key_of (alone 0 f) first (tree_distinct f h) (grind (arith, first_there))

  abbrev front : List ℕ
  front = cut.0

  whole : preorder f ≡ (front ++ (first ∷ low_first)) ++ (second ∷ tail)
  whole = cut.1 ∙ ap (λ ks. front ++ ks) from_first ∙ sym (append_assoc front (first ∷ low_first) (second ∷ tail))

  ahead : until (Some second) (preorder f) ≡ front ++ (first ∷ low_first)
  ahead =
      ap (until (Some second)) whole
      ∙ until_front (front ++ (first ∷ low_first)) (second ∷ tail) (subst NoRepeats whole (NoRepeats-preorder_of f h))

  pub met_back : stop_before f second ≡ Some first
  met_back =
      let stop : ℕ → Bool = is_stop f (frame_of f second) in
      let top : stop first ≡ true = line_stops f (frame_of f second) first h l.one same_frame in
      let none : filter stop low_first ≡ [] =
      keeps_none stop low_first (below_passed f (frame_of f second) first h l.held l.one) in
      let own : filter stop (first ∷ low_first) ≡ first ∷ [] =
      ap (λ t. cond t (first ∷ filter stop low_first) (filter stop low_first)) top ∙ ap (λ ks. first ∷ ks) none in
      ap (λ ks. last_of (filter stop ks)) ahead
      ∙ ap last_of (filter-append stop front (first ∷ low_first) ∙ ap (λ ks. filter stop front ++ ks) own)
      ∙ last_append (filter stop front) (first ∷ []) first refl

  pub met_on : stop_behind f first ≡ Some second
  met_on =
      let stop : ℕ → Bool = is_stop f (frame_of f first) in
      let more : List ℕ = low_first ++ (second ∷ tail) in
      let all : NoRepeats (front ++ (first ∷ more)) =
      subst NoRepeats (cut.1 ∙ ap (λ ks. front ++ ks) from_first) (NoRepeats-preorder_of f h) in
      let absent : is_among first more ≡ false = (no_repeats_back front (first ∷ more) all).0 in
      let own : eqb first first ≡ true = grind (arith, eqb_tells first first) in
      ap (λ ks. find stop (names_without first ks)) from_first
      ∙ ap (λ t. find stop (cond t (names_without first more) (first ∷ names_without first more))) own
      ∙ ap (find stop) (names_without-absent_list first more absent)
      ∙ find_past stop low_first second tail (below_passed f (frame_of f first) first h l.held l.one)
      (line_stops f (frame_of f first) second h l.two (sym same_frame))
