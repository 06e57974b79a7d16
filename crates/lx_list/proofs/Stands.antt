-- A list that isn't touched is numbered as it was when the draft began.
use Rattle.std.proofs.Common.{◌≡◌, ◌∙◌, ℕ, Bool, true, false, cond, ◌&&◌, List, [], ◌∷◌, Option, None, Some, refl, sym, ap, arith, inl, inr, ◌⊎◌}
use Rattle.std.specs.Prelude.{option_map, is_some}
use Rattle.std.specs.List.{list_any}
use Rattle.std.proofs.lemmas.Bool.{cases_Bool}
use Rattle.std.proofs.lemmas.Bool.Decides.{eqb_tells}
use Rattle.lx_trees.specs.Spots.{Spot, children_at}
use Rattle.lx_trees.specs.Siblings.{is_among, is_named, first_of}
use Rattle.lx_trees.proofs.Siblings.{first_of-among}
use Rattle.lx_node.specs.Kinds.{is_list}
use Rattle.lx_node.specs.declared.kind.Kind.{Kind}
use Rattle.lx_node.specs.declared.fields.Fields.{Fields}
use Rattle.lx_marks.specs.Marks.{flag_in, is_true_flag, is_touched}
use Rattle.lx_forest.specs.Forest.{Label}
use Rattle.lx_forest.specs.Lookups.{has, spot, kind_of, parent_of, children_of, first_child, IsForest}
use Rattle.lx_forest.specs.Records.{record_at}
use Rattle.lx_forest.proofs.Lookups.{has-child}
use Rattle.lx_draft.specs.Working.{Working}
use Rattle.lx_blocks.specs.Blocks.{passes, is_at}
use Rattle.lx_list.specs.Nesting.{if_list, is_nesting}
use Rattle.lx_list.specs.Numbering.{list_start}
use Rattle.lx_list.specs.Numbered.{item_number, IsNumberedList}
use Rattle.lx_list.specs.Began.{BeganNumbered}
use Rattle.lx_list.specs.Touched.{is_of_list, is_touched_list}
use Rattle.lx_list.proofs.Numbered.{parent_there}
use Rattle.lx_list.proofs.Kept.{IsUnchanged, stays_numbered}
use Rattle.lx_list.proofs.Itemless.{spot_known, there_at}

-- ---- the test goes over all that is marked

none_among : (p : ℕ → Bool) (xs : List ℕ) (q : ℕ) → list_any p xs ≡ false → is_among q xs ≡ true → p q ≡ false
none_among p [] q none among = absurd (cc)
none_among p (x ∷ xs) q none among = elim (eqb_tells x q) [
  | inl own ↦ let here : p x ≡ false = grind (arith, none) in sym (ap p own.1) ∙ here
  | inr other ↦ none_among p xs q (grind (arith, none)) (grind (arith, among, other.0))
]

none_flagged : (p : ℕ → Bool) (es : List (ℕ × Bool)) (q : ℕ) → list_any (λ e. e.1 && p e.0) es ≡ false → is_true_flag (flag_in es q) ≡ true → p q ≡ false
none_flagged p [] q none flagged = absurd (cc)
none_flagged p (e ∷ es) q none flagged = elim (eqb_tells q e.0) [
  | inl own ↦ let here : (e.1 && p e.0) ≡ false = grind (arith, none) in let flag : e.1 ≡ true =
      grind (arith, flagged, own.0) in ap p own.1 ∙ grind (arith, here, flag)
  | inr other ↦ none_flagged p es q (grind (arith, none)) (grind (arith, flagged, other.0))
]

-- what is marked itself is of no list that isn't touched
of_no_list : (w : Working) (list q : ℕ) → is_touched_list w.forest w.marks list ≡ false → is_touched w.marks q ≡ true → is_of_list w.forest list q ≡ false
of_no_list w list q none marked =
    elim (cases_Bool (is_among q w.marks.leaves)) [
      | inl leaf ↦ none_among (is_of_list w.forest list) w.marks.leaves q (grind (arith, none)) leaf
      | inr other ↦ none_flagged (is_of_list w.forest list) w.marks.elements q (grind (arith, none)) (grind (arith, marked, other))
    ]

spot_kept : (w : Working) (b : BeganNumbered w) (list q : ℕ) → is_touched_list w.forest w.marks list ≡ false → is_of_list w.forest list q ≡ true
    → spot w.forest q ≡ spot b.before q
spot_kept w b list q none is = by_seen (b.marks.seen q) where
  by_seen : ((spot w.forest q ≡ spot b.before q) × (record_at w.forest q ≡ record_at b.before q)) ⊎ (is_touched w.marks q ≡ true)
      → spot w.forest q ≡ spot b.before q
  by_seen (inl same) = same.0
  by_seen (inr marked) = let clash : is_of_list w.forest list q ≡ false = of_no_list w list q none marked in absurd (cc)

-- ---- it is as it was

abbrev kind_in : Option (Spot Label) → Option Kind
kind_in o = option_map (λ (l : Label). l.kind) (option_map (λ (s : Spot Label). s.label) o)

abbrev pub fields_in : Option (Spot Label) → Option Fields
fields_in o = option_map (λ (l : Label). l.fields) (option_map (λ (s : Spot Label). s.label) o)

list_kept : (w : Working) (b : BeganNumbered w) (list : ℕ) → is_touched_list w.forest w.marks list ≡ false → spot w.forest list ≡ spot b.before list
list_kept w b list none = spot_kept w b list list none (grind (arith, eqb_tells list list))

child_kept : (w : Working) (b : BeganNumbered w) (list q : ℕ) → IsForest w.forest → is_touched_list w.forest w.marks list ≡ false
    → is_among q (children_of b.before list) ≡ true → spot w.forest q ≡ spot b.before q
child_kept w b list q h none among =
    let here : is_among q (children_of w.forest list) ≡ true = ap (λ s. is_among q (children_at s)) (list_kept w b list none) ∙ among in
    let up : parent_of w.forest q ≡ Some list = parent_there w.forest list q h here in
    let below : is_named (parent_of w.forest q) list ≡ true = ap (λ o. is_named o list) up ∙ grind (arith, eqb_tells list list) in
    spot_kept w b list q none (grind (arith, below))

-- the first child of an item is a list just where it was one
pub kind_kept : (w : Working) (b : BeganNumbered w) (k : ℕ) → has k b.before ≡ true → kind_of w.forest k ≡ kind_of b.before k
kind_kept w b k there =
    let known = spot_known b.before k there in
    let was : kind_of b.before k ≡ Some known.0.label.kind = ap kind_in known.1 in
    b.kinds.each k known.0.label.kind was ∙ sym was

first_kept : (w : Working) (b : BeganNumbered w) (o : Option ℕ) → ((k : ℕ) → o ≡ Some k → has k b.before ≡ true) → if_list w.forest o ≡ if_list b.before o
first_kept w b None there = refl
first_kept w b (Some k) there = ap (λ kind. cond (passes is_list kind) (Some k) None) (kind_kept w b k (there k refl))

pub nesting_kept : (w : Working) (b : BeganNumbered w) (q : ℕ) → spot w.forest q ≡ spot b.before q → is_nesting w.forest q ≡ is_nesting b.before q
nesting_kept w b q same =
    ap is_some (ap (λ xs. if_list w.forest (first_of xs)) (ap children_at same)
    ∙ first_kept w b (first_child b.before q)
    (λ k e. has-child b.before k q (parent_there b.before q k b.in_order (first_of-among (children_of b.before q) k e))))

list_unchanged : (w : Working) (b : BeganNumbered w) (list : ℕ) → IsForest w.forest → is_touched_list w.forest w.marks list ≡ false
    → IsUnchanged b.before w.forest list
list_unchanged w b list h none = record {
  start = ap (λ s. list_start (fields_in s)) (list_kept w b list none);
  children = ap children_at (list_kept w b list none);
  numbers = λ q among. ap (λ s. item_number (fields_in s)) (child_kept w b list q h none among);
  nesting = λ q among. nesting_kept w b q (child_kept w b list q h none among);
}

pub still_numbered : (w : Working) → BeganNumbered w → IsForest w.forest → (list : ℕ) → is_at is_list w.forest list ≡ true
    → is_touched_list w.forest w.marks list ≡ false → IsNumberedList w.forest list
still_numbered w b h list is none =
    let was : is_at is_list b.before list ≡ true = sym (ap (λ s. passes is_list (kind_in s)) (list_kept w b list none)) ∙ is in
    stays_numbered b.before w.forest list (list_unchanged w b list h none)
    (b.numbered.each list (b.whole list (there_at is_list b.before list was)) was)
