-- What is read below a list is what its lines say, one after another, where inline children come first in each item.
use Rattle.std.proofs.Common.{◌≡◌, ◌∙◌, ℕ, ◌⊎◌, Bool, true, false, cond, eqb, ◌&&◌, ◌||◌, List, [], ◌∷◌, ◌++◌, Some, refl, sym, ap, ap₂, arith, inl, inr, append_assoc}
use Rattle.std.specs.List.{filter, list_any}
use Rattle.std.proofs.lemmas.Bool.{cases_Bool}
use Rattle.std.proofs.lemmas.Bool.Decides.{eqb_tells}
use Rattle.lx_trees.specs.Siblings.{is_among}
use Rattle.lx_node.specs.Kinds.{may_hold, is_inline, is_item, is_list, is_text, is_text_block}
use Rattle.lx_node.specs.declared.kind.Kind.{Kind}
use Rattle.lx_node.specs.declared.kind.Kind.TheVariants as kinds
use Rattle.lx_forest.specs.Forest.{Forest}
use Rattle.lx_forest.specs.Lookups.{parent_of, children_of, size_of, IsForest, IsHeld}
use Rattle.lx_draft.proofs.Gaps.{parent_here}
use Rattle.lx_blocks.specs.Blocks.{passes, is_at, is_line}
use Rattle.lx_edit_laws.specs.Reading.{text_at, read_below}
use Rattle.lx_edit_laws.proofs.Reading.{kind_known, down, spread, spread-same, spread-none, below, below-level, reads_of, read-level}
use Rattle.lx_edit_laws.proofs.WrapLists.{filter-gone}
use Rattle.lx_edit_laws.proofs.WrapSteps.{silent}
use Rattle.lx_list_laws.specs.Reading.{stand_first, InlinesFirst}
use Rattle.lx_list.proofs.Itemless.{item_below, there_at}
use Rattle.lx_list_laws.proofs.ReadEdits.{so_at}
use Rattle.lx_list_laws.proofs.ReadSaid.{inlines, said, both_kinds, inline_below}

-- ---- what lines give

-- what a line says
abbrev pub says : Forest → ℕ → List ℕ
says f k = cond (is_line f k) (reads_of f (inlines f k)) []

pub said-lines : (f : Forest) (ks : List ℕ) → said f (filter (is_line f) ks) ≡ spread (says f) ks
said-lines f [] = refl
said-lines f (k ∷ ks) = elim (cases_Bool (is_line f k)) [
  | inl is ↦ rw is (ap (λ t. reads_of f (inlines f k) ++ t) (said-lines f ks))
  | inr is ↦ rw is (said-lines f ks)
]

no_line : (f : Forest) (k : ℕ) → is_at is_text_block f k ≡ false → is_line f k ≡ false
no_line f k none = ap (λ b. b && (eqb (size_of f k) 0 || list_any (is_at is_inline f) (children_of f k))) none

-- no inline node is a line, nor is what is in it
pub inline_no_block : (kind : Kind) → is_inline kind ≡ true → is_text_block kind ≡ false
unfolding is_inline is_text_block
inline_no_block kinds.Text e = refl
inline_no_block kind e = cc

inline_says_nothing : (f : Forest) → IsForest f → IsHeld may_hold f → (k : ℕ) → is_at is_inline f k ≡ true → below (says f) f k ≡ []
inline_says_nothing f h held k is = down f h (λ q. is_at is_inline f q ≡ true → below (says f) f q ≡ []) (λ b each here.
    below-level (says f) f b h (λ free. absurd (grind (arith, free, there_at is_inline f b here)))
    ∙ ap₂ (λ x y. x ++ y) (ap (λ t. cond t (reads_of f (inlines f b)) []) (no_line f b (so_at is_inline is_text_block false inline_no_block f b here)))
    (spread-none (below (says f) f) (children_of f b) (λ c among. let up = parent_here f b c h among in each c up (inline_below f c b held up here)))) k is

-- ---- lists and items

abbrev pub is_listed : Kind → Bool
is_listed kind = is_list kind || is_item kind

pub listed_holds : (outer inner : Kind) → may_hold outer inner ≡ true → is_listed outer ≡ true → is_inline inner ≡ false → is_listed inner ≡ true
unfolding may_hold is_list is_item
listed_holds (kinds.List type) inner h is other = grind (arith, h)
listed_holds kinds.Item inner h is other = grind (arith, h, other)
listed_holds outer inner h is other = absurd (cc)

listed_no_text : (kind : Kind) → is_listed kind ≡ true → is_text kind ≡ false
unfolding is_list is_item is_text
listed_no_text kinds.Text e = absurd (cc)
listed_no_text kind e = refl

pub listed_below : (f : Forest) (q p : ℕ) → IsHeld may_hold f → parent_of f q ≡ Some p → is_at is_listed f p ≡ true → is_at is_inline f q ≡ false
    → is_at is_listed f q ≡ true
listed_below f q p held up is other =
    let k = both_kinds (λ outer inner. is_listed outer ≡ true → is_inline inner ≡ false → is_listed inner ≡ true) f q p held up
    (λ outer inner a b h x y. listed_holds outer inner h x y) in
    ap (passes is_listed) k.3 ∙ k.4 (sym (ap (passes is_listed) k.2) ∙ is) (sym (ap (passes is_inline) k.3) ∙ other)

pub listed_silent : (f : Forest) (k : ℕ) → is_at is_listed f k ≡ true → text_at f k ≡ []
listed_silent f k is = silent f k (λ kind at. listed_no_text kind (sym (ap (passes is_listed) at) ∙ is))

-- an item is a text block, and a list isn't; neither is inline
item_tells : (kind : Kind) → is_item kind ≡ true → (is_text_block kind ≡ true) × (is_inline kind ≡ false)
unfolding is_item is_text_block is_inline
item_tells kinds.Item e = (refl, refl)
item_tells kind e = absurd (cc)

pub list_tells : (kind : Kind) → is_list kind ≡ true → (is_text_block kind ≡ false) × (is_inline kind ≡ false)
unfolding is_list is_text_block is_inline
list_tells (kinds.List type) e = (refl, refl)
list_tells kind e = absurd (cc)

-- what is in a list isn't inline

pub none_in_list : (f : Forest) (q p : ℕ) → IsHeld may_hold f → parent_of f q ≡ Some p → is_at is_list f p ≡ true → is_at is_inline f q ≡ false
none_in_list f q p held up is = so_at is_item is_inline false (λ kind e. (item_tells kind e).1) f q (item_below f p q held is up)

pub none-any : (test : ℕ → Bool) (xs : List ℕ) (q : ℕ) → list_any test xs ≡ false → is_among q xs ≡ true → test q ≡ false
none-any test [] q none among = absurd (cc)
none-any test (x ∷ xs) q none among = elim (eqb_tells x q) [
  | inl here ↦ ap test (sym here.1) ∙ grind (arith, none)
  | inr other ↦ none-any test xs q (grind (arith, none)) (grind (arith, among, other.0))
]

-- Of children that come first some give nothing, and the others what is read below them.
mixed : (test : ℕ → Bool) (give read : ℕ → List ℕ) (xs : List ℕ) → stand_first test xs ≡ true → ((q : ℕ) → is_among q xs ≡ true → test q ≡ true → give q ≡ [])
    → ((q : ℕ) → is_among q xs ≡ true → test q ≡ false → read q ≡ give q) → spread read xs ≡ spread read (filter test xs) ++ spread give xs
mixed test give read [] first none same = refl
mixed test give read (x ∷ xs) first none same =
    let among : is_among x (x ∷ xs) ≡ true = grind (arith, eqb_tells x x) in
    elim (cases_Bool (test x)) [
      | inl is ↦
          let rest = mixed test give read xs (grind (arith, first, is)) (λ q e t. none q (grind (arith, e)) t) (λ q e t. same q (grind (arith, e)) t) in
          rw is (
          ap (λ t. read x ++ t) rest
          ∙ sym (append_assoc (read x) (spread read (filter test xs)) (spread give xs))
          ∙ ap (λ t. (read x ++ spread read (filter test xs)) ++ (t ++ spread give xs)) (sym (none x among is))
          )
      | inr is ↦
          let others : list_any test xs ≡ false = grind (arith, first, is) in
          let gone : filter test xs ≡ [] = filter-gone test xs (λ q e. none-any test xs q others e) in
          let rest : spread read xs ≡ spread give xs = spread-same read give xs (λ q e. same q (grind (arith, e)) (none-any test xs q others e)) in
          rw (is, gone) (ap₂ (λ a b. a ++ b) (same x among is) rest)
    ]

-- an item says what its inline children read, whether it is a line or not
line_says : (f : Forest) (k : ℕ) → is_at is_text_block f k ≡ true → says f k ≡ reads_of f (inlines f k)
line_says f k block = elim (cases_Bool (list_any (is_at is_inline f) (children_of f k))) [
  | inl some ↦ grind (arith, block, some)
  | inr none ↦
      grind (arith, block, none, filter-gone (is_at is_inline f) (children_of f k) (λ q among. none-any (is_at is_inline f) (children_of f k) q none among))
]

pub is_block_at : (f : Forest) (k : ℕ) → is_at is_item f k ≡ true → is_at is_text_block f k ≡ true
is_block_at f k is = so_at is_item is_text_block true (λ kind e. (item_tells kind e).0) f k is

pub list_no_line : (f : Forest) (k : ℕ) → is_at is_list f k ≡ true → is_line f k ≡ false
list_no_line f k is = no_line f k (so_at is_list is_text_block false (λ kind e. (list_tells kind e).0) f k is)

-- which of the two it is
pub list_or_item : (f : Forest) (k : ℕ) → is_at is_listed f k ≡ true → (is_at is_list f k ≡ true) ⊎ (is_at is_item f k ≡ true)
list_or_item f k is = let kind = kind_known f k (there_at is_listed f k is) in elim (cases_Bool (is_at is_list f k)) [
  | inl list ↦ inl list
  | inr other ↦ inr (grind (arith, is, other, kind.1))
]

-- what is read below a list or an item is what the lines of its tree say
pub lines_read : (f : Forest) → IsForest f → IsHeld may_hold f → InlinesFirst f → (k : ℕ) → is_at is_listed f k ≡ true → read_below f k ≡ below (says f) f k
lines_read f h held first k is = down f h (λ q. is_at is_listed f q ≡ true → read_below f q ≡ below (says f) f q) level k is where
  level : (b : ℕ) → ((c : ℕ) → parent_of f c ≡ Some b → is_at is_listed f c ≡ true → read_below f c ≡ below (says f) f c) → is_at is_listed f b ≡ true
      → read_below f b ≡ below (says f) f b
  level b each here =
      let others : (q : ℕ) → is_among q (children_of f b) ≡ true → is_at is_inline f q ≡ false → read_below f q ≡ below (says f) f q =
      λ q among other. let up = parent_here f b q h among in each q up (listed_below f q b held up here other) in
      let one : read_below f b ≡ spread (read_below f) (children_of f b) =
      read-level f b h ∙ ap (λ t. t ++ reads_of f (children_of f b)) (listed_silent f b here) in
      let two : below (says f) f b ≡ says f b ++ spread (below (says f) f) (children_of f b) =
      below-level (says f) f b h (λ free. absurd (grind (arith, free, there_at is_listed f b here))) in
      one ∙ elim (list_or_item f b here) [
        | inl list ↦
            spread-same (read_below f) (below (says f) f) (children_of f b)
            (λ q among. others q among (none_in_list f q b held (parent_here f b q h among) list))
            ∙ sym (ap (λ t. cond t (reads_of f (inlines f b)) [] ++ spread (below (says f) f) (children_of f b)) (list_no_line f b list))
        | inr item ↦
            mixed (is_at is_inline f) (below (says f) f) (read_below f) (children_of f b) (first.each b item)
            (λ q among inline. inline_says_nothing f h held q inline) others
            ∙ ap (λ t. t ++ spread (below (says f) f) (children_of f b)) (sym (line_says f b (is_block_at f b item)))
      ] ∙ sym two
