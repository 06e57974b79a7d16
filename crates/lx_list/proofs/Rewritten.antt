-- All items but those of parts of touched lists are counted at once, and these parts are numbered.
use Rattle.std.proofs.Common.{◌≡◌, ◌∙◌, ℕ, ◌+◌, ◌-◌, ◌≤◌, Bool, true, not, zero, suc, ◌<◌, take, length, slice_index_or, List, [], ◌∷◌, ◌++◌, subst, refl, sym, ap, ap₂, arith, inl, inr}
use Rattle.std.specs.Prelude.{sum_by, filter}
use Rattle.std.proofs.lemmas.Bool.{cases_Bool}
use Rattle.std.proofs.lemmas.Bool.Decides.{nat_tests}
use Rattle.std.proofs.lemmas.List.Sums.{sum_by-cons, sum_by-append}
use Rattle.lx_trees.specs.Siblings.{is_among, NoRepeats}
use Rattle.lx_draft.proofs.Rewritten.{rewritten-more}
use Rattle.lx_node.specs.Kinds.{may_hold, is_list}
use Rattle.lx_node.specs.Strings.{capped, characters_of}
use Rattle.lx_node.specs.Limits.{most_counts, most_written}
use Rattle.lx_forest.specs.Forest.{Forest, Label}
use Rattle.lx_forest.proofs.Walks.{NoRepeats-preorder_of}
use Rattle.lx_links.proofs.Detached.{NoRepeats-filter}
use Rattle.lx_forest.specs.Lookups.{preorder, children_of, without, IsForest, IsHeld}
use Rattle.lx_forest.specs.Suited.{IsSuited}
use Rattle.lx_forest.specs.Weights.{weight, own_weight}
use Rattle.lx_links.specs.Sums.{items_in, item_characters_in}
use Rattle.lx_draft.specs.Working.{Working}
use Rattle.lx_draft.specs.Steps.{rewritten}
use Rattle.lx_edit.specs.InTurn.{in_turn}
use Rattle.lx_blocks.specs.Blocks.{is_at}
use Rattle.lx_list.specs.Numbering.{list_numbered, number_step}
use Rattle.lx_list.specs.Began.{BeganNumbered}
use Rattle.lx_list.specs.declared.parts.Part.{Part}
use Rattle.lx_list.specs.Parts.{IsUnnumberedPart, AreParts, part_numbered, items_of}
use Rattle.lx_list.specs.Parts as partly
use Rattle.lx_list.specs.Touched.{is_touched_list, touched_lists, items_below, characters_below}
use Rattle.lx_list.proofs.Numbered.{passes_filter}
use Rattle.lx_list.proofs.Stands.{still_numbered}
use Rattle.lx_list.proofs.Sums.{weighed}
use Rattle.lx_list.proofs.Parted.{parts_apart}
use Rattle.lx_list.proofs.Untouched.{numbered_apart, sums_part, all_items}

-- the lists of the root's tree, and those that aren't touched
abbrev all_lists : Working → List ℕ
all_lists w = filter (is_at is_list w.forest) (preorder w.forest)

abbrev others : Working → List ℕ
others w = filter (λ list. not (is_touched_list w.forest w.marks list)) (all_lists w)

-- what the items below a list weigh
abbrev below : (Label → ℕ) → Working → ℕ → ℕ
below of w list = sum_by (own_weight (weighed of) w.forest) (children_of w.forest list)

-- what the items of a forest weigh, in three parts
parts_of_all : (of : Label → ℕ) (w : Working) → IsForest w.forest → IsHeld may_hold w.forest
    → sum_by (below of w) (others w) + sum_by (below of w) (touched_lists w.forest w.marks) + weight (weighed of) (without 0 w.forest)
    ≡ weight (weighed of) w.forest
parts_of_all of w h held =
    omega (
      arith,
      sums_part (below of w) (is_touched_list w.forest w.marks) (all_lists w),
      all_items of w.forest h held,
    )

number_apart : (w : Working) (lists : List ℕ) → BeganNumbered w → IsForest w.forest → IsHeld may_hold w.forest → IsSuited w.forest
    → lists ≡ touched_lists w.forest w.marks
    → w.counted + weight items_in w.forest ≤ most_counts → w.written + weight item_characters_in w.forest ≤ most_written
    → number_step w
    ≡ in_turn list_numbered lists (rewritten (sum_by (items_below w.forest) (others w)) (sum_by (characters_below w.forest) (others w)) w)
unfolding number_step
number_apart w lists b h held suited is few small =
    let f : Forest = w.forest in
    let v : Working = rewritten (sum_by (items_below f) (others w)) (sum_by (characters_below f) (others w)) w in
    let items : sum_by (items_below f) (all_lists w) + weight items_in (without 0 f) ≡ weight items_in f = all_items (λ l. 1) f h held in
    let characters : sum_by (characters_below f) (all_lists w) + weight item_characters_in (without 0 f) ≡ weight item_characters_in f =
    all_items (λ l. characters_of l.fields) f h held in
    numbered_apart (is_touched_list f w.marks) (all_lists w) w h held suited (passes_filter (is_at is_list f) (preorder f))
    (λ list among none. still_numbered w b h list (passes_filter (is_at is_list f) (preorder f) list among) none)
    (omega (arith, few, items), omega (arith, small, characters))
    ∙ ap (λ xs. in_turn list_numbered xs v) (sym is)

-- a number that was capped is the number itself where it is within the limit
uncapped : (n more : ℕ) → more + capped n ≤ most_written → capped n ≡ n
unfolding capped
uncapped n more fits = grind (arith, nat_tests, fits)

capped_part : (n m more : ℕ) → more + m ≤ most_written → n ≤ m → more + capped n ≤ most_written
unfolding capped
capped_part n m more fits part = omega (arith, fits, part)

-- ---- parts of lists

among_all : (p : ℕ → Bool) (xs : List ℕ) (q : ℕ) → is_among q (filter p xs) ≡ true → is_among q xs ≡ true
among_all p [] q among = among
among_all p (x ∷ xs) q among =
    elim (cases_Bool (p x)) [
      | inl passes ↦ (let there : is_among q (x ∷ filter p xs) ≡ true = rw passes at among in grind (arith, there, among_all p xs q))
      | inr fails ↦ (let there : is_among q (filter p xs) ≡ true = rw fails at among in grind (arith, among_all p xs q there))
    ]

-- what the keys of parts weigh is no more than what the children of their lists do
parts_within : (g : ℕ → ℕ) (f : Forest) (lists : List ℕ) (parts : List Part) → AreParts f lists parts
    → sum_by (λ (part : Part). sum_by g part.keys.items) parts ≤ sum_by (λ list. sum_by g (children_of f list)) lists
parts_within g f [] [] are = omega arith
parts_within g f (list ∷ lists) (part ∷ parts) are =
    let of : Part → ℕ = λ p. sum_by g p.keys.items in
    let all : ℕ → ℕ = λ l. sum_by g (children_of f l) in
    let front : ℕ = sum_by g are.0.front in
    let whole : all list ≡ front + of part + sum_by g are.0.behind =
    ap (sum_by g) are.0.children ∙ sum_by-append g (are.0.front ++ part.keys.items) are.0.behind
    ∙ ap (λ n. n + sum_by g are.0.behind) (sum_by-append g are.0.front part.keys.items) in
    omega (arith, whole, sum_by-cons all list lists, sum_by-cons of part parts, parts_within g f lists parts are.1)
parts_within g f [] (part ∷ parts) are = absurd (are)
parts_within g f (list ∷ lists) [] are = absurd (are)

-- one more list with its part
pub one_more : (f : Forest) (lists : List ℕ) (parts : List Part) (i list : ℕ) (part : Part) → i < length lists → list ≡ slice_index_or lists i list
    → AreParts f (take i lists) parts → IsUnnumberedPart f list part.number part.keys.items → AreParts f (take (suc i) lists) (parts ++ part ∷ [])
one_more f [] parts i list part few at are is = absurd (omega (arith, few))
one_more f (l ∷ lists) [] zero list part few at are is = (subst (λ k. IsUnnumberedPart f k part.number part.keys.items) at is, tt)
one_more f (l ∷ lists) (p ∷ parts) zero list part few at are is = absurd (are)
one_more f (l ∷ lists) [] (suc i) list part few at are is = absurd (are)
one_more f (l ∷ lists) (p ∷ parts) (suc i) list part few at are is = (are.0, one_more f lists parts i list part (omega (arith, few)) at are.1 is)

once : (w : Working) → IsForest w.forest → NoRepeats (touched_lists w.forest w.marks)
once w h =
    NoRepeats-filter (is_touched_list w.forest w.marks) (all_lists w)
    (NoRepeats-filter (is_at is_list w.forest) (preorder w.forest) (NoRepeats-preorder_of w.forest h))

pub are_lists : (w : Working) (list : ℕ) → is_among list (touched_lists w.forest w.marks) ≡ true → is_at is_list w.forest list ≡ true
are_lists w list among =
    passes_filter (is_at is_list w.forest) (preorder w.forest) list (among_all (is_touched_list w.forest w.marks) (all_lists w) list among)

-- what was read of a draft: the parts of its touched lists, how many items there are and how many scalar values in their
-- strings, how many of them outside the tree, and how many in these parts; all are within the limits
pub record WasRead (w : Working) (parts : List Part) (i c li lc oi oc : ℕ) : Type 0 where
  pub parts_are : AreParts w.forest (touched_lists w.forest w.marks) parts
  pub items : i ≡ weight items_in w.forest
  pub characters : c ≡ capped (weight item_characters_in w.forest)
  pub loose_items : li ≡ weight items_in (without 0 w.forest)
  pub loose_characters : lc ≡ capped (weight item_characters_in (without 0 w.forest))
  pub own_items : oi ≡ sum_by (items_of w.forest) parts
  pub own_characters : oc ≡ sum_by (partly.part_characters w.forest) parts
  pub few : w.counted + i ≤ most_counts
  pub small : w.written + c ≤ most_written

-- the rest of the items, and of their scalar values: those of the lists that aren't touched, and of touched ones
pub record IsTheRest (w : Working) (i c li lc oi oc n m : ℕ) : Type 0 where
  pub items : i ≡ li + oi + n + sum_by (items_below w.forest) (others w)
  pub characters : c ≡ lc + oc + m + sum_by (characters_below w.forest) (others w)

abbrev pub rest_of : Working → (ℕ → ℕ) → (Part → ℕ) → List Part → ℕ
rest_of w below of parts = sum_by below (touched_lists w.forest w.marks) - sum_by of parts

abbrev pub items_left : Working → List Part → ℕ
items_left w parts = rest_of w (items_below w.forest) (items_of w.forest) parts

abbrev pub characters_left : Working → List Part → ℕ
characters_left w parts = rest_of w (characters_below w.forest) (partly.part_characters w.forest) parts

pub the_rest : (w : Working) (parts : List Part) (i c li lc oi oc : ℕ) → IsForest w.forest → IsHeld may_hold w.forest → WasRead w parts i c li lc oi oc
    → IsTheRest w i c li lc oi oc (items_left w parts) (characters_left w parts)
the_rest w parts i c li lc oi oc h held r =
    let f : Forest = w.forest in
    let counts = parts_of_all (λ l. 1) w h held in
    let characters = parts_of_all (λ l. characters_of l.fields) w h held in
    let whole : c ≡ weight item_characters_in f = r.characters ∙ uncapped (weight item_characters_in f) w.written (omega (arith, r.small, r.characters)) in
    let loose : lc ≡ weight item_characters_in (without 0 f) =
    r.loose_characters ∙ uncapped (weight item_characters_in (without 0 f)) w.written
    (capped_part _ (weight item_characters_in f) w.written (omega (arith, r.small, whole)) (omega (arith, characters))) in
    record {
      items = omega (arith, counts, r.items, r.loose_items, r.own_items, parts_within (own_weight items_in f) f (touched_lists f w.marks) parts r.parts_are);
      characters = omega (
        arith,
        characters,
        whole,
        loose,
        r.own_characters,
        parts_within (own_weight item_characters_in f) f (touched_lists f w.marks) parts r.parts_are,
      );
    }

pub number_left : (w v : Working) (parts : List Part) (i c li lc oi oc : ℕ) → BeganNumbered w → IsForest w.forest → IsHeld may_hold w.forest → IsSuited w.forest
    → WasRead w parts i c li lc oi oc → v ≡ rewritten (i - li - oi) (c - lc - oc) w → number_step w ≡ in_turn part_numbered parts v
number_left w v parts i c li lc oi oc b h held suited r v_is =
    let f : Forest = w.forest in
    let lists : List ℕ = touched_lists f w.marks in
    let n : ℕ = items_left w parts in
    let m : ℕ = characters_left w parts in
    let a : ℕ = sum_by (items_below f) (others w) in
    let d : ℕ = sum_by (characters_below f) (others w) in
    let rest = the_rest w parts i c li lc oi oc h held r in
    let whole : c ≡ weight item_characters_in f = r.characters ∙ uncapped (weight item_characters_in f) w.written (omega (arith, r.small, r.characters)) in
    let counts = parts_of_all (λ l. 1) w h held in
    let characters = parts_of_all (λ l. characters_of l.fields) w h held in
    let fewer = parts_within (own_weight items_in f) f lists parts r.parts_are in
    let shorter = parts_within (own_weight item_characters_in f) f lists parts r.parts_are in
    number_apart w lists b h held suited refl (omega (arith, r.few, r.items)) (omega (arith, r.small, whole))
    ∙ parts_apart lists parts (rewritten a d w) n m h held suited (are_lists w) (once w h) r.parts_are (omega (arith, fewer)) (omega (arith, shorter))
    (omega (arith, r.few, r.items, counts), omega (arith, r.small, whole, characters))
    ∙ ap (in_turn part_numbered parts)
    (rewritten-more a d n m w
    ∙ ap₂ (λ x y. rewritten x y w) (omega (arith, rest.items)) (omega (arith, rest.characters))
    ∙ sym v_is)
