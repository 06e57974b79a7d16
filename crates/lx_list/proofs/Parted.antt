-- The parts of lists that may not be numbered are numbered, and all other items are counted at once.
use Rattle.std.proofs.Common.{◌≡◌, ◌∙◌, ℕ, zero, suc, ◌+◌, ◌-◌, ◌≤◌, ◌||◌, Bool, true, false, cond, not, List, [], ◌∷◌, ◌++◌, length, length-append, take, Some, Result, Ok, Err, refl, sym, ap, ap₂, subst, append_assoc, arith, inl, inr}
use Rattle.std.specs.Prelude.{sum_by}
use Rattle.std.specs.List.{slice_get, count_by}
use Rattle.std.proofs.lemmas.Bool.Decides.{eqb_tells}
use Rattle.std.proofs.lemmas.List.Sums.{sum_by-cons, sum_by-append}
use Rattle.lx_trees.specs.Siblings.{is_among, NoRepeats}
use Rattle.lx_trees.proofs.Siblings.{is_among-append}
use Rattle.lx_node.specs.Kinds.{may_hold, is_list, is_item}
use Rattle.lx_node.specs.declared.cause.Cause.{Cause}
use Rattle.lx_forest.specs.Forest.{Forest}
use Rattle.lx_forest.specs.Lookups.{fields_of, children_of, IsForest, IsHeld}
use Rattle.lx_forest.specs.Suited.{IsSuited}
use Rattle.lx_forest.proofs.Lookups.{NoRepeats-children_of}
use Rattle.lx_draft.specs.Working.{Working, IsWorking}
use Rattle.lx_draft.specs.Faults.{after}
use Rattle.lx_draft.specs.Steps.{rewritten}
use Rattle.lx_draft.proofs.Rewritten.{rewritten-none, rewritten-more}
use Rattle.lx_edit.specs.InTurn.{in_turn}
use Rattle.lx_blocks.specs.Blocks.{is_at}
use Rattle.lx_list.specs.declared.parts.Part.{Part}
use Rattle.lx_list.specs.Making.{number_item}
use Rattle.lx_list.specs.Nesting.{is_nesting}
use Rattle.lx_list.specs.Numbering.{list_start, numbered_from, list_numbered}
use Rattle.lx_list.specs.Numbered.{item_number}
use Rattle.lx_list.specs.Touched.{items_below, characters_below}
use Rattle.lx_list.specs.Parts.{number_behind, HaveNumbers, IsUnnumberedPart, AreParts, part_numbered, items_of, part_characters, IsPartSmall, AreSmall}
use Rattle.lx_list.proofs.Alike.{IsAlike, children-alike}
use Rattle.lx_list.proofs.Counted.{HasRoomFor, own_items, own_characters, items_again}
use Rattle.lx_list.proofs.Numbered.{given, is_at-alike, nesting-alike, start-alike, count-agree, parent_there}
use Rattle.lx_list.proofs.Small.{numbers_small}
use Rattle.lx_list.proofs.Untouched.{IsSound, IsTaken, sound_left, AreItems, both_ok, sum-alike, items-alike, item_characters-alike, items_below-alike, characters_below-alike, items_taken, items_shifted, items_there}

-- ---- lists of keys

-- where no key repeats, what is behind isn't in front
not_in_front : (xs ys : List ℕ) (q : ℕ) → NoRepeats (xs ++ ys) → is_among q ys ≡ true → is_among q xs ≡ false
not_in_front [] ys q once among = refl
not_in_front (x ∷ xs) ys q once among =
    elim (eqb_tells x q) [
      | inl own ↦ (let there : is_among x ys ≡ true = ap (λ k. is_among k ys) own.1 ∙ among in
          let clash : (is_among x xs || is_among x ys) ≡ false = sym (is_among-append x xs ys) ∙ once.0 in absurd (grind (arith, there, clash)))
      | inr other ↦ grind (arith, other.0, not_in_front xs ys q once.1 among)
    ]

rest_once : (xs ys : List ℕ) → NoRepeats (xs ++ ys) → NoRepeats ys
rest_once [] ys once = once
rest_once (x ∷ xs) ys once = rest_once xs ys once.1

in_left : (xs ys : List ℕ) (q : ℕ) → is_among q xs ≡ true → is_among q (xs ++ ys) ≡ true
in_left xs ys q among = is_among-append q xs ys ∙ grind (arith, among)

in_right : (xs ys : List ℕ) (q : ℕ) → is_among q ys ≡ true → is_among q (xs ++ ys) ≡ true
in_right xs ys q among = is_among-append q xs ys ∙ grind (arith, among)

sum_three : (g : ℕ → ℕ) (xs ys zs : List ℕ) → sum_by g (xs ++ (ys ++ zs)) ≡ sum_by g xs + (sum_by g ys + sum_by g zs)
sum_three g xs ys zs = sum_by-append g xs (ys ++ zs) ∙ ap (λ n. sum_by g xs + n) (sum_by-append g ys zs)

-- ---- numbers

-- what is counted before an item, and the item
count_first : (f : Forest) (n item : ℕ) (items : List ℕ)
    → cond (is_nesting f item) n (n + 1) + count_by (λ q. not (is_nesting f q)) items ≡ n + count_by (λ q. not (is_nesting f q)) (item ∷ items)
count_first f n item items =
    by_nesting (is_nesting f item) (count_by (λ q. not (is_nesting f q)) items)
    ∙ ap (λ m. n + m) (sym (sum_by-cons (λ q. cond (not (is_nesting f q)) 1 0) item items))
  where
    by_nesting : (b : Bool) (m : ℕ) → cond b n (n + 1) + m ≡ n + (cond (not b) 1 0 + m)
    by_nesting true m = omega arith
    by_nesting false m = omega arith

number_behind-alike : (f g : Forest) → IsAlike f g → (n : ℕ) (items : List ℕ) → number_behind g n items ≡ number_behind f n items
number_behind-alike f g a n items =
    ap (λ m. n + m) (count-agree (λ q. not (is_nesting g q)) (λ q. not (is_nesting f q)) (λ q. ap not (nesting-alike f g a q)) items)

-- items that have their numbers, by their places
have_places : (f : Forest) (n : ℕ) (items : List ℕ) → HaveNumbers f n items → (i item : ℕ) → slice_get items i ≡ Some item
    → item_number (fields_of f item) ≡ Some (n + count_by (λ q. not (is_nesting f q)) (take i items))
have_places f n [] have i item at = absurd (cc)
have_places f n (x ∷ items) have zero item at =
    let is : x ≡ item = cc in ap (λ q. item_number (fields_of f q)) (sym is) ∙ have.0 ∙ ap Some (omega arith)
have_places f n (x ∷ items) have (suc i) item at =
    have_places f (cond (is_nesting f x) n (n + 1)) items have.1 i item at ∙ ap Some (count_first f n x (take i items))

-- they have them still in an alike forest in which their numbers are the same
have_kept : (f g : Forest) (n : ℕ) (items : List ℕ) → IsAlike f g
    → ((q : ℕ) → is_among q items ≡ true → item_number (fields_of g q) ≡ item_number (fields_of f q)) → HaveNumbers f n items → HaveNumbers g n items
have_kept f g n [] a same have = tt
have_kept f g n (item ∷ items) a same have = (
  same item (grind (arith, eqb_tells item item)) ∙ have.0,
  have_kept f g (cond (is_nesting g item) n (n + 1)) items a (λ q among. same q (grind (arith, among)))
      (subst (λ b. HaveNumbers f (cond b n (n + 1)) items) (sym (nesting-alike f g a item)) have.1),
)

-- ---- numbering

-- items that aren't numbered keep what they have
others_kept : (n : ℕ) (items : List ℕ) (w v : Working) → numbered_from n items w ≡ Ok v → (q : ℕ) → is_among q items ≡ false
    → item_number (fields_of v.forest q) ≡ item_number (fields_of w.forest q)
unfolding numbered_from
others_kept n [] w v e q out = let same : v ≡ w = cc in ap (λ (u : Working). item_number (fields_of u.forest q)) same
others_kept n (item ∷ items) w v e q out =
    let next : ℕ = cond (is_nesting w.forest item) n (n + 1) in
    let both = both_ok (number_item n item w) (numbered_from next items) v e in
    others_kept next items both.0 v both.2 q (grind (arith, out))
    ∙ ap item_number ((given n item w both.0 both.1).others q (grind (arith, out, eqb_tells item q)))

-- items are numbered, and then those behind them
numbered-append : (n : ℕ) (xs ys : List ℕ) (w : Working)
    → numbered_from n (xs ++ ys) w ≡ after (numbered_from n xs w) (numbered_from (number_behind w.forest n xs) ys)
unfolding numbered_from
numbered-append n [] ys w = ap (λ m. numbered_from m ys w) (omega arith)
numbered-append n (x ∷ xs) ys w =
    let next : ℕ = cond (is_nesting w.forest x) n (n + 1) in
    by_first next (number_item n x w) (λ u e. numbered-append next xs ys u
    ∙ ap (λ m. after (numbered_from next xs u) (numbered_from m ys))
    (number_behind-alike w.forest u.forest (given n x w u e).alike next xs ∙ count_first w.forest n x xs))
  where
    by_first : (next : ℕ) (r : Result Working Cause)
        → ((u : Working) → r ≡ Ok u
        → numbered_from next (xs ++ ys) u ≡ after (numbered_from next xs u) (numbered_from (number_behind w.forest n (x ∷ xs)) ys))
        → after r (numbered_from next (xs ++ ys)) ≡ after (after r (numbered_from next xs)) (numbered_from (number_behind w.forest n (x ∷ xs)) ys)
    by_first next (Err cause) rest = refl
    by_first next (Ok u) rest = rest u refl

-- items that have their numbers take their counts
again : (n : ℕ) (items : List ℕ) (w : Working) → IsSound w.forest → AreItems w.forest items → HaveNumbers w.forest n items
    → HasRoomFor (sum_by (own_items w.forest) items) (sum_by (own_characters w.forest) items) w
    → numbered_from n items w ≡ Ok (rewritten (sum_by (own_items w.forest) items) (sum_by (own_characters w.forest) items) w)
again n items w s are have fits = items_again n items w s.in_order s.suited are (have_places w.forest n items have) fits

-- so do those behind others that were numbered
behind_again : (a b n last : ℕ) (items behind : List ℕ) (w u : Working) → IsSound w.forest → AreItems w.forest items → AreItems w.forest behind
    → NoRepeats (items ++ behind) → HaveNumbers w.forest last behind
    → HasRoomFor (a + (sum_by (own_items w.forest) items + sum_by (own_items w.forest) behind))
    (b + (sum_by (own_characters w.forest) items + sum_by (own_characters w.forest) behind)) w
    → numbered_from n items w ≡ Ok u
    → numbered_from last behind (rewritten a b u)
    ≡ Ok (rewritten (a + sum_by (own_items w.forest) behind) (b + sum_by (own_characters w.forest) behind) u)
behind_again a b n last items behind w u s are_items are once have fits e =
    let t = items_taken n items w u s are_items e in
    let many = sum-alike own_items items-alike w.forest u.forest t.alike behind in
    let long = sum-alike own_characters item_characters-alike w.forest u.forest t.alike behind in
    again last behind (rewritten a b u) (sound_left _ _ w u t) (λ q among. is_at-alike w.forest u.forest t.alike is_item q ∙ are q among)
    (have_kept w.forest u.forest last behind t.alike (λ q among. others_kept n items w u e q (not_in_front items behind q once among)) have)
    (omega (arith, fits.0, t.counted, many), omega (arith, fits.1, t.written, long))
    ∙ ap Ok (rewritten-more a b (sum_by (own_items u.forest) behind) (sum_by (own_characters u.forest) behind) u)
    ∙ ap₂ (λ x y. Ok (rewritten (a + x) (b + y) u)) many long

-- numbering three stretches of items is to number those between, where the others have their numbers, and to count these
between : (n : ℕ) (front items behind : List ℕ) (w : Working) → IsSound w.forest → AreItems w.forest (front ++ (items ++ behind))
    → NoRepeats (front ++ (items ++ behind)) → HaveNumbers w.forest n front
    → HaveNumbers w.forest (number_behind w.forest (number_behind w.forest n front) items) behind
    → HasRoomFor (sum_by (own_items w.forest) (front ++ (items ++ behind))) (sum_by (own_characters w.forest) (front ++ (items ++ behind))) w
    → numbered_from n (front ++ (items ++ behind)) w
    ≡ after (numbered_from (number_behind w.forest n front) items w)
    (λ u. Ok (rewritten (sum_by (own_items w.forest) front + sum_by (own_items w.forest) behind)
    (sum_by (own_characters w.forest) front + sum_by (own_characters w.forest) behind) u))
between n front items behind w s are once have_front have_behind fits =
    let f : Forest = w.forest in
    let a : ℕ = sum_by (own_items f) front in
    let b : ℕ = sum_by (own_characters f) front in
    let mid : ℕ = number_behind f n front in
    let last : ℕ = number_behind f mid items in
    let many = sum_three (own_items f) front items behind in
    let long = sum_three (own_characters f) front items behind in
    let are_items : AreItems f items = λ q among. are q (in_right front (items ++ behind) q (in_left items behind q among)) in
    let are_behind : AreItems f behind = λ q among. are q (in_right front (items ++ behind) q (in_right items behind q among)) in
    numbered-append n front (items ++ behind) w
    ∙ ap (λ r. after r (numbered_from mid (items ++ behind)))
    (again n front w s (λ q among. are q (in_left front (items ++ behind) q among)) have_front (omega (arith, fits.0, many), omega (arith, fits.1, long)))
    ∙ numbered-append mid items behind (rewritten a b w)
    ∙ ap (λ r. after r (numbered_from last behind))
    (items_shifted a b mid items w s are_items (omega (arith, fits.0, many), omega (arith, fits.1, long)))
    ∙ by_first a b last (numbered_from mid items w)
    (λ u e. behind_again a b mid last items behind w u s are_items are_behind (rest_once front (items ++ behind) once) have_behind
    (omega (arith, fits.0, many), omega (arith, fits.1, long)) e)
  where
    by_first : (a b last : ℕ) (r : Result Working Cause)
        → ((u : Working) → r ≡ Ok u → numbered_from last behind (rewritten a b u)
        ≡ Ok (rewritten (a + sum_by (own_items w.forest) behind) (b + sum_by (own_characters w.forest) behind) u))
        → after (after r (λ u. Ok (rewritten a b u))) (numbered_from last behind)
        ≡ after r (λ u. Ok (rewritten (a + sum_by (own_items w.forest) behind) (b + sum_by (own_characters w.forest) behind) u))
    by_first a b last (Err cause) rest = refl
    by_first a b last (Ok u) rest = rest u refl

-- ---- one list

-- the children of a list, in front of its part, in it and behind it
in_three : (f : Forest) (list number : ℕ) (items : List ℕ) (p : IsUnnumberedPart f list number items) → children_of f list ≡ p.front ++ (items ++ p.behind)
in_three f list number items p = p.children ∙ append_assoc p.front items p.behind

-- what those around a part of a list weigh
abbrev around : (g : ℕ → ℕ) (f : Forest) (list number : ℕ) (items : List ℕ) → IsUnnumberedPart f list number items → ℕ
around g f list number items p = sum_by g p.front + sum_by g p.behind

around_whole : (g : ℕ → ℕ) (f : Forest) (list number : ℕ) (items : List ℕ) (p : IsUnnumberedPart f list number items)
    → around g f list number items p + sum_by g items ≡ sum_by g (children_of f list)
around_whole g f list number items p = omega (arith, sum_three g p.front items p.behind, ap (sum_by g) (in_three f list number items p))

-- numbering a list is to number its part, and to count the others
list_parted : (list number : ℕ) (items : List ℕ) (w : Working) → IsSound w.forest → is_at is_list w.forest list ≡ true
    → (p : IsUnnumberedPart w.forest list number items) → HasRoomFor (items_below w.forest list) (characters_below w.forest list) w
    → list_numbered list w
    ≡ after (numbered_from number items w) (λ u. Ok (rewritten (around (own_items w.forest) w.forest list number items p)
    (around (own_characters w.forest) w.forest list number items p) u))
list_parted list number items w s is p fits =
    let f : Forest = w.forest in
    let start : ℕ = list_start (fields_of f list) in
    let whole : children_of f list ≡ p.front ++ (items ++ p.behind) = in_three f list number items p in
    ap (λ xs. numbered_from start xs w) whole
    ∙ between start p.front items p.behind w s (subst (AreItems f) whole (items_there f list s is))
    (subst NoRepeats whole (NoRepeats-children_of f list s.in_order)) p.front_numbered
    (subst (λ m. HaveNumbers f (number_behind f m items) p.behind) p.number_is p.behind_numbered)
    (subst (λ xs. HasRoomFor (sum_by (own_items f) xs) (sum_by (own_characters f) xs) w) whole fits)
    ∙ ap (λ m. after (numbered_from m items w)
    (λ u. Ok (rewritten (around (own_items f) f list number items p) (around (own_characters f) f list number items p) u))) (sym p.number_is)

-- ---- parts stay parts

part_kept : (f g : Forest) (list number : ℕ) (items : List ℕ) → IsAlike f g
    → ((q : ℕ) → is_among q (children_of f list) ≡ true → item_number (fields_of g q) ≡ item_number (fields_of f q))
    → IsUnnumberedPart f list number items → IsUnnumberedPart g list number items
part_kept f g list number items a same p = record {
  front = p.front;
  behind = p.behind;
  children = children-alike f g a list ∙ p.children;
  number_is = p.number_is ∙ sym (number_behind-alike f g a (list_start (fields_of f list)) p.front)
      ∙ ap (λ m. number_behind g m p.front) (sym (start-alike f g a list));
  front_numbered = subst (λ m. HaveNumbers g m p.front) (sym (start-alike f g a list))
      (have_kept f g (list_start (fields_of f list)) p.front a
      (λ q among. same q (ap (is_among q) (in_three f list number items p) ∙ in_left p.front (items ++ p.behind) q among)) p.front_numbered);
  behind_numbered = subst (λ m. HaveNumbers g m p.behind) (sym (number_behind-alike f g a number items))
      (have_kept f g (number_behind f number items) p.behind a
      (λ q among. same q (ap (is_among q) (in_three f list number items p) ∙ in_right p.front (items ++ p.behind) q (in_right items p.behind q among)))
      p.behind_numbered);
}

parts_kept : (f g : Forest) (lists : List ℕ) (parts : List Part) → IsAlike f g
    → ((list q : ℕ) → is_among list lists ≡ true → is_among q (children_of f list) ≡ true → item_number (fields_of g q) ≡ item_number (fields_of f q))
    → AreParts f lists parts → AreParts g lists parts
parts_kept f g [] [] a same are = tt
parts_kept f g (list ∷ lists) (part ∷ parts) a same are = (
  part_kept f g list part.number part.keys.items a (λ q among. same list q (grind (arith, eqb_tells list list)) among) are.0,
  parts_kept f g lists parts a (λ other q there among. same other q (grind (arith, there)) among) are.1,
)
parts_kept f g [] (part ∷ parts) a same are = absurd are
parts_kept f g (list ∷ lists) [] a same are = absurd are

-- a child of another list isn't among the items of this one
of_other : (f : Forest) (list other q number : ℕ) (items : List ℕ) → IsForest f → IsUnnumberedPart f list number items → (list ≡ other → ⊥)
    → is_among q (children_of f other) ≡ true → is_among q items ≡ false
of_other f list other q number items h p apart among = by_there (is_among q items) refl where
  some_is : (a b : ℕ) → ◌≡◌ (Some a) (Some b) → a ≡ b
  some_is a b e = cc

  by_there : (b : Bool) → is_among q items ≡ b → is_among q items ≡ false
  by_there false e = e
  by_there true e =
      let own : is_among q (children_of f list) ≡ true =
      ap (is_among q) (in_three f list number items p) ∙ in_right p.front (items ++ p.behind) q (in_left items p.behind q e) in
      absurd (apart (some_is list other (sym (parent_there f list q h own) ∙ parent_there f other q h among)))

-- parts weigh no more than their lists
parts_fit : (g : ℕ → ℕ) (f : Forest) (lists : List ℕ) (parts : List Part) → AreParts f lists parts
    → sum_by (λ (p : Part). sum_by g p.keys.items) parts ≤ sum_by (λ l. sum_by g (children_of f l)) lists
parts_fit g f [] [] are = omega arith
parts_fit g f (list ∷ lists) (part ∷ parts) are =
    omega (
      arith,
      around_whole g f list part.number part.keys.items are.0,
      parts_fit g f lists parts are.1,
      sum_by-cons (λ (p : Part). sum_by g p.keys.items) part parts,
      sum_by-cons (λ l. sum_by g (children_of f l)) list lists,
    )
parts_fit g f [] (part ∷ parts) are = absurd are
parts_fit g f (list ∷ lists) [] are = absurd are

parts-alike : (of : Forest → ℕ → ℕ) → ((f g : Forest) → IsAlike f g → (q : ℕ) → of g q ≡ of f q) → (f g : Forest) → IsAlike f g → (parts : List Part)
    → sum_by (λ (p : Part). sum_by (of g) p.keys.items) parts ≡ sum_by (λ (p : Part). sum_by (of f) p.keys.items) parts
parts-alike of same f g a [] = refl
parts-alike of same f g a (part ∷ parts) =
    sum_by-cons (λ (p : Part). sum_by (of g) p.keys.items) part parts
    ∙ ap₂ (λ x y. x + y) (sum-alike of same f g a part.keys.items) (parts-alike of same f g a parts)
    ∙ sym (sum_by-cons (λ (p : Part). sum_by (of f) p.keys.items) part parts)

-- ---- lists

-- lists of a draft with their parts, and room for all of them
record AreParted (lists : List ℕ) (parts : List Part) (w : Working) : Type 0 where
  sound : IsSound w.forest
  are : (list : ℕ) → is_among list lists ≡ true → is_at is_list w.forest list ≡ true
  once : NoRepeats lists
  parted : AreParts w.forest lists parts
  fits : HasRoomFor (sum_by (items_below w.forest) lists) (sum_by (characters_below w.forest) lists) w

first_list : (list : ℕ) (lists : List ℕ) (parts : List Part) (w : Working) → AreParted (list ∷ lists) parts w → is_at is_list w.forest list ≡ true
first_list list lists parts w p = p.are list (grind (arith, eqb_tells list list))

-- the part of the first was numbered, and its others were counted
parted_next : (c d list : ℕ) (lists : List ℕ) (part : Part) (parts : List Part) (w u : Working) → AreParted (list ∷ lists) (part ∷ parts) w
    → IsTaken (items_of w.forest part) (part_characters w.forest part) w u
    → c + items_of w.forest part ≡ items_below w.forest list → d + part_characters w.forest part ≡ characters_below w.forest list
    → numbered_from part.number part.keys.items w ≡ Ok u → AreParted lists parts (rewritten c d u)
parted_next c d list lists part parts w u p t c_is d_is e =
    let many = sum-alike items_below items_below-alike w.forest u.forest t.alike lists in
    let long = sum-alike characters_below characters_below-alike w.forest u.forest t.alike lists in
    record {
      sound = sound_left _ _ w u t;
      are = λ other among. is_at-alike w.forest u.forest t.alike is_list other ∙ p.are other (grind (arith, among));
      once = p.once.1;
      parted = parts_kept w.forest u.forest lists parts t.alike
          (λ other q there among. others_kept part.number part.keys.items w u e q
          (of_other w.forest list other q part.number part.keys.items p.sound.in_order p.parted.0 (not_it other there) among)) p.parted.1;
      fits = (
        omega (arith, p.fits.0, sum_by-cons (items_below w.forest) list lists, t.counted, many, c_is),
        omega (arith, p.fits.1, sum_by-cons (characters_below w.forest) list lists, t.written, long, d_is),
      );
    }
  where
    not_it : (other : ℕ) → is_among other lists ≡ true → list ≡ other → ⊥
    not_it other there is = let here : is_among list lists ≡ true = ap (λ k. is_among k lists) is ∙ there in let out = p.once.0 in absurd (cc)

-- the first list by its part
first_parted : (c d n m list : ℕ) (lists : List ℕ) (part : Part) (parts : List Part) (w : Working)
    → list_numbered list w ≡ after (part_numbered part w) (λ u. Ok (rewritten c d u))
    → part_numbered part (rewritten n m w) ≡ after (part_numbered part w) (λ u. Ok (rewritten n m u))
    → ((u : Working) → part_numbered part w ≡ Ok u → in_turn list_numbered lists (rewritten c d u) ≡ in_turn part_numbered parts (rewritten n m u))
    → in_turn list_numbered (list ∷ lists) w ≡ in_turn part_numbered (part ∷ parts) (rewritten n m w)
unfolding in_turn
first_parted c d n m list lists part parts w first same later =
    ap (λ r. after r (in_turn list_numbered lists)) first ∙ by_first (part_numbered part w) later
    ∙ sym (ap (λ r. after r (in_turn part_numbered parts)) same)
  where
    by_first : (r : Result Working Cause)
        → ((u : Working) → r ≡ Ok u → in_turn list_numbered lists (rewritten c d u) ≡ in_turn part_numbered parts (rewritten n m u))
        → after (after r (λ u. Ok (rewritten c d u))) (in_turn list_numbered lists) ≡ after (after r (λ u. Ok (rewritten n m u))) (in_turn part_numbered parts)
    by_first (Err cause) later = refl
    by_first (Ok u) later = later u refl

-- no lists
none_left : (n m : ℕ) (w : Working) → n ≡ 0 → m ≡ 0 → in_turn list_numbered [] w ≡ in_turn part_numbered [] (rewritten n m w)
unfolding in_turn
none_left n m w n_is m_is = ap Ok (sym (ap₂ (λ a b. rewritten a b w) n_is m_is ∙ rewritten-none w))

parted : (lists : List ℕ) (parts : List Part) (w : Working) (n m : ℕ) → AreParted lists parts w
    → n + sum_by (items_of w.forest) parts ≡ sum_by (items_below w.forest) lists
    → m + sum_by (part_characters w.forest) parts ≡ sum_by (characters_below w.forest) lists
    → in_turn list_numbered lists w ≡ in_turn part_numbered parts (rewritten n m w)
parted [] [] w n m p n_is m_is = none_left n m w (omega (arith, n_is)) (omega (arith, m_is))
parted (list ∷ lists) (part ∷ parts) w n m p n_is m_is =
    let f : Forest = w.forest in
    let own : is_at is_list f list ≡ true = first_list list lists (part ∷ parts) w p in
    let here = p.parted.0 in
    let items : List ℕ = part.keys.items in
    let c : ℕ = around (own_items f) f list part.number items here in
    let d : ℕ = around (own_characters f) f list part.number items here in
    let c_is : c + items_of f part ≡ items_below f list = around_whole (own_items f) f list part.number items here in
    let d_is : d + part_characters f part ≡ characters_below f list = around_whole (own_characters f) f list part.number items here in
    let many = sum_by-cons (items_below f) list lists in
    let long = sum_by-cons (characters_below f) list lists in
    let few = sum_by-cons (items_of f) part parts in
    let short = sum_by-cons (part_characters f) part parts in
    let less = parts_fit (own_items f) f lists parts p.parted.1 in
    let shorter = parts_fit (own_characters f) f lists parts p.parted.1 in
    let are : AreItems f items =
    λ q among. items_there f list p.sound own q
    (ap (is_among q) (in_three f list part.number items here) ∙ in_right here.front (items ++ here.behind) q (in_left items here.behind q among)) in
    first_parted c d n m list lists part parts w
    (list_parted list part.number items w p.sound own here (omega (arith, p.fits.0, many), omega (arith, p.fits.1, long)))
    (items_shifted n m part.number items w p.sound are (omega (arith, p.fits.0, n_is, few), omega (arith, p.fits.1, m_is, short)))
    (λ u e.
    let t = items_taken part.number items w u p.sound are e in
    parted lists parts (rewritten c d u) (n - c) (m - d) (parted_next c d list lists part parts w u p t c_is d_is e)
    (omega (
      arith,
      n_is,
      c_is,
      many,
      few,
      less,
      parts-alike own_items items-alike f u.forest t.alike parts,
      sum-alike items_below items_below-alike f u.forest t.alike lists,
    ))
    (omega (
      arith,
      m_is,
      d_is,
      long,
      short,
      shorter,
      parts-alike own_characters item_characters-alike f u.forest t.alike parts,
      sum-alike characters_below characters_below-alike f u.forest t.alike lists,
    ))
    ∙ ap (in_turn part_numbered parts) (rewritten-more c d (n - c) (m - d) u
    ∙ ap₂ (λ x y. rewritten x y u) (omega (arith, n_is, c_is, many, few, less)) (omega (arith, m_is, d_is, long, short, shorter))))
parted [] (part ∷ parts) w n m p n_is m_is = absurd p.parted
parted (list ∷ lists) [] w n m p n_is m_is = absurd p.parted

-- the counts of items that aren't in the parts of lists may be taken before the parts are numbered
pub parts_apart : (lists : List ℕ) (parts : List Part) (w : Working) (n m : ℕ) → IsForest w.forest → IsHeld may_hold w.forest → IsSuited w.forest
    → ((list : ℕ) → is_among list lists ≡ true → is_at is_list w.forest list ≡ true)
    → NoRepeats lists
    → AreParts w.forest lists parts
    → n + sum_by (items_of w.forest) parts ≡ sum_by (items_below w.forest) lists
    → m + sum_by (part_characters w.forest) parts ≡ sum_by (characters_below w.forest) lists
    → HasRoomFor (sum_by (items_below w.forest) lists) (sum_by (characters_below w.forest) lists) w
    → in_turn list_numbered lists w ≡ in_turn part_numbered parts (rewritten n m w)
parts_apart lists parts w n m h held suited are once are_parts n_is m_is fits =
    parted lists parts w n m
    (record { sound = record { in_order = h; held = held; suited = suited }; are = are; once = once; parted = are_parts; fits = fits }) n_is m_is

-- ---- numbers are small

count_few : (t : ℕ → Bool) (xs : List ℕ) → count_by t xs ≤ length xs
count_few t [] = omega arith
count_few t (x ∷ xs) = by_test (t x) (count_by t xs) (count_few t xs) (sum_by-cons (λ q. cond (t q) 1 0) x xs) where
  by_test : (b : Bool) (n : ℕ) → n ≤ length xs → count_by t (x ∷ xs) ≡ cond b 1 0 + n → count_by t (x ∷ xs) ≤ suc (length xs)
  by_test true n few is = omega (arith, few, is)
  by_test false n few is = omega (arith, few, is)

pub part_small : (w : Working) (list : ℕ) (part : Part) → IsWorking w → IsSuited w.forest → IsUnnumberedPart w.forest list part.number part.keys.items → IsPartSmall part
part_small w list part h suited p =
    let start : ℕ = list_start (fields_of w.forest list) in
    omega (
      arith,
      numbers_small w list start (children_of w.forest list) h suited refl refl,
      p.number_is,
      count_few (λ q. not (is_nesting w.forest q)) p.front,
      ap length (in_three w.forest list part.number part.keys.items p),
      length-append p.front (part.keys.items ++ p.behind),
      length-append part.keys.items p.behind,
    )

pub parts_small : (w : Working) (lists : List ℕ) (parts : List Part) → IsWorking w → IsSuited w.forest → AreParts w.forest lists parts → AreSmall parts
parts_small w [] [] h suited are = tt
parts_small w (list ∷ lists) (part ∷ parts) h suited are = (part_small w list part h suited are.0, parts_small w lists parts h suited are.1)
parts_small w [] (part ∷ parts) h suited are = absurd are
parts_small w (list ∷ lists) [] h suited are = absurd are
