-- Children of a list one after another, none of them marked itself, have numbers that go on from the first.
use Rattle.std.proofs.Common.{◌≡◌, ◌∙◌, ℕ, zero, suc, ◌+◌, ◌-◌, ◌<◌, ◌⊎◌, Bool, ◌||◌, true, false, cond, not, List, [], ◌∷◌, ◌++◌, length, take, Option, None, Some, refl, sym, ap, subst, append_assoc, append-nil, length-append, arith, inl, inr}
use Rattle.std.specs.Prelude.{option_map, is_none, IfSome, IfNone}
use Rattle.std.specs.List.{slice_get, count_by}
use Rattle.std.proofs.lemmas.Bool.Decides.{eqb_tells}
use Rattle.std.proofs.lemmas.Option.{same_Some}
use Rattle.std.proofs.lemmas.List.Sums.{sum_by-cons}
use Rattle.lx_trees.specs.Records.{linked}
use Rattle.lx_trees.specs.Siblings.{is_among, is_named, NoRepeats, first_of, last_from, last_of, next_in, previous_in}
use Rattle.lx_trees.specs.Spots.{Spot, parent_at}
use Rattle.lx_trees.proofs.Positions.{is_among-slice_get, first_of-slice_get, last_of-slice_get, next_in-slice_get, previous_in-slice_get, place_in, slice_get-place_in}
use Rattle.lx_trees.proofs.Siblings.{first_of-among, is_among-append}
use Rattle.lx_node.specs.Kinds.{is_list}
use Rattle.lx_marks.specs.Marks.{Marked, is_touched}
use Rattle.lx_forest.specs.Forest.{Forest, Label}
use Rattle.lx_forest.specs.Lookups.{has, spot, fields_of, parent_of, children_of, children_below, siblings, first_child, next_of, previous_of, IsForest}
use Rattle.lx_forest.specs.Records.{Record, record_at}
use Rattle.lx_forest.proofs.Lookups.{is_among-children_of, NoRepeats-children_of, has-parent_of, has-child}
use Rattle.lx_draft.specs.Working.{Working}
use Rattle.lx_blocks.specs.Blocks.{passes, is_at}
use Rattle.lx_list.specs.Began.{BeganNumbered}
use Rattle.lx_list.specs.Nesting.{is_nesting}
use Rattle.lx_list.specs.Numbering.{list_start}
use Rattle.lx_list.specs.Numbered.{item_number, due, IsNumberedList}
use Rattle.lx_list.specs.Parts.{AreUntouched, IsMarkedWindow, number_behind, HaveNumbers, is_end, UntouchedBehind, AreLeft, IsBehind, IsBeginning, IsUnnumberedPart}
use Rattle.lx_list.proofs.Itemless.{spot_known}
use Rattle.lx_list.proofs.Numbered.{parent_there, at-append, next_due}
use Rattle.lx_list.proofs.Stands.{fields_in, kind_kept, nesting_kept}

-- ---- beside whom

after-append : (xs : List ℕ) (q : ℕ) (ys : List ℕ) → slice_get (xs ++ q ∷ ys) (suc (length xs)) ≡ first_of ys
after-append [] q ys = sym (first_of-slice_get ys)
after-append (x ∷ xs) q ys = after-append xs q ys

child_at : (f : Forest) (list q : ℕ) (xs ys : List ℕ) → children_of f list ≡ xs ++ q ∷ ys → slice_get (children_of f list) (length xs) ≡ Some q
child_at f list q xs ys is = ap (λ ks. slice_get ks (length xs)) is ∙ at-append xs q ys

pub child_there : (f : Forest) (list q : ℕ) (xs ys : List ℕ) → IsForest f → children_of f list ≡ xs ++ q ∷ ys → parent_of f q ≡ Some list
child_there f list q xs ys h is = parent_there f list q h (is_among-slice_get (children_of f list) q (length xs) (child_at f list q xs ys is))

pub next_split : (f : Forest) (list q : ℕ) (xs ys : List ℕ) → IsForest f → children_of f list ≡ xs ++ q ∷ ys → next_of f q ≡ first_of ys
next_split f list q xs ys h is =
    ap (λ o. next_in (children_below f o) q) (child_there f list q xs ys h is)
    ∙ next_in-slice_get (children_of f list) q (length xs) (NoRepeats-children_of f list h) (child_at f list q xs ys is)
    ∙ ap (λ ks. slice_get ks (suc (length xs))) is ∙ after-append xs q ys

previous_split : (f : Forest) (list p q : ℕ) (xs ys : List ℕ) → IsForest f → children_of f list ≡ xs ++ p ∷ q ∷ ys → previous_of f q ≡ Some p
previous_split f list p q xs ys h is =
    let at : slice_get (children_of f list) (suc (length xs)) ≡ Some q = ap (λ ks. slice_get ks (suc (length xs))) is ∙ after-append xs p (q ∷ ys) in
    let up : parent_of f q ≡ Some list = parent_there f list q h (is_among-slice_get (children_of f list) q (suc (length xs)) at) in
    ap (λ o. previous_in (children_below f o) q) up
    ∙ previous_in-slice_get (children_of f list) q (length xs) (NoRepeats-children_of f list h) at ∙ child_at f list p xs (q ∷ ys) is

previous_first : (f : Forest) (list q : ℕ) (ys : List ℕ) → IsForest f → children_of f list ≡ q ∷ ys → previous_of f q ≡ None
previous_first f list q ys h is =
    ap (λ o. previous_in (children_below f o) q) (child_there f list q [] ys h is) ∙ ap (λ ks. previous_in ks q) is ∙ grind (arith, eqb_tells q q)

-- ---- one step

next_at : Option Record → Option ℕ
next_at None = None
next_at (Some r) = r.next

next_recorded : (f : Forest) (q : ℕ) (s : Spot Label) → spot f q ≡ Some s → next_at (record_at f q) ≡ next_of f q
unfolding next_at
next_recorded f q s e = ap (λ o. next_at (option_map (linked (siblings f q) q) o)) e

as_before : (w : Working) (b : BeganNumbered w) (q : ℕ) → is_touched w.marks q ≡ false
    → (spot w.forest q ≡ spot b.before q) × (record_at w.forest q ≡ record_at b.before q)
as_before w b q free = by_seen (b.marks.seen q) where
  by_seen : ((spot w.forest q ≡ spot b.before q) × (record_at w.forest q ≡ record_at b.before q)) ⊎ (is_touched w.marks q ≡ true)
      → (spot w.forest q ≡ spot b.before q) × (record_at w.forest q ≡ record_at b.before q)
  by_seen (inl same) = same
  by_seen (inr marked) = absurd (cc)

count-next : (p : ℕ → Bool) (xs : List ℕ) (i x : ℕ) → slice_get xs i ≡ Some x → count_by p (take (suc i) xs) ≡ count_by p (take i xs) + cond (p x) 1 0
count-next p [] i x at = absurd (grind arith)
count-next p (y ∷ xs) zero x at =
    let same : y ≡ x = same_Some y x at in
    sum_by-cons (λ q. cond (p q) 1 0) y [] ∙ ap (λ q. cond (p q) 1 0 + 0) same ∙ omega arith
count-next p (y ∷ xs) (suc i) x at =
    omega (arith, sum_by-cons (λ q. cond (p q) 1 0) y (take (suc i) xs), sum_by-cons (λ q. cond (p q) 1 0) y (take i xs), count-next p xs i x at)

due_next : (f : Forest) (list i x : ℕ) → slice_get (children_of f list) i ≡ Some x
    → due f list (suc i) ≡ cond (is_nesting f x) (due f list i) (due f list i + 1)
due_next f list i x at =
    ap (λ n. list_start (fields_of f list) + n) (count-next (λ q. not (is_nesting f q)) (children_of f list) i x at)
    ∙ by_nesting (is_nesting f x) (list_start (fields_of f list)) (count_by (λ q. not (is_nesting f q)) (take i (children_of f list)))
  where
    by_nesting : (b : Bool) (n m : ℕ) → n + (m + cond (not b) 1 0) ≡ cond b (n + m) (n + m + 1)
    by_nesting true n m = omega arith
    by_nesting false n m = omega arith

-- what is right behind an item came right behind it before
steps_on : (w : Working) (b : BeganNumbered w) (list x y n : ℕ) → is_at is_list w.forest list ≡ true → parent_of w.forest x ≡ Some list
    → next_of w.forest x ≡ Some y → is_touched w.marks x ≡ false → is_touched w.marks y ≡ false → item_number (fields_of w.forest x) ≡ Some n
    → item_number (fields_of w.forest y) ≡ Some (cond (is_nesting w.forest x) n (n + 1))
steps_on w b list x y n is up_now next_now free also_free has_n =
    let f : Forest = b.before in
    let kids : List ℕ = children_of f list in
    let first = as_before w b x free in
    let second = as_before w b y also_free in
    let up : parent_of f x ≡ Some list = sym (ap parent_at first.0) ∙ up_now in
    let known = spot_known w.forest x (has-child w.forest x list up_now) in
    let next : next_of f x ≡ Some y =
    sym (next_recorded f x known.0 (sym first.0 ∙ known.1)) ∙ sym (ap next_at first.1) ∙ next_recorded w.forest x known.0 known.1 ∙ next_now in
    let beside : next_in kids x ≡ Some y = sym (ap (λ o. next_in (children_below f o) x) up) ∙ next in
    let there : has list f ≡ true = has-parent_of f x list up in
    let was : is_at is_list f list ≡ true = sym (ap (passes is_list) (kind_kept w b list there)) ∙ is in
    let numbered : IsNumberedList f list = b.numbered.each list (b.whole list there) was in
    let among : is_among x kids ≡ true = is_among-children_of f x list b.in_order ∙ ap (λ o. is_named o list) up ∙ grind (arith, eqb_tells list list) in
    let i : ℕ = place_in kids x in
    let at : slice_get kids i ≡ Some x = slice_get-place_in kids x among in
    let behind : slice_get kids (suc i) ≡ Some y = sym (next_in-slice_get kids x i (NoRepeats-children_of f list b.in_order) at) ∙ beside in
    let n_is : due f list i ≡ n = same_Some (due f list i) n (sym (numbered i x at) ∙ sym (ap (λ o. item_number (fields_in o)) first.0) ∙ has_n) in
    ap (λ o. item_number (fields_in o)) second.0 ∙ numbered (suc i) y behind ∙ ap Some (due_next f list i x at)
    ∙ ap (λ m. Some (cond (is_nesting f x) m (m + 1))) n_is ∙ ap (λ t. Some (cond t n (n + 1))) (sym (nesting_kept w b x first.0))

-- ---- a run

first-append : (xs ys : List ℕ) (q : ℕ) → first_of xs ≡ Some q → first_of (xs ++ ys) ≡ Some q
first-append [] ys q e = absurd (grind arith)
first-append (x ∷ xs) ys q e = e

pub run_numbered : (w : Working) → BeganNumbered w → IsForest w.forest → (list : ℕ) → is_at is_list w.forest list ≡ true → (xs zs more : List ℕ) (n : ℕ)
    → children_of w.forest list ≡ xs ++ (zs ++ more) → AreUntouched w.marks zs
    → ((q : ℕ) → first_of zs ≡ Some q → item_number (fields_of w.forest q) ≡ Some n) → HaveNumbers w.forest n zs
run_numbered w b h list is xs [] more n all free first = tt
run_numbered w b h list is xs (x ∷ zs) more n all free first =
    let next : ℕ = cond (is_nesting w.forest x) n (n + 1) in
    let up : parent_of w.forest x ≡ Some list = child_there w.forest list x xs (zs ++ more) h all in
    let own : is_touched w.marks x ≡ false = free x (grind (arith, eqb_tells x x)) in
    let rest : AreUntouched w.marks zs = λ q among. free q (grind (arith, among)) in (
      first x refl,
      run_numbered w b h list is (xs ++ x ∷ []) zs more next (all ∙ sym (append_assoc xs (x ∷ []) (zs ++ more))) rest
          (λ q e. steps_on w b list x q n is up (next_split w.forest list x xs (zs ++ more) h all ∙ first-append zs more q e) own
          (rest q (first_of-among zs q e)) (first x refl)),
    )

-- ---- the number behind a run

behind-first : (f : Forest) (n x : ℕ) (xs : List ℕ) → number_behind f (cond (is_nesting f x) n (n + 1)) xs ≡ number_behind f n (x ∷ xs)
behind-first f n x xs =
    by_nesting (is_nesting f x) (count_by (λ q. not (is_nesting f q)) xs) ∙ ap (λ m. n + m) (sym (sum_by-cons (λ q. cond (not (is_nesting f q)) 1 0) x xs))
  where
    by_nesting : (b : Bool) (m : ℕ) → cond b n (n + 1) + m ≡ n + (cond (not b) 1 0 + m)
    by_nesting true m = omega arith
    by_nesting false m = omega arith

last_has : (f : Forest) (n : ℕ) (xs : List ℕ) (x : ℕ) → HaveNumbers f n (xs ++ x ∷ []) → item_number (fields_of f x) ≡ Some (number_behind f n xs)
last_has f n [] x have = have.0 ∙ ap Some (omega arith)
last_has f n (y ∷ xs) x have = last_has f (cond (is_nesting f y) n (n + 1)) xs x have.1 ∙ ap Some (behind-first f n y xs)

-- it is the number behind the last
behind_last : (f : Forest) (n next : ℕ) (xs : List ℕ) (x : ℕ) → HaveNumbers f n (xs ++ x ∷ []) → IsBehind f x next → next ≡ number_behind f n (xs ++ x ∷ [])
behind_last f n next xs x have behind =
    let own : behind.0 ≡ number_behind f n xs = same_Some behind.0 (number_behind f n xs) (sym behind.1 ∙ last_has f n xs x have) in
    behind.2 ∙ ap (λ m. cond (is_nesting f x) m (m + 1)) own ∙ next_due f x n xs

-- ---- where a part begins

-- at the first item of all
begin_first : (w : Working) (list : ℕ) (window : Option (ℕ × ℕ)) → AreLeft w.marks window (is_none window) (children_of w.forest list)
    → IsBeginning w list window (first_child w.forest list) (list_start (fields_of w.forest list))
begin_first w list window left = record {
  front = [];
  left = children_of w.forest list;
  children = refl;
  from_is = refl;
  number_is = omega arith;
  front_numbered = tt;
  ends = left;
}

pub begin_untouched : (w : Working) (list : ℕ) → AreUntouched w.marks (children_of w.forest list)
    → IsBeginning w list None (first_child w.forest list) (list_start (fields_of w.forest list))
begin_untouched w list free = begin_first w list None free

last_among : (k : ℕ) (xs : List ℕ) → last_of xs ≡ Some k → is_among k xs ≡ true
last_among k [] e = absurd (grind arith)
last_among k (x ∷ xs) e = is_among-slice_get (x ∷ xs) k (length xs) (sym (last_of-slice_get x xs) ∙ e)

last-append : (o : Option ℕ) (xs : List ℕ) (y : ℕ) (ys : List ℕ) → last_from o (xs ++ y ∷ ys) ≡ last_from (Some y) ys
last-append o [] y ys = refl
last-append o (x ∷ xs) y ys = last-append (Some x) xs y ys

repeats_back : (xs ys : List ℕ) → NoRepeats (xs ++ ys) → NoRepeats ys
repeats_back [] ys once = once
repeats_back (x ∷ xs) ys once = repeats_back xs ys once.1

repeats_front : (xs ys : List ℕ) → NoRepeats (xs ++ ys) → NoRepeats xs
repeats_front [] ys once = tt
repeats_front (x ∷ xs) ys once = (grind (arith, once.0, is_among-append x xs ys), repeats_front xs ys once.1)

-- what is behind the last of a window is untouched
behind_end : (m : Marked) (ends : ℕ × ℕ) (xs ys : List ℕ) → NoRepeats xs → last_of xs ≡ Some ends.1 → AreUntouched m ys
    → UntouchedBehind m (Some ends) (xs ++ ys)
behind_end m ends [] ys once last free = absurd (grind arith)
behind_end m ends (x ∷ []) ys once last free =
    let same : x ≡ ends.1 = same_Some x ends.1 last in
    (λ e. free, λ e. absurd (grind (arith, e, same, eqb_tells x ends.1)))
behind_end m ends (x ∷ y ∷ xs) ys once last free =
    let among : is_among ends.1 (y ∷ xs) ≡ true = last_among ends.1 (y ∷ xs) last in
    (λ e. absurd (not_here among e), λ e. behind_end m ends (y ∷ xs) ys once.1 last free)
  where
    not_here : is_among ends.1 (y ∷ xs) ≡ true → is_end (Some ends) x ≡ true → ⊥
    not_here among e =
        let same : x ≡ ends.1 = grind (arith, e, eqb_tells x ends.1) in
        let clash : true ≡ false = sym among ∙ sym (ap (λ q. is_among q (y ∷ xs)) same) ∙ once.0 in
        absurd (cc)

-- a window's last comes behind its first, also with what is before it
window_left : (w : Working) (list : ℕ) (ends : ℕ × ℕ) (win : IsMarkedWindow w.forest w.marks list ends.0 ends.1) → IsForest w.forest
    → UntouchedBehind w.marks (Some ends) (win.within ++ win.behind) × UntouchedBehind w.marks (Some ends) (children_of w.forest list)
window_left w list ends win h =
    let once : NoRepeats ((win.front ++ win.within) ++ win.behind) = subst NoRepeats win.children (NoRepeats-children_of w.forest list h) in
    let wide : NoRepeats (win.front ++ win.within) = repeats_front (win.front ++ win.within) win.behind once in (
      behind_end w.marks ends win.within win.behind (repeats_back win.front win.within wide) win.last_is win.behind_untouched,
      subst (UntouchedBehind w.marks (Some ends)) (sym win.children)
          (behind_end w.marks ends (win.front ++ win.within) win.behind wide (last_there win.within win.last_is) win.behind_untouched),
    )
  where
    last_there : (xs : List ℕ) → last_of xs ≡ Some ends.1 → last_of (win.front ++ xs) ≡ Some ends.1
    last_there [] e = absurd (grind arith)
    last_there (x ∷ xs) e = last-append None win.front x xs ∙ e

pub begin_all : (w : Working) (list : ℕ) (ends : ℕ × ℕ) → IsMarkedWindow w.forest w.marks list ends.0 ends.1 → IsForest w.forest
    → IsBeginning w list (Some ends) (first_child w.forest list) (list_start (fields_of w.forest list))
begin_all w list ends win h = begin_first w list (Some ends) (window_left w list ends win h).1

-- at the first of the window, where the first of all has its number
from_end : (x : ℕ) (xs : List ℕ) → (ys : List ℕ) × (y : ℕ) × (x ∷ xs ≡ ys ++ y ∷ [])
from_end x [] = ([], x, refl)
from_end x (z ∷ xs) = let rest = from_end z xs in (x ∷ rest.0, rest.1, ap (λ ks. x ∷ ks) rest.2)

pub begin_within : (w : Working) → BeganNumbered w → (list : ℕ) (ends : ℕ × ℕ) (before number : ℕ) → IsForest w.forest → is_at is_list w.forest list ≡ true
    → IsMarkedWindow w.forest w.marks list ends.0 ends.1 → previous_of w.forest ends.0 ≡ Some before
    → ((q : ℕ) → first_child w.forest list ≡ Some q → item_number (fields_of w.forest q) ≡ Some (list_start (fields_of w.forest list)))
    → IsBehind w.forest before number → IsBeginning w list (Some ends) (Some ends.0) number
begin_within w b list ends before number h is win previous first behind =
    by_parts win.front win.within (win.children ∙ append_assoc win.front win.within win.behind)
    win.first_is win.front_untouched (window_left w list ends win h).0
  where
    by_parts : (front within : List ℕ) → children_of w.forest list ≡ front ++ (within ++ win.behind) → first_of within ≡ Some ends.0
        → AreUntouched w.marks front → UntouchedBehind w.marks (Some ends) (within ++ win.behind) → IsBeginning w list (Some ends) (Some ends.0) number
    by_parts front [] all leads free left = absurd (grind arith)
    by_parts [] (y ∷ ys) all leads free left =
        let same : y ≡ ends.0 = same_Some y ends.0 leads in
        let none : previous_of w.forest ends.0 ≡ None = ap (previous_of w.forest) (sym same) ∙ previous_first w.forest list y (ys ++ win.behind) h all in
        let clash : Some before ≡ None = sym previous ∙ none in
        absurd (cc)
    by_parts (x ∷ xs) (y ∷ ys) all leads free left =
        let same : y ≡ ends.0 = same_Some y ends.0 leads in
        let have : HaveNumbers w.forest (list_start (fields_of w.forest list)) (x ∷ xs) =
        run_numbered w b h list is [] (x ∷ xs) ((y ∷ ys) ++ win.behind) (list_start (fields_of w.forest list)) all free
        (λ q e. first q (ap first_of all ∙ e)) in
        let cut = from_end x xs in
        let last_all : children_of w.forest list ≡ cut.0 ++ cut.1 ∷ y ∷ (ys ++ win.behind) =
        all ∙ ap (λ ks. ks ++ ((y ∷ ys) ++ win.behind)) cut.2 ∙ append_assoc cut.0 (cut.1 ∷ []) ((y ∷ ys) ++ win.behind) in
        let last : previous_of w.forest ends.0 ≡ Some cut.1 =
        ap (previous_of w.forest) (sym same) ∙ previous_split w.forest list cut.1 y cut.0 (ys ++ win.behind) h last_all in
        let before_is : cut.1 ≡ before = same_Some cut.1 before (sym last ∙ previous) in
        record {
          front = x ∷ xs;
          left = (y ∷ ys) ++ win.behind;
          children = all;
          from_is = ap Some (sym same);
          number_is = behind_last w.forest (list_start (fields_of w.forest list)) number cut.0 cut.1
              (subst (HaveNumbers w.forest (list_start (fields_of w.forest list))) cut.2 have)
              (subst (λ k. IsBehind w.forest k number) (sym before_is) behind)
              ∙ ap (number_behind w.forest (list_start (fields_of w.forest list))) (sym cut.2);
          front_numbered = have;
          ends = left;
        }

-- with what is known of a window
pub begins_within : (w : Working) → BeganNumbered w → (list : ℕ) (window : Option (ℕ × ℕ)) (first before number : ℕ) → IsForest w.forest
    → is_at is_list w.forest list ≡ true → IfSome window (λ ends. IsMarkedWindow w.forest w.marks list ends.0 ends.1)
    → option_map (λ (e : ℕ × ℕ). e.0) window ≡ Some first
    → previous_of w.forest first ≡ Some before
    → ((q : ℕ) → first_child w.forest list ≡ Some q → item_number (fields_of w.forest q) ≡ Some (list_start (fields_of w.forest list)))
    → IsBehind w.forest before number → IsBeginning w list window (Some first) number
begins_within w b list None first before number h is some win previous starts behind = absurd (cc)
begins_within w b list (Some ends) first before number h is some win previous starts behind =
    let same : ends.0 ≡ first = same_Some ends.0 first win in
    subst (λ k. IsBeginning w list (Some ends) (Some k) number) same
    (begin_within w b list ends before number h is some (ap (previous_of w.forest) same ∙ previous) starts behind)

-- whatever the window is
pub begins_first : (w : Working) (list : ℕ) (window : Option (ℕ × ℕ)) (from : Option ℕ) (number : ℕ) → IsForest w.forest
    → IfSome window (λ ends. IsMarkedWindow w.forest w.marks list ends.0 ends.1) → IfNone window (AreUntouched w.marks (children_of w.forest list))
    → from ≡ first_child w.forest list → number ≡ list_start (fields_of w.forest list) → IsBeginning w list window from number
begins_first w list None from number h some none from_is number_is =
    subst (λ o. IsBeginning w list None o number) (sym from_is) (subst (IsBeginning w list None (first_child w.forest list)) (sym number_is)
    (begin_untouched w list none))
begins_first w list (Some ends) from number h some none from_is number_is =
    subst (λ o. IsBeginning w list (Some ends) o number) (sym from_is) (subst (IsBeginning w list (Some ends) (first_child w.forest list)) (sym number_is)
    (begin_all w list ends some h))

-- ---- on the way

-- these were gathered, and the next one is to have this number
pub record IsGathering (w : Working) (list : ℕ) (window : Option (ℕ × ℕ)) (number : ℕ) (keys : List ℕ) (now : ℕ) (is_past : Bool) (at : Option ℕ) : Type 0 where
  pub front : List ℕ
  pub left : List ℕ
  pub children : children_of w.forest list ≡ front ++ (keys ++ left)
  pub at_is : at ≡ first_of left
  pub number_is : number ≡ number_behind w.forest (list_start (fields_of w.forest list)) front
  pub front_numbered : HaveNumbers w.forest (list_start (fields_of w.forest list)) front
  pub due_is : now ≡ number_behind w.forest number keys
  pub ends : AreLeft w.marks window is_past left

pub gathering_begins : (w : Working) (list : ℕ) (window : Option (ℕ × ℕ)) (from : Option ℕ) (number : ℕ) → IsBeginning w list window from number
    → IsGathering w list window number [] number (is_none window) from
gathering_begins w list window from number b = record {
  front = b.front;
  left = b.left;
  children = b.children;
  at_is = b.from_is;
  number_is = b.number_is;
  front_numbered = b.front_numbered;
  due_is = omega arith;
  ends = b.ends;
}

-- the same, by other names
pub gathering_as : (w : Working) (list : ℕ) (window : Option (ℕ × ℕ)) (number now : ℕ) {keys ks : List ℕ} {past p : Bool} {at o : Option ℕ}
    → ks ≡ keys → p ≡ past → o ≡ at → IsGathering w list window number keys now past at → IsGathering w list window number ks now p o
gathering_as w list window number now {ks = ks} {past = past} {p = p} {at = at} items passed next g =
    subst (IsGathering w list window number ks now p) (sym next)
    (subst (λ t. IsGathering w list window number ks now t at) (sym passed)
    (subst (λ xs. IsGathering w list window number xs now past at) (sym items) g))

one_left : (xs : List ℕ) (q : ℕ) → Some q ≡ first_of xs → (ys : List ℕ) × (xs ≡ q ∷ ys)
one_left [] q e = absurd (cc)
one_left (x ∷ xs) q e = (xs, ap (λ k. k ∷ xs) (sym (same_Some q x e)))

left_next : (m : Marked) (window : Option (ℕ × ℕ)) (is_past : Bool) (q : ℕ) (xs : List ℕ) → AreLeft m window is_past (q ∷ xs)
    → AreLeft m window (is_past || is_end window q) xs
left_next m window true q xs free = λ k among. free k (grind (arith, among))
left_next m window false q xs free = by_end (is_end window q) refl where
  by_end : (b : Bool) → is_end window q ≡ b → AreLeft m window b xs
  by_end true e = free.0 e
  by_end false e = free.1 e

pub gathers_one : (w : Working) (list : ℕ) (window : Option (ℕ × ℕ)) (number : ℕ) (keys : List ℕ) (now next : ℕ) (is_past : Bool) (at : Option ℕ) (item : ℕ)
    → IsForest w.forest → IsGathering w list window number keys now is_past at → at ≡ Some item → next ≡ cond (is_nesting w.forest item) now (now + 1)
    → IsGathering w list window number (keys ++ item ∷ []) next (is_past || is_end window item) (next_of w.forest item)
gathers_one w list window number keys now next is_past at item h g here next_is =
    let cut = one_left g.left item (sym here ∙ g.at_is) in
    let rest : List ℕ = cut.0 in
    let all : children_of w.forest list ≡ g.front ++ (keys ++ item ∷ rest) = g.children ∙ ap (λ ks. g.front ++ (keys ++ ks)) cut.1 in
    record {
      front = g.front;
      left = rest;
      children = all ∙ ap (λ ks. g.front ++ ks) (sym (append_assoc keys (item ∷ []) rest));
      at_is = next_split w.forest list item (g.front ++ keys) rest h (all ∙ sym (append_assoc g.front keys (item ∷ rest)));
      number_is = g.number_is;
      front_numbered = g.front_numbered;
      due_is = next_is ∙ ap (λ n. cond (is_nesting w.forest item) n (n + 1)) g.due_is ∙ next_due w.forest item number keys;
      ends = left_next w.marks window is_past item rest (subst (AreLeft w.marks window is_past) cut.1 g.ends);
    }

-- fewer are left
pub gathered_fewer : (w : Working) (list : ℕ) (window : Option (ℕ × ℕ)) (number : ℕ) (keys : List ℕ) (now : ℕ) (is_past : Bool) (at : Option ℕ) (item : ℕ)
    → IsGathering w list window number keys now is_past at → at ≡ Some item
    → length (children_of w.forest list) - length (keys ++ item ∷ []) < length (children_of w.forest list) - length keys
gathered_fewer w list window number keys now is_past at item g here =
    let cut = one_left g.left item (sym here ∙ g.at_is) in
    omega (arith, ap length g.children, length-append g.front (keys ++ g.left), length-append keys g.left, ap length cut.1, length-append keys (item ∷ []))

-- the items behind have their numbers where none is left, and where the first of them has its number behind a window
pub gathered_all : (w : Working) (list : ℕ) (window : Option (ℕ × ℕ)) (number : ℕ) (keys : List ℕ) (now : ℕ) (is_past : Bool)
    → IsGathering w list window number keys now is_past None → IsUnnumberedPart w.forest list number keys
gathered_all w list window number keys now is_past g = record {
  front = g.front;
  behind = g.left;
  children = g.children ∙ sym (append_assoc g.front keys g.left);
  number_is = g.number_is;
  front_numbered = g.front_numbered;
  behind_numbered = by_left g.left g.at_is;
} where
  by_left : (xs : List ℕ) → None ≡ first_of xs → HaveNumbers w.forest (number_behind w.forest number keys) xs
  by_left [] e = tt
  by_left (x ∷ xs) e = absurd (cc)

pub gathered_part : (w : Working) → BeganNumbered w → (list : ℕ) (window : Option (ℕ × ℕ)) (number : ℕ) (keys : List ℕ) (now : ℕ) (is_past : Bool)
    (at : Option ℕ) (item : ℕ) → IsForest w.forest → is_at is_list w.forest list ≡ true → IsGathering w list window number keys now is_past at
    → is_past ≡ true → at ≡ Some item → item_number (fields_of w.forest item) ≡ Some now → IsUnnumberedPart w.forest list number keys
gathered_part w b list window number keys now is_past at item h is g past here has = record {
  front = g.front;
  behind = g.left;
  children = g.children ∙ sym (append_assoc g.front keys g.left);
  number_is = g.number_is;
  front_numbered = g.front_numbered;
  behind_numbered =
      run_numbered w b h list is (g.front ++ keys) g.left [] (number_behind w.forest number keys)
      (g.children ∙ sym (append_assoc g.front keys g.left) ∙ ap (λ ks. (g.front ++ keys) ++ ks) (sym (append-nil g.left)))
      (subst (λ t. AreLeft w.marks window t g.left) past g.ends)
      (λ q e. ap (λ k. item_number (fields_of w.forest k)) (same_Some q item (sym e ∙ sym g.at_is ∙ here)) ∙ has ∙ ap Some g.due_is);
}
