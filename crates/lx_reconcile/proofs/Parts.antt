-- The moves of a part of two lists of children: between a front and a back that stay they make the one list of the other.
use Rattle.std.proofs.Common.{◌≡◌, ◌∙◌, ◌||◌, ℕ, Bool, true, false, List, [], ◌∷◌, ◌++◌, map, Option, None, Some, refl, sym, ap, subst, arith, append-nil, append_assoc, inl, inr}
use Rattle.std.specs.List.{AllByRecursion, list_any}
use Rattle.std.proofs.lemmas.Bool.{cases_Bool}
use Rattle.std.proofs.lemmas.Bool.Decides.{eqb_tells}
use Rattle.std.proofs.lemmas.List.{append_cancel_left, append_cancel_right}
use Rattle.std.proofs.lemmas.List.Elements.{All-append, All-from_recursion, recursion_from_All}
use Rattle.std.proofs.lemmas.List.Folds.{list_any-append}
use Rattle.lx_trees.specs.Siblings.{is_among, is_named, is_place, NoRepeats, first_of, names_without, names_with}
use Rattle.lx_trees.proofs.Siblings.{is_among-append, is_among-names_without, names_without-absent_list}
use Rattle.lx_trees.proofs.Positions.{NoRepeats-names_without}
use Rattle.lx_reconcile.specs.declared.moves.Move.{Move}
use Rattle.lx_reconcile.specs.declared.moves.Move.TheVariants.{Stay, Leave, Make, Place}
use Rattle.lx_reconcile.specs.Walk.{child_of, before_of, moved, can_move, suits_children, is_placing, all_moved, CanAllMove, standing, leaving, is_waiting, BeforeUnhandled, common, missing, IsWalk, toward, IsPart}
use Rattle.lx_reconcile.proofs.Lists.{is_among-missing, common-append, missing-append, common-all, names_without-append, names_with-first, NoRepeats-right, apart}
use Rattle.lx_reconcile.proofs.InTurn.{NoRepeats-moved, standing-append, leaving-append, children_among, all_moved-append, CanAllMove-append}
use Rattle.lx_reconcile.proofs.Staying as staying
use Rattle.lx_reconcile.proofs.Staying.{all_staying}

-- ---- names between a front and a back

among_all : (front ks back : List ℕ) (q : ℕ) → is_among q (front ++ (ks ++ back)) ≡ (is_among q front || (is_among q ks || is_among q back))
among_all front ks back q = is_among-append q front (ks ++ back) ∙ ap (λ b. is_among q front || b) (is_among-append q ks back)

without_between : (k : ℕ) (front ks back : List ℕ) → is_among k front ≡ false → is_among k back ≡ false →
    names_without k (front ++ (ks ++ back)) ≡ front ++ (names_without k ks ++ back)
without_between k front ks back f b =
    names_without-append k front (ks ++ back)
    ∙ ap (λ xs. xs ++ names_without k (ks ++ back)) (names_without-absent_list k front f)
    ∙ ap (λ xs. front ++ xs) (names_without-append k ks back ∙ ap (λ xs. names_without k ks ++ xs) (names_without-absent_list k back b))

with_behind : (before : Option ℕ) (new front ks : List ℕ) → ((q : ℕ) → is_named before q ≡ true → is_among q front ≡ false) →
    names_with before new (front ++ ks) ≡ front ++ names_with before new ks
with_behind before new [] ks far = refl
with_behind before new (x ∷ front) ks far =
    grind (arith, far x, eqb_tells x x, with_behind before new front ks (λ q e. grind (arith, far q e)))

with_before : (b : ℕ) (new ks back : List ℕ) → is_among b ks ≡ true → names_with (Some b) new (ks ++ back) ≡ names_with (Some b) new ks ++ back
with_before b new [] back e = absurd (grind (arith, e))
with_before b new (x ∷ ks) back e = grind (arith, e, eqb_tells x b, eqb_tells b x, append_assoc new (x ∷ ks) back, with_before b new ks back)

with_last : (new ks : List ℕ) → names_with None new ks ≡ ks ++ new
with_last new [] = refl
with_last new (x ∷ ks) = ap (λ xs. x ∷ xs) (with_last new ks)

-- a child that comes before another one of these comes before it in the whole, and one that comes to their end before the back
with_named : (b : ℕ) (new front ks back : List ℕ) → NoRepeats (front ++ (ks ++ back)) → is_among b ks ≡ true →
    names_with (Some b) new (front ++ (ks ++ back)) ≡ front ++ (names_with (Some b) new ks ++ back)
with_named b new front ks back once e =
    with_behind (Some b) new front (ks ++ back) (λ q h. grind (arith, e, h, eqb_tells q b, is_among-append q ks back, apart front (ks ++ back) q once))
    ∙ ap (λ xs. front ++ xs) (with_before b new ks back e)

end_among : (back : List ℕ) (q : ℕ) → is_named (first_of back) q ≡ true → is_among q back ≡ true
end_among [] q e = absurd (grind (arith, e))
end_among (b ∷ back) q e = grind (arith, e, eqb_tells q b, eqb_tells b q)

with_end : (new front ks back : List ℕ) → NoRepeats (front ++ (ks ++ back)) →
    names_with (first_of back) new (front ++ (ks ++ back)) ≡ front ++ (names_with None new ks ++ back)
with_end new front ks back once =
    with_behind (first_of back) new front (ks ++ back) (λ q h. grind (arith, end_among back q h, is_among-append q ks back, apart front (ks ++ back) q once))
    ∙ ap (λ xs. front ++ xs) (names_with-first new ks back (NoRepeats-right front (ks ++ back) once) ∙ ap (λ xs. xs ++ back) (sym (with_last new ks)))

end_is_place : (front ks back : List ℕ) → is_place (first_of back) (front ++ (ks ++ back)) ≡ true
end_is_place front ks [] = refl
end_is_place front ks (b ∷ back) = among_all front ks (b ∷ back) b ∙ grind (arith, eqb_tells b b)

-- ---- one move between a front and a back

-- it can be made in the whole
can_toward : (m : Move) (front ks back : List ℕ) → NoRepeats (front ++ (ks ++ back)) → is_among (child_of m) front ≡ false → is_among (child_of m) back ≡ false
    →
    can_move m ks ≡ true → can_move (toward (first_of back) m) (front ++ (ks ++ back)) ≡ true
can_toward (Stay k) front ks back once f b e = grind (arith, e, among_all front ks back k)
can_toward (Leave k) front ks back once f b e = grind (arith, e, among_all front ks back k)
can_toward (Make k None) front ks back once f b e = grind (arith, e, f, b, among_all front ks back k, end_is_place front ks back)
can_toward (Make k (Some c)) front ks back once f b e = grind (arith, e, f, b, among_all front ks back k, among_all front ks back c)
can_toward (Place k None) front ks back once f b e = grind (arith, e, b, among_all front ks back k, end_is_place front ks back, end_among back k)
can_toward (Place k (Some c)) front ks back once f b e = grind (arith, e, among_all front ks back k, among_all front ks back c)

-- and does there what it does between them
moved_toward : (m : Move) (front ks back : List ℕ) → NoRepeats (front ++ (ks ++ back)) → is_among (child_of m) front ≡ false
    → is_among (child_of m) back ≡ false →
    can_move m ks ≡ true → moved (toward (first_of back) m) (front ++ (ks ++ back)) ≡ front ++ (moved m ks ++ back)
moved_toward (Stay k) front ks back once f b e = refl
moved_toward (Leave k) front ks back once f b e = without_between k front ks back f b
moved_toward (Make k None) front ks back once f b e = with_end (k ∷ []) front ks back once
moved_toward (Make k (Some c)) front ks back once f b e = with_named c (k ∷ []) front ks back once (grind (arith, e))
moved_toward (Place k before) front ks back once f b e = placed before e where
  less : names_without k (front ++ (ks ++ back)) ≡ front ++ (names_without k ks ++ back)
  less = without_between k front ks back f b

  less_once : NoRepeats (front ++ (names_without k ks ++ back))
  less_once = subst NoRepeats less (NoRepeats-names_without k (front ++ (ks ++ back)) once)

  placed : (before : Option ℕ) → can_move (Place k before) ks ≡ true →
      moved (toward (first_of back) (Place k before)) (front ++ (ks ++ back)) ≡ front ++ (names_with before (k ∷ []) (names_without k ks) ++ back)
  placed None e = ap (names_with (first_of back) (k ∷ [])) less ∙ with_end (k ∷ []) front (names_without k ks) back less_once
  placed (Some c) e =
      ap (names_with (Some c) (k ∷ [])) less
      ∙ with_named c (k ∷ []) front (names_without k ks) back less_once (grind (arith, e, is_among-names_without k c ks, eqb_tells c k, eqb_tells k c))

-- ---- the moves between a front and a back, one after another

-- these children are in neither
abbrev AreApart : List ℕ → List ℕ → List ℕ → Type 0
AreApart ks front back = (q : ℕ) → is_among q ks ≡ true → (is_among q front ≡ false) × (is_among q back ≡ false)

first_apart : (k : ℕ) (ks front back : List ℕ) → AreApart (k ∷ ks) front back → (is_among k front ≡ false) × (is_among k back ≡ false)
first_apart k ks front back far = far k (grind (arith, eqb_tells k k))

rest_apart : (k : ℕ) (ks front back : List ℕ) → AreApart (k ∷ ks) front back → AreApart ks front back
rest_apart k ks front back far = λ q e. far q (grind (arith, e))

all_toward : (ms : List Move) (front ks back : List ℕ) → NoRepeats (front ++ (ks ++ back)) → AreApart (map child_of ms) front back → CanAllMove ms ks →
    CanAllMove (map (toward (first_of back)) ms) (front ++ (ks ++ back))
    × (all_moved (map (toward (first_of back)) ms) (front ++ (ks ++ back)) ≡ front ++ (all_moved ms ks ++ back))
all_toward [] front ks back once far can = (tt, refl)
all_toward (m ∷ ms) front ks back once far can =
    let own = first_apart (child_of m) (map child_of ms) front back far in
    let now : can_move (toward (first_of back) m) (front ++ (ks ++ back)) ≡ true = can_toward m front ks back once own.0 own.1 can.0 in
    let to : moved (toward (first_of back) m) (front ++ (ks ++ back)) ≡ front ++ (moved m ks ++ back) = moved_toward m front ks back once own.0 own.1 can.0 in
    let rest = all_toward ms front (moved m ks) back (subst NoRepeats to (NoRepeats-moved (toward (first_of back) m) (front ++ (ks ++ back)) now once))
    (rest_apart (child_of m) (map child_of ms) front back far) can.1 in
    ((now, subst (CanAllMove (map (toward (first_of back)) ms)) (sym to) rest.0), ap (all_moved (map (toward (first_of back)) ms)) to ∙ rest.1)

standing_toward : (end : Option ℕ) (ms : List Move) → standing (map (toward end) ms) ≡ standing ms
standing_toward end [] = refl
standing_toward end (Leave k ∷ ms) = standing_toward end ms
standing_toward end (Make k None ∷ ms) = ap (λ ks. k ∷ ks) (standing_toward end ms)
standing_toward end (Place k None ∷ ms) = ap (λ ks. k ∷ ks) (standing_toward end ms)
standing_toward end (m ∷ ms) = ap (λ ks. child_of m ∷ ks) (standing_toward end ms)

leaving_toward : (end : Option ℕ) (ms : List Move) → leaving (map (toward end) ms) ≡ leaving ms
leaving_toward end [] = refl
leaving_toward end (Leave k ∷ ms) = ap (λ ks. k ∷ ks) (leaving_toward end ms)
leaving_toward end (Make k None ∷ ms) = leaving_toward end ms
leaving_toward end (Place k None ∷ ms) = leaving_toward end ms
leaving_toward end (_ ∷ ms) = leaving_toward end ms

placing_toward : (end : Option ℕ) (ms : List Move) → list_any is_placing (map (toward end) ms) ≡ list_any is_placing ms
placing_toward end [] = refl
placing_toward end (Make k None ∷ ms) = placing_toward end ms
placing_toward end (Place k None ∷ ms) = refl
placing_toward end (Place k (Some b) ∷ ms) = refl
placing_toward end (_ ∷ ms) = placing_toward end ms

child_toward : (end : Option ℕ) (m : Move) → child_of (toward end m) ≡ child_of m
child_toward end (Make k None) = refl
child_toward end (Place k None) = refl
child_toward end _ = refl

-- ---- what suits the children before, and comes before none that was handled

-- where those between suit a move, so do all, unless it is of one of the front or the back
suits_toward : (m : Move) (front old back : List ℕ) → is_among (child_of m) front ≡ false → is_among (child_of m) back ≡ false →
    suits_children old m ≡ true → suits_children (front ++ (old ++ back)) (toward (first_of back) m) ≡ true
suits_toward (Make k None) front old back f b e = grind (arith, e, f, b, among_all front old back k)
suits_toward (Place k None) front old back f b e = grind (arith, e, among_all front old back k)
suits_toward m front old back f b e = grind (arith, e, f, b, among_all front old back (child_of m))

all_suit : (ms : List Move) (front old back : List ℕ) → AreApart (map child_of ms) front back → AllByRecursion (λ m. suits_children old m ≡ true) ms →
    AllByRecursion (λ m. suits_children (front ++ (old ++ back)) m ≡ true) (map (toward (first_of back)) ms)
all_suit [] front old back far suit = tt
all_suit (m ∷ ms) front old back far suit =
    let own = first_apart (child_of m) (map child_of ms) front back far in
    (suits_toward m front old back own.0 own.1 suit.0, all_suit ms front old back (rest_apart (child_of m) (map child_of ms) front back far) suit.1)

-- the handled ones of the whole are those of the part and the front
abbrev AreHandled : List ℕ → List ℕ → List ℕ → Type 0
AreHandled now handled front = (q : ℕ) → is_among q now ≡ (is_among q handled || is_among q front)

waiting_toward : (m : Move) (front old back handled now : List ℕ) → NoRepeats (front ++ (old ++ back)) → AreHandled now handled front →
    ((q : ℕ) → is_among q handled ≡ true → is_among q back ≡ false) →
    is_waiting old handled (before_of m) ≡ true → is_waiting (front ++ (old ++ back)) now (before_of (toward (first_of back) m)) ≡ true
waiting_toward m front old back handled now once are far waits = by_move m waits where
  named : (c : ℕ) → is_waiting old handled (Some c) ≡ true → is_waiting (front ++ (old ++ back)) now (Some c) ≡ true
  named c e = grind (arith, e, among_all front old back c, is_among-append c old back, are c, apart front (old ++ back) c once)

  end : (back : List ℕ) → NoRepeats (front ++ (old ++ back)) → ((q : ℕ) → is_among q handled ≡ true → is_among q back ≡ false)
      → is_waiting (front ++ (old ++ back)) now (first_of back) ≡ true
  end [] once far = refl
  end (b ∷ back) once far =
      grind (arith, eqb_tells b b, among_all front old (b ∷ back) b, is_among-append b old (b ∷ back), are b, far b, apart front (old ++ b ∷ back) b once)

  by_move : (m : Move) → is_waiting old handled (before_of m) ≡ true → is_waiting (front ++ (old ++ back)) now (before_of (toward (first_of back) m)) ≡ true
  by_move (Make k None) e = end back once far
  by_move (Make k (Some c)) e = named c e
  by_move (Place k None) e = end back once far
  by_move (Place k (Some c)) e = named c e
  by_move _ e = refl

unhandled_toward : (ms : List Move) (front old back handled now : List ℕ) → NoRepeats (front ++ (old ++ back)) → AreHandled now handled front →
    ((q : ℕ) → is_among q handled ≡ true → is_among q back ≡ false) → AreApart (map child_of ms) front back →
    BeforeUnhandled old handled ms → BeforeUnhandled (front ++ (old ++ back)) now (map (toward (first_of back)) ms)
unhandled_toward [] front old back handled now once are behind far waits = tt
unhandled_toward (m ∷ ms) front old back handled now once are behind far waits =
    let own = first_apart (child_of m) (map child_of ms) front back far in (
      waiting_toward m front old back handled now once are behind waits.0,
      subst (λ k. BeforeUnhandled (front ++ (old ++ back)) (k ∷ now) (map (toward (first_of back)) ms)) (sym (child_toward (first_of back) m))
          (unhandled_toward ms front old back (child_of m ∷ handled) (child_of m ∷ now) once (λ q. grind (arith, are q))
          (λ q e. grind (arith, e, own.1, behind q, eqb_tells (child_of m) q)) (rest_apart (child_of m) (map child_of ms) front back far) waits.1),
    )

-- ---- moves after others

BeforeUnhandled-append : (ms ns : List Move) (old handled : List ℕ) → BeforeUnhandled old handled ms → ((now : List ℕ) → BeforeUnhandled old now ns)
    → BeforeUnhandled old handled (ms ++ ns)
BeforeUnhandled-append [] ns old handled waits then = then handled
BeforeUnhandled-append (m ∷ ms) ns old handled waits then = (waits.0, BeforeUnhandled-append ms ns old (child_of m ∷ handled) waits.1 then)

-- after a front that stays, which is handled by then
BeforeUnhandled-behind : (front : List ℕ) (ms : List Move) (old handled : List ℕ) → ((now : List ℕ) → AreHandled now handled front → BeforeUnhandled old now ms)
    → BeforeUnhandled old handled (map Stay front ++ ms)
BeforeUnhandled-behind [] ms old handled then = then handled (λ q. grind arith)
BeforeUnhandled-behind (x ∷ front) ms old handled then =
    (refl, BeforeUnhandled-behind front ms old (x ∷ handled) (λ now are. then now (λ q. grind (arith, are q))))

-- ---- two lists with one front and one back

abbrev SameAmong : List ℕ → List ℕ → List ℕ → Type 0
SameAmong xs ys zs = (q : ℕ) → is_among q xs ≡ true → is_among q ys ≡ is_among q zs

missing-same : (xs ys zs : List ℕ) → SameAmong xs ys zs → missing xs ys ≡ missing xs zs
missing-same [] ys zs same = refl
missing-same (x ∷ xs) ys zs same = grind (arith, same x, eqb_tells x x, missing-same xs ys zs (λ q e. same q (grind (arith, e))))

common-same : (xs ys zs : List ℕ) → SameAmong xs ys zs → common xs ys ≡ common xs zs
common-same [] ys zs same = refl
common-same (x ∷ xs) ys zs same = grind (arith, same x, eqb_tells x x, common-same xs ys zs (λ q e. same q (grind (arith, e))))

between_apart : (front ks back : List ℕ) → NoRepeats (front ++ (ks ++ back)) → AreApart ks front back
between_apart front ks back once q e =
    (grind (arith, e, is_among-append q ks back, apart front (ks ++ back) q once), apart ks back q (NoRepeats-right front (ks ++ back) once) e)

-- those between are among the whole of the other list where they are between there too
between_same : (front old back new : List ℕ) → NoRepeats (front ++ (old ++ back)) → SameAmong old (front ++ (new ++ back)) new
between_same front old back new once q e =
    let far = between_apart front old back once q e in
    grind (arith, far.0, far.1, among_all front new back q)

missing-between : (front old back new : List ℕ) → NoRepeats (front ++ (old ++ back))
    → missing (front ++ (old ++ back)) (front ++ (new ++ back)) ≡ missing old new
missing-between front old back new once =
    let all = front ++ (new ++ back) in
    missing-append front (old ++ back) all
    ∙ ap (λ xs. xs ++ missing (old ++ back) all) (staying.none_missing front all (λ q e. grind (arith, e, among_all front new back q)))
    ∙ missing-append old back all
    ∙ ap (λ xs. missing old all ++ xs) (staying.none_missing back all (λ q e. grind (arith, e, among_all front new back q)))
    ∙ append-nil (missing old all)
    ∙ missing-same old all new (between_same front old back new once)

common-between : (front old back new : List ℕ) → NoRepeats (front ++ (old ++ back))
    → common (front ++ (old ++ back)) (front ++ (new ++ back)) ≡ front ++ (common old new ++ back)
common-between front old back new once =
    let all = front ++ (new ++ back) in
    common-append front (old ++ back) all
    ∙ ap (λ xs. xs ++ common (old ++ back) all) (common-all front all (λ q e. grind (arith, e, among_all front new back q)))
    ∙ ap (λ xs. front ++ xs) (common-append old back all
    ∙ ap (λ xs. common old all ++ xs) (common-all back all (λ q e. grind (arith, e, among_all front new back q)))
    ∙ ap (λ xs. xs ++ back) (common-same old all new (between_same front old back new once)))

-- ---- the whole walk

children_apart : (front back old new : List ℕ) (ms : List Move) → NoRepeats (front ++ (old ++ back)) → NoRepeats (front ++ (new ++ back)) → IsWalk old new ms →
    AreApart (map child_of ms) front back
children_apart front back old new ms once next_once w q e =
    let known : (is_among q new || is_among q (missing old new)) ≡ true =
    grind (arith, sym (children_among q ms) ∙ e, ap (is_among q) w.stands, ap (is_among q) w.leaves) in
    elim (cases_Bool (is_among q new)) [
      | inl here ↦ between_apart front new back next_once q here
      | inr gone ↦ between_apart front old back once q (grind (arith, known, gone, is_among-missing old new q))
    ]

-- A walk over the middles of two lists that have one front and one back is one over the lists, where the front and the back
-- stay, and what comes to the end of the middle comes before the back.
pub part_walk : (front back old new : List ℕ) (ms : List Move) → NoRepeats (front ++ (old ++ back)) → NoRepeats (front ++ (new ++ back)) → IsWalk old new ms →
    IsWalk (front ++ (old ++ back)) (front ++ (new ++ back)) (map Stay front ++ (map (toward (first_of back)) ms ++ map Stay back))
part_walk front back old new ms once next_once w =
    let olds = front ++ (old ++ back) in
    let news = front ++ (new ++ back) in
    let middle = map (toward (first_of back)) ms in
    let far : AreApart (map child_of ms) front back = children_apart front back old new ms once next_once w in
    let toward_all = all_toward ms front old back once far w.can in
    let middle_leads : all_moved middle olds ≡ news = toward_all.1 ∙ ap (λ ks. front ++ (ks ++ back)) w.leads in
    let back_in : staying.AreAmong back news = λ q e. grind (arith, e, among_all front new back q) in
    record {
      leads = all_moved-append (map Stay front) (middle ++ map Stay back) olds ∙ ap (all_moved (middle ++ map Stay back)) (staying.leads front olds)
          ∙ all_moved-append middle (map Stay back) olds ∙ ap (all_moved (map Stay back)) middle_leads ∙ staying.leads back news;
      can = CanAllMove-append (map Stay front) (middle ++ map Stay back) olds
          (staying.can front olds (λ q e. grind (arith, e, among_all front old back q)))
          (subst (CanAllMove (middle ++ map Stay back)) (sym (staying.leads front olds))
          (CanAllMove-append middle (map Stay back) olds toward_all.0
          (subst (CanAllMove (map Stay back)) (sym middle_leads) (staying.can back news back_in))));
      stands = standing-append (map Stay front) (middle ++ map Stay back) ∙ ap (λ ks. ks ++ standing (middle ++ map Stay back)) (staying.stands front)
          ∙ ap (λ ks. front ++ ks) (standing-append middle (map Stay back) ∙ ap (λ ks. standing middle ++ ks) (staying.stands back)
          ∙ ap (λ ks. ks ++ back) (standing_toward (first_of back) ms ∙ w.stands));
      leaves = leaving-append (map Stay front) (middle ++ map Stay back) ∙ ap (λ ks. ks ++ leaving (middle ++ map Stay back)) (staying.leaves front)
          ∙ leaving-append middle (map Stay back) ∙ ap (λ ks. leaving middle ++ ks) (staying.leaves back) ∙ append-nil (leaving middle)
          ∙ leaving_toward (first_of back) ms ∙ w.leaves ∙ sym (missing-between front old back new once);
      suited = All-append (λ m. suits_children olds m ≡ true) (map Stay front) (middle ++ map Stay back)
          (All-from_recursion (λ m. suits_children olds m ≡ true) (map Stay front)
          (staying.suited front olds (λ q e. grind (arith, e, among_all front old back q))))
          (All-append (λ m. suits_children olds m ≡ true) middle (map Stay back)
          (All-from_recursion (λ m. suits_children olds m ≡ true) middle
          (all_suit ms front old back far (recursion_from_All (λ m. suits_children old m ≡ true) ms w.suited)))
          (All-from_recursion (λ m. suits_children olds m ≡ true) (map Stay back)
          (staying.suited back olds (λ q e. grind (arith, e, among_all front old back q)))));
      unhandled = BeforeUnhandled-behind front (middle ++ map Stay back) olds []
          (λ now are. BeforeUnhandled-append middle (map Stay back) olds now
          (unhandled_toward ms front old back [] now once are (λ q e. absurd (grind (arith, e))) far w.unhandled)
          (λ then. staying.unhandled back olds then));
      kept_order = λ same.
          let middles : common old new ≡ common new old =
          append_cancel_right (common old new) (common new old) back
          (append_cancel_left front (common old new ++ back) (common new old ++ back)
          (sym (common-between front old back new once) ∙ same ∙ common-between front new back old next_once)) in
          list_any-append is_placing (map Stay front) (middle ++ map Stay back)
          ∙ ap (λ b. b || list_any is_placing (middle ++ map Stay back)) (staying.none_placed front)
          ∙ list_any-append is_placing middle (map Stay back)
          ∙ ap (λ b. list_any is_placing middle || b) (staying.none_placed back)
          ∙ grind (arith, placing_toward (first_of back) ms, w.kept_order middles);
    }

-- ---- parts

-- a part without moves, of two equal lists that carry no mark
pub none_part : (noted : ℕ → Bool) (xs ys : List ℕ) → NoRepeats xs → xs ≡ ys → ((k : ℕ) → is_among k xs ≡ true → noted k ≡ false) → IsPart noted xs ys []
none_part noted xs ys once same plain = record {
  front = xs;
  back = [];
  walk = all_staying xs ys (map Stay xs ++ []) same (append-nil (map Stay xs));
  front_plain = plain;
  back_plain = λ k e. absurd (grind (arith, e));
}

-- and the moves of a run between a front and a back that carry no mark
pub part_of_window : (noted : ℕ → Bool) (front old back new : List ℕ) (ms : List Move) → NoRepeats (front ++ (old ++ back)) → NoRepeats (front ++ (new ++ back))
    → IsWalk old new ms →
    ((k : ℕ) → is_among k front ≡ true → noted k ≡ false) → ((k : ℕ) → is_among k back ≡ true → noted k ≡ false) →
    IsPart noted (front ++ (old ++ back)) (front ++ (new ++ back)) (map (toward (first_of back)) ms)
part_of_window noted front old back new ms once next_once w front_plain back_plain = record {
  front = front;
  back = back;
  walk = part_walk front back old new ms once next_once w;
  front_plain = front_plain;
  back_plain = back_plain;
}

-- all moves of a walk are a part too, with nothing before or after
pub whole_part : (noted : ℕ → Bool) (olds news : List ℕ) (ms : List Move) → IsWalk olds news ms → IsPart noted olds news ms
whole_part noted olds news ms w = record {
  front = [];
  back = [];
  walk = subst (IsWalk olds news) (sym (append-nil ms)) w;
  front_plain = λ k e. absurd (cc);
  back_plain = λ k e. absurd (cc);
}
