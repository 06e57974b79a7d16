-- The steps of a walk: each keeps `IsWalking`.
use Rattle.std.proofs.Common.{◌≡◌, ◌∙◌, sym, ap, ℕ, true, false, cond, eqb, ◌||◌, ◌&&◌, not, List, [], ◌∷◌, ◌++◌, map, length, Some, refl, arith, subst, append-nil, append_assoc}
use Rattle.std.proofs.lemmas.List.Elements.{All-push}
use Rattle.std.proofs.lemmas.Bool.Decides.{eqb_tells}
use Rattle.lx_trees.specs.Siblings.{is_named, is_among, is_place, NoRepeats, first_of, names_without, names_with}
use Rattle.lx_trees.proofs.Siblings.{first_of-among, is_among-append, is_among-names_without, names_without-absent_list}
use Rattle.lx_trees.proofs.Positions.{NoRepeats-names_without}
use Rattle.lx_reconcile.specs.declared.moves.Move.{Move}
use Rattle.lx_reconcile.specs.declared.moves.Move.TheVariants.{Stay, Leave, Make, Place}
use Rattle.lx_reconcile.specs.Walk.{child_of, before_of, moved, can_move, suits_children, is_placing, all_moved, CanAllMove, standing, leaving, BeforeUnhandled, common, missing}
use Rattle.lx_reconcile.specs.Underway.{IsWalking}
use Rattle.lx_reconcile.proofs.Lists.{is_among-missing, missing-push, common-push_absent, names_without-append, common-append, missing-append, common-names_without, common-none, NoRepeats-right, apart, names_with-first}
use Rattle.lx_reconcile.proofs.InTurn.{NoRepeats-moved, standing-append, leaving-append, children-push, BeforeUnhandled-push, children_among, all_moved-append, CanAllMove-append}
use Rattle.std.proofs.lemmas.List.Folds.{list_any-append}

-- ---- the first of a list

common-in : (k : ℕ) (xs ys : List ℕ) → is_among k ys ≡ true → common (k ∷ xs) ys ≡ k ∷ common xs ys
common-in k xs ys e = ap (λ b. cond b (k ∷ common xs ys) (common xs ys)) e

common-out : (k : ℕ) (xs ys : List ℕ) → is_among k ys ≡ false → common (k ∷ xs) ys ≡ common xs ys
common-out k xs ys e = ap (λ b. cond b (k ∷ common xs ys) (common xs ys)) e

missing-in : (k : ℕ) (xs ys : List ℕ) → is_among k ys ≡ true → missing (k ∷ xs) ys ≡ missing xs ys
missing-in k xs ys e = ap (λ b. cond (not b) (k ∷ missing xs ys) (missing xs ys)) e

missing-out : (k : ℕ) (xs ys : List ℕ) → is_among k ys ≡ false → missing (k ∷ xs) ys ≡ k ∷ missing xs ys
missing-out k xs ys e = ap (λ b. cond (not b) (k ∷ missing xs ys) (missing xs ys)) e

-- one more that is in place comes after those that are
in_order-behind : (k : ℕ) (front passed done : List ℕ) → common front done ≡ done → is_among k front ≡ false →
    ((q : ℕ) → is_among q passed ≡ true → (is_among q done || eqb k q) ≡ false) →
    common (front ++ (passed ++ k ∷ [])) (done ++ k ∷ []) ≡ done ++ k ∷ []
in_order-behind k front passed done e none far =
    let first : common front (done ++ k ∷ []) ≡ done = common-push_absent k front done none ∙ e in
    let second : common passed (done ++ k ∷ []) ≡ [] = common-none passed (done ++ k ∷ []) (λ q h. grind (arith, far q h, is_among-append q done (k ∷ []))) in
    let third : common (k ∷ []) (done ++ k ∷ []) ≡ k ∷ [] = common-in k [] (done ++ k ∷ []) (grind (arith, is_among-append k done (k ∷ []), eqb_tells k k)) in
    common-append front (passed ++ k ∷ []) (done ++ k ∷ [])
    ∙ ap (λ xs. xs ++ common (passed ++ k ∷ []) (done ++ k ∷ [])) first
    ∙ ap (λ xs. done ++ xs) (common-append passed (k ∷ []) (done ++ k ∷ []) ∙ ap (λ xs. xs ++ common (k ∷ []) (done ++ k ∷ [])) second ∙ third)

-- ---- what any step keeps

module _ {olds news old new back done : List ℕ} {moves : List Move} (w : IsWalking olds news old new back done moves) where
  now-push : (front : List ℕ) (m : Move) (children : List ℕ) → all_moved moves olds ≡ front ++ back → moved m (front ++ back) ≡ children
      → all_moved (moves ++ m ∷ []) olds ≡ children
  now-push front m children now to = all_moved-append moves (m ∷ []) olds ∙ ap (moved m) now ∙ to

  can-push : (m : Move) → can_move m (w.front ++ back) ≡ true → CanAllMove (moves ++ m ∷ []) olds
  can-push m can = CanAllMove-append moves (m ∷ []) olds w.can (ap (can_move m) w.now ∙ can, tt)

  once-push : (m : Move) (children : List ℕ) → can_move m (w.front ++ back) ≡ true → moved m (w.front ++ back) ≡ children → NoRepeats children
  once-push m children can to = subst NoRepeats to (NoRepeats-moved m (w.front ++ back) can w.once)

  unhandled-push : (m : Move) → ((k : ℕ) → before_of m ≡ Some k → is_among k back ≡ true) → BeforeUnhandled olds [] (moves ++ m ∷ [])
  unhandled-push m before = BeforeUnhandled-push moves m olds [] w.unhandled (λ k e. grind (arith, w.waiting k (before k e)))

  waiting-push : (m : Move) (rest : List ℕ) → ((q : ℕ) → is_among q rest ≡ true → (is_among q back && not (eqb (child_of m) q)) ≡ true)
      → (q : ℕ) → is_among q rest ≡ true → (is_among q olds && not (is_among q (map child_of (moves ++ m ∷ [])))) ≡ true
  waiting-push m rest shrinks q e = grind (arith, shrinks q e, w.waiting q, children-push moves m q)

  -- none of those after the cursor is handled
  pub back-undone : (q : ℕ) → is_among q back ≡ true → is_among q done ≡ false
  back-undone q e = grind (arith, w.waiting q e, children_among q moves, ap (is_among q) w.stands)

-- the next of those after isn't in place yet
pub next-undone : (k : ℕ) (news done new : List ℕ) → NoRepeats news → news ≡ done ++ k ∷ new → is_among k done ≡ false
next-undone k news done new once e =
    grind (arith, apart done (k ∷ new) k (subst NoRepeats e once), eqb_tells k k)

next-known : (k : ℕ) (news done new : List ℕ) → news ≡ done ++ k ∷ new → is_among k news ≡ true
next-known k news done new e =
    ap (is_among k) e ∙ is_among-append k done (k ∷ new) ∙ grind (arith, eqb_tells k k)

done-known : (q : ℕ) (news done new : List ℕ) → news ≡ done ++ new → is_among q done ≡ true → is_among q news ≡ true
done-known q news done new e h = ap (is_among q) e ∙ is_among-append q done new ∙ grind (arith, h)

-- ---- both next children are the same: it stays, and the cursor goes after it

kept_order-same : (k : ℕ) (old new news olds : List ℕ) → is_among k news ≡ true → is_among k olds ≡ true →
    common (k ∷ old) news ≡ common (k ∷ new) olds → common old news ≡ common new olds
kept_order-same k old new news olds e f same =
    let both : k ∷ common old news ≡ k ∷ common new olds = sym (common-in k old news e) ∙ same ∙ common-in k new olds f in
    cc

pub step-same : (k : ℕ) (olds news old new back done : List ℕ) (moves : List Move) → NoRepeats news → IsWalking olds news (k ∷ old) (k ∷ new) back done moves →
    IsWalking olds news old new (missing old (done ++ k ∷ [])) (done ++ k ∷ []) (moves ++ Stay k ∷ [])
step-same k olds news old new back done moves news_once w =
    let in_news : is_among k news ≡ true = next-known k news done new w.news_are in
    let in_olds : is_among k olds ≡ true = w.old_among k (grind (arith, eqb_tells k k)) in
    let undone : is_among k done ≡ false = next-undone k news done new news_once w.news_are in
    let rest_is : missing old (done ++ k ∷ []) ≡ missing old done =
    missing-push k old done ∙ names_without-absent_list k (missing old done) (grind (arith, is_among-missing old done k, w.old_once.0)) in
    let back_is : back ≡ w.passed ++ k ∷ missing old done = w.back_is ∙ ap (λ xs. w.passed ++ xs) (missing-out k old done undone) in
    let to : w.front ++ back ≡ (w.front ++ (w.passed ++ k ∷ [])) ++ missing old (done ++ k ∷ []) =
    ap (λ xs. w.front ++ xs) (back_is ∙ sym (append_assoc w.passed (k ∷ []) (missing old done)) ∙ ap (λ xs. (w.passed ++ k ∷ []) ++ xs) (sym rest_is))
    ∙ sym (append_assoc w.front (w.passed ++ k ∷ []) (missing old (done ++ k ∷ []))) in
    let back_once : NoRepeats (w.passed ++ k ∷ missing old done) = subst NoRepeats back_is (NoRepeats-right w.front back w.once) in
    let among_back : (q : ℕ) → is_among q back ≡ (is_among q w.passed || is_among q (k ∷ missing old done)) =
    λ q. ap (is_among q) back_is ∙ is_among-append q w.passed (k ∷ missing old done) in
    let k_back : is_among k back ≡ true = grind (arith, among_back k, eqb_tells k k) in
    let k_front : is_among k w.front ≡ false = grind (arith, apart w.front back k w.once, k_back) in
    let children_same : (q : ℕ) → is_among q (w.front ++ back) ≡ is_among q ((w.front ++ (w.passed ++ k ∷ [])) ++ missing old (done ++ k ∷ [])) =
    λ q. ap (is_among q) to in
    record {
      front = w.front ++ (w.passed ++ k ∷ []);
      passed = [];
      now = now-push w w.front (Stay k) _ w.now to;
      back_is = refl;
      once = subst NoRepeats to w.once;
      in_order = in_order-behind k w.front w.passed done w.in_order k_front
          (λ q e. grind (arith, e, among_back q, back-undone w q, apart w.passed (k ∷ missing old done) q back_once, eqb_tells k q));
      waiting = waiting-push w (Stay k) (missing old (done ++ k ∷ []))
          (λ q e. grind (arith, e, ap (is_among q) rest_is, among_back q, is_among-missing old done q, w.old_once.0, eqb_tells k q));
      known = λ q e. grind (arith, e, children_same q, w.known q, is_among-append q done (k ∷ []), in_news, in_olds, eqb_tells k q);
      present = λ q e f. sym (children_same q) ∙ w.present q e f;
      news_are = w.news_are ∙ sym (append_assoc done (k ∷ []) new);
      old_once = w.old_once.1;
      old_among = λ q e. w.old_among q (grind (arith, e));
      even = grind (arith, w.even, common-in k old news in_news, common-in k new olds in_olds);
      can = can-push w (Stay k) (grind (arith, k_back, is_among-append k w.front back));
      stands = standing-append moves (Stay k ∷ []) ∙ ap (λ xs. xs ++ k ∷ []) w.stands;
      leaves = ap (λ xs. xs ++ missing old news) (leaving-append moves (Stay k ∷ []) ∙ append-nil (leaving moves))
          ∙ ap (λ xs. leaving moves ++ xs) (sym (missing-in k old news in_news)) ∙ w.leaves;
      suited = All-push (λ m. suits_children olds m ≡ true) moves (Stay k) w.suited in_olds;
      unhandled = unhandled-push w (Stay k) (λ b e. absurd (cc));
      kept_order =
          λ same. (
            kept_order-same k old new news olds in_news in_olds (w.kept_order same).0,
            list_any-append is_placing moves (Stay k ∷ []) ∙ ap (λ b. b || false) (w.kept_order same).1,
          );
    }

-- ---- the next child before is none of those after: it leaves, and the cursor goes to where it was

-- without a name that is in the middle alone
names_without-middle : (k : ℕ) (xs ys zs : List ℕ) → NoRepeats (xs ++ (ys ++ k ∷ zs)) → names_without k (xs ++ (ys ++ k ∷ zs)) ≡ (xs ++ ys) ++ zs
names_without-middle k xs ys zs once =
    let inner : NoRepeats (ys ++ k ∷ zs) = NoRepeats-right xs (ys ++ k ∷ zs) once in
    let k_zs : is_among k zs ≡ false = (NoRepeats-right ys (k ∷ zs) inner).0 in
    let k_ys : is_among k ys ≡ false = grind (arith, apart ys (k ∷ zs) k inner, eqb_tells k k) in
    let k_xs : is_among k xs ≡ false = grind (arith, apart xs (ys ++ k ∷ zs) k once, is_among-append k ys (k ∷ zs), eqb_tells k k) in
    let last : names_without k (k ∷ zs) ≡ zs = grind (arith, eqb_tells k k, names_without-absent_list k zs k_zs) in
    let behind : names_without k (ys ++ k ∷ zs) ≡ ys ++ zs =
    names_without-append k ys (k ∷ zs) ∙ ap (λ us. us ++ names_without k (k ∷ zs)) (names_without-absent_list k ys k_ys) ∙ ap (λ us. ys ++ us) last in
    names_without-append k xs (ys ++ k ∷ zs) ∙ ap (λ us. us ++ names_without k (ys ++ k ∷ zs)) (names_without-absent_list k xs k_xs)
    ∙ ap (λ us. xs ++ us) behind ∙ sym (append_assoc xs ys zs)

pub step-gone : (o : ℕ) (olds news old new back done : List ℕ) (moves : List Move) → is_among o news ≡ false → IsWalking olds news (o ∷ old) new back done moves
    →
    IsWalking olds news old new (missing old done) done (moves ++ Leave o ∷ [])
step-gone o olds news old new back done moves gone w =
    let in_olds : is_among o olds ≡ true = w.old_among o (grind (arith, eqb_tells o o)) in
    let undone : is_among o done ≡ false = grind (arith, gone, done-known o news done new w.news_are) in
    let back_is : back ≡ w.passed ++ o ∷ missing old done = w.back_is ∙ ap (λ xs. w.passed ++ xs) (missing-out o old done undone) in
    let once : NoRepeats (w.front ++ (w.passed ++ o ∷ missing old done)) = subst (λ xs. NoRepeats (w.front ++ xs)) back_is w.once in
    let back_once : NoRepeats (w.passed ++ o ∷ missing old done) = NoRepeats-right w.front _ once in
    let to : names_without o (w.front ++ back) ≡ (w.front ++ w.passed) ++ missing old done =
    ap (λ xs. names_without o (w.front ++ xs)) back_is ∙ names_without-middle o w.front w.passed (missing old done) once in
    let among_back : (q : ℕ) → is_among q back ≡ (is_among q w.passed || is_among q (o ∷ missing old done)) =
    λ q. ap (is_among q) back_is ∙ is_among-append q w.passed (o ∷ missing old done) in
    let o_back : is_among o back ≡ true = grind (arith, among_back o, eqb_tells o o) in
    let can : can_move (Leave o) (w.front ++ back) ≡ true = grind (arith, o_back, is_among-append o w.front back) in
    let children_less : (q : ℕ) → is_among q ((w.front ++ w.passed) ++ missing old done) ≡ (is_among q (w.front ++ back) && not (eqb q o)) =
    λ q. sym (ap (is_among q) to) ∙ is_among-names_without o q (w.front ++ back) in
    let passed_none : common w.passed done ≡ [] = common-none w.passed done (λ q e. back-undone w q (grind (arith, e, among_back q))) in
    record {
      front = w.front ++ w.passed;
      passed = [];
      now = now-push w w.front (Leave o) _ w.now to;
      back_is = refl;
      once = once-push w (Leave o) _ can to;
      in_order = common-append w.front w.passed done ∙ ap (λ xs. common w.front done ++ xs) passed_none ∙ append-nil (common w.front done) ∙ w.in_order;
      waiting = waiting-push w (Leave o) (missing old done)
          (λ q e. grind (arith, e, among_back q, (NoRepeats-right w.passed (o ∷ missing old done) back_once).0, eqb_tells o q));
      known = λ q e. grind (arith, e, children_less q, w.known q, eqb_tells o q, eqb_tells q o);
      present = λ q e f. grind (arith, children_less q, w.present q e f, gone, f, eqb_tells q o);
      news_are = w.news_are;
      old_once = w.old_once.1;
      old_among = λ q e. w.old_among q (grind (arith, e));
      even = sym (ap length (common-out o old news gone)) ∙ w.even;
      can = can-push w (Leave o) can;
      stands = standing-append moves (Leave o ∷ []) ∙ append-nil (standing moves) ∙ w.stands;
      leaves = ap (λ xs. xs ++ missing old news) (leaving-append moves (Leave o ∷ [])) ∙ append_assoc (leaving moves) (o ∷ []) (missing old news)
          ∙ ap (λ xs. leaving moves ++ xs) (sym (missing-out o old news gone)) ∙ w.leaves;
      suited = All-push (λ m. suits_children olds m ≡ true) moves (Leave o) w.suited in_olds;
      unhandled = unhandled-push w (Leave o) (λ b e. absurd (cc));
      kept_order =
          λ same. (
            sym (common-out o old news gone) ∙ (w.kept_order same).0,
            list_any-append is_placing moves (Leave o ∷ []) ∙ ap (λ b. b || false) (w.kept_order same).1,
          );
    }

-- ---- the next child after is none of those before: it is made at the cursor

is_place-first : (xs ys : List ℕ) → is_place (first_of ys) (xs ++ ys) ≡ true
is_place-first xs [] = refl
is_place-first xs (y ∷ ys) = is_among-append y xs (y ∷ ys) ∙ grind (arith, eqb_tells y y)

pub step-made : (n : ℕ) (olds news old new back done : List ℕ) (moves : List Move) → NoRepeats news → is_among n olds ≡ false
    → IsWalking olds news old (n ∷ new) back done moves →
    IsWalking olds news old new (names_without n back) (done ++ n ∷ []) (moves ++ Make n (first_of back) ∷ [])
step-made n olds news old new back done moves news_once none w =
    let in_news : is_among n news ≡ true = next-known n news done new w.news_are in
    let undone : is_among n done ≡ false = next-undone n news done new news_once w.news_are in
    let n_old : is_among n old ≡ false = grind (arith, none, w.old_among n) in
    let n_children : is_among n (w.front ++ back) ≡ false = grind (arith, none, undone, w.known n) in
    let n_back : is_among n back ≡ false = grind (arith, n_children, is_among-append n w.front back) in
    let n_front : is_among n w.front ≡ false = grind (arith, n_children, is_among-append n w.front back) in
    let rest_is : missing old (done ++ n ∷ []) ≡ missing old done =
    missing-push n old done ∙ names_without-absent_list n (missing old done) (grind (arith, is_among-missing old done n, n_old)) in
    let to : names_with (first_of back) (n ∷ []) (w.front ++ back) ≡ (w.front ++ n ∷ []) ++ back =
    names_with-first (n ∷ []) w.front back w.once in
    let can : can_move (Make n (first_of back)) (w.front ++ back) ≡ true = grind (arith, n_children, is_place-first w.front back) in
    let children_more : (q : ℕ) → is_among q ((w.front ++ n ∷ []) ++ back) ≡ (eqb n q || is_among q (w.front ++ back)) =
    λ q. is_among-append q (w.front ++ n ∷ []) back ∙ grind (arith, is_among-append q w.front (n ∷ []), is_among-append q w.front back) in
    let walked : IsWalking olds news old new back (done ++ n ∷ []) (moves ++ Make n (first_of back) ∷ []) = record {
      front = w.front ++ n ∷ [];
      passed = w.passed;
      now = now-push w w.front (Make n (first_of back)) _ w.now to;
      back_is = w.back_is ∙ ap (λ xs. w.passed ++ xs) (sym rest_is);
      once = once-push w (Make n (first_of back)) _ can to;
      in_order = in_order-behind n w.front [] done w.in_order n_front (λ q e. absurd (cc));
      waiting = waiting-push w (Make n (first_of back)) back (λ q e. grind (arith, e, n_back, eqb_tells n q));
      known = λ q e. grind (arith, e, children_more q, w.known q, is_among-append q done (n ∷ []), eqb_tells n q);
      present = λ q e f. grind (arith, children_more q, w.present q e f);
      news_are = w.news_are ∙ sym (append_assoc done (n ∷ []) new);
      old_once = w.old_once;
      old_among = w.old_among;
      even = w.even ∙ ap length (common-out n new olds none);
      can = can-push w (Make n (first_of back)) can;
      stands = standing-append moves (Make n (first_of back) ∷ []) ∙ ap (λ xs. xs ++ n ∷ []) w.stands;
      leaves = ap (λ xs. xs ++ missing old news) (leaving-append moves (Make n (first_of back) ∷ []) ∙ append-nil (leaving moves)) ∙ w.leaves;
      suited = All-push (λ m. suits_children olds m ≡ true) moves (Make n (first_of back)) w.suited (ap not none);
      unhandled = unhandled-push w (Make n (first_of back)) (first_of-among back);
      kept_order =
          λ same. (
            (w.kept_order same).0 ∙ common-out n new olds none,
            list_any-append is_placing moves (Make n (first_of back) ∷ []) ∙ ap (λ b. b || false) (w.kept_order same).1,
          );
    } in
    subst (λ xs. IsWalking olds news old new xs (done ++ n ∷ []) (moves ++ Make n (first_of back) ∷ [])) (sym (names_without-absent_list n back n_back)) walked

-- ---- both next children are in both lists, and differ: the one after stays where it is the one at the cursor, or is placed there

differ : (o n : ℕ) (old new news olds : List ℕ) → is_among o news ≡ true → is_among n olds ≡ true → eqb o n ≡ false →
    common (o ∷ old) news ≡ common (n ∷ new) olds → ⊥
differ o n old new news olds e f other same =
    let both : o ∷ common old news ≡ n ∷ common new olds = sym (common-in o old news e) ∙ same ∙ common-in n new olds f in
    let heads : o ≡ n = cc in
    grind (arith, heads, other, eqb_tells o n)

first_of-is : (n : ℕ) (xs : List ℕ) → NoRepeats xs → first_of xs ≡ Some n → xs ≡ n ∷ names_without n xs
first_of-is n [] once e = absurd (cc)
first_of-is n (x ∷ xs) once e =
    let same : x ≡ n = cc in
    let absent : is_among n xs ≡ false = subst (λ z. is_among z xs ≡ false) same once.0 in
    grind (arith, same, absent, eqb_tells x n, names_without-absent_list n xs)

first_of-other : (n : ℕ) (xs : List ℕ) → is_named (first_of xs) n ≡ false → first_of (names_without n xs) ≡ first_of xs
first_of-other n [] e = refl
first_of-other n (x ∷ xs) e = grind (arith, e, eqb_tells x n, eqb_tells n x)

-- what holds after the cursor, once n is in place
back-without : (n o : ℕ) (old done passed back : List ℕ) → back ≡ passed ++ missing (o ∷ old) done →
    names_without n back ≡ names_without n (passed ++ missing (o ∷ []) done) ++ missing old (done ++ n ∷ [])
back-without n o old done passed back e =
    ap (names_without n) (e ∙ ap (λ xs. passed ++ xs) (missing-append (o ∷ []) old done) ∙ sym (append_assoc passed (missing (o ∷ []) done) (missing old done)))
    ∙ names_without-append n (passed ++ missing (o ∷ []) done) (missing old done)
    ∙ ap (λ xs. names_without n (passed ++ missing (o ∷ []) done) ++ xs) (sym (missing-push n old done))

-- that this child comes to be in front of the cursor, by a move of it that can be made
settled : (o n : ℕ) (olds news old new back done front : List ℕ) (moves : List Move) (m : Move) → NoRepeats news →
    is_among o news ≡ true → is_among n olds ≡ true → eqb o n ≡ false → (w : IsWalking olds news (o ∷ old) (n ∷ new) back done moves) →
    child_of m ≡ n → standing (m ∷ []) ≡ n ∷ [] → leaving (m ∷ []) ≡ [] → suits_children olds m ≡ true → can_move m (w.front ++ back) ≡ true →
    ((k : ℕ) → before_of m ≡ Some k → is_among k back ≡ true) →
    moved m (w.front ++ back) ≡ (front ++ n ∷ []) ++ names_without n back → common front done ≡ done → is_among n front ≡ false →
    ((q : ℕ) → is_among q ((front ++ n ∷ []) ++ names_without n back) ≡ is_among q (w.front ++ back)) →
    IsWalking olds news old new (names_without n back) (done ++ n ∷ []) (moves ++ m ∷ [])
settled o n olds news old new back done front moves m news_once o_news n_olds other w child stands leaves suited can before to in_order n_front children_same =
    let in_news : is_among n news ≡ true = next-known n news done new w.news_are in
    record {
      front = front ++ n ∷ [];
      passed = names_without n (w.passed ++ missing (o ∷ []) done);
      now = now-push w w.front m _ w.now to;
      back_is = back-without n o old done w.passed back w.back_is;
      once = once-push w m _ can to;
      in_order = in_order-behind n front [] done in_order n_front (λ q e. absurd (cc));
      waiting = waiting-push w m (names_without n back) (λ q e. grind (arith, e, is_among-names_without n q back, child, eqb_tells n q, eqb_tells q n));
      known = λ q e. grind (arith, e, children_same q, w.known q, is_among-append q done (n ∷ []), o_news, w.old_among q, eqb_tells o q);
      present = λ q e f. children_same q ∙ w.present q e f;
      news_are = w.news_are ∙ sym (append_assoc done (n ∷ []) new);
      old_once = w.old_once.1;
      old_among = λ q e. w.old_among q (grind (arith, e));
      even = grind (arith, w.even, common-in o old news o_news, common-in n new olds n_olds);
      can = can-push w m can;
      stands = standing-append moves (m ∷ []) ∙ ap (λ xs. standing moves ++ xs) stands ∙ ap (λ xs. xs ++ n ∷ []) w.stands;
      leaves = ap (λ xs. xs ++ missing old news) (leaving-append moves (m ∷ []) ∙ ap (λ xs. leaving moves ++ xs) leaves ∙ append-nil (leaving moves))
          ∙ ap (λ xs. leaving moves ++ xs) (sym (missing-in o old news o_news)) ∙ w.leaves;
      suited = All-push (λ v. suits_children olds v ≡ true) moves m w.suited suited;
      unhandled = unhandled-push w m before;
      kept_order = λ same. absurd (differ o n old new news olds o_news n_olds other (w.kept_order same).0);
    }

pub step-at_cursor : (o n : ℕ) (olds news old new back done : List ℕ) (moves : List Move) → NoRepeats news →
    is_among o news ≡ true → is_among n olds ≡ true → eqb o n ≡ false → first_of back ≡ Some n → IsWalking olds news (o ∷ old) (n ∷ new) back done moves →
    IsWalking olds news old new (names_without n back) (done ++ n ∷ []) (moves ++ Stay n ∷ [])
step-at_cursor o n olds news old new back done moves news_once o_news n_olds other at w =
    let n_back : is_among n back ≡ true = first_of-among back n at in
    let to : w.front ++ back ≡ (w.front ++ n ∷ []) ++ names_without n back =
    ap (λ xs. w.front ++ xs) (first_of-is n back (NoRepeats-right w.front back w.once) at) ∙ sym (append_assoc w.front (n ∷ []) (names_without n back)) in
    settled o n olds news old new back done w.front moves (Stay n) news_once o_news n_olds other w refl refl refl n_olds
    (grind (arith, n_back, is_among-append n w.front back)) (λ k e. absurd (cc)) to w.in_order
    (grind (arith, n_back, apart w.front back n w.once)) (λ q. sym (ap (is_among q) to))

pub step-placed : (o n : ℕ) (olds news old new back done : List ℕ) (moves : List Move) → NoRepeats news →
    is_among o news ≡ true → is_among n olds ≡ true → eqb o n ≡ false → is_named (first_of back) n ≡ false
    → IsWalking olds news (o ∷ old) (n ∷ new) back done moves →
    IsWalking olds news old new (names_without n back) (done ++ n ∷ []) (moves ++ Place n (first_of back) ∷ [])
step-placed o n olds news old new back done moves news_once o_news n_olds other at w =
    let in_news : is_among n news ≡ true = next-known n news done new w.news_are in
    let undone : is_among n done ≡ false = next-undone n news done new news_once w.news_are in
    let n_children : is_among n (w.front ++ back) ≡ true = w.present n n_olds in_news in
    let split : names_without n (w.front ++ back) ≡ names_without n w.front ++ names_without n back = names_without-append n w.front back in
    let once : NoRepeats (names_without n w.front ++ names_without n back) = subst NoRepeats split (NoRepeats-names_without n (w.front ++ back) w.once) in
    let to : names_with (first_of back) (n ∷ []) (names_without n (w.front ++ back)) ≡ (names_without n w.front ++ n ∷ []) ++ names_without n back =
    ap (names_with (first_of back) (n ∷ [])) split
    ∙ ap (λ b. names_with b (n ∷ []) (names_without n w.front ++ names_without n back)) (sym (first_of-other n back at))
    ∙ names_with-first (n ∷ []) (names_without n w.front) (names_without n back) once in
    let can : can_move (Place n (first_of back)) (w.front ++ back) ≡ true = grind (arith, n_children, is_place-first w.front back, at) in
    settled o n olds news old new back done (names_without n w.front) moves (Place n (first_of back)) news_once o_news n_olds other w refl refl refl n_olds
    can (first_of-among back) to (common-names_without n w.front done undone ∙ w.in_order)
    (grind (arith, is_among-names_without n n w.front, eqb_tells n n))
    (λ q. is_among-append q (names_without n w.front ++ n ∷ []) (names_without n back)
    ∙ grind (
      arith,
      n_children,
      is_among-append q (names_without n w.front) (n ∷ []),
      is_among-names_without n q w.front,
      is_among-names_without n q back,
      is_among-append q w.front back,
      is_among-append n w.front back,
      eqb_tells n q,
      eqb_tells q n,
    ))
