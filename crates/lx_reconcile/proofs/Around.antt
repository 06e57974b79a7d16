-- The children of a node before and after, around the run that holds all the marked ones: they are the same.
use Rattle.std.proofs.Common.{◌≡◌, ◌∙◌, ◌||◌, ◌&&◌, ℕ, Bool, true, false, cond, List, [], ◌∷◌, ◌++◌, map, length, length-append, Option, None, Some, is_none, refl, sym, ap, subst, arith}
use Rattle.std.proofs.lemmas.Bool.Decides.{eqb_tells}
use Rattle.std.proofs.lemmas.Bool.{true_from_ne_false, false≢true}
use Rattle.lx_trees.specs.Siblings.{is_among, is_named, is_place, NoRepeats, first_of, last_of, next_in, previous_in}
use Rattle.lx_trees.proofs.Siblings.{is_among-append, first_of-among, next_in-among, same_names}
use Rattle.lx_host.specs.Hosts.{HostTree}
use Rattle.lx_forest.specs.Forest.{Forest}
use Rattle.lx_forest.specs.Lookups.{has, parent_of, children_of, first_child}
use Rattle.lx_forest.proofs.Lookups.{NoRepeats-children_of}
use Rattle.lx_links.proofs.Placed.{child_named, parent_of-child}
use Rattle.lx_forest.specs.Covered.{Marking, IsAlike, AreCovered}
use Rattle.lx_reconcile.specs.declared.windows.Window.{Window}
use Rattle.lx_reconcile.specs.declared.moves.Move.{Move}
use Rattle.lx_reconcile.specs.Making.{IsBetween}
use Rattle.lx_reconcile.specs.Walk.{toward, IsWalk, IsPart}
use Rattle.lx_reconcile.specs.Windows.{IsWindowOfMarks, IsWalkIn, PlainStay, start_of, end_of, between_names}
use Rattle.lx_reconcile.proofs.Children.{first_place, child_there}
use Rattle.lx_reconcile.proofs.Neighbours.{siblings_of}
use Rattle.lx_reconcile.proofs.Lists.{NoRepeats-right, last_of-among}
use Rattle.lx_reconcile.proofs.Parts.{none_part, part_of_window}
use Rattle.lx_reconcile.proofs.Shared.{AgreeAround, IsShared, shared, shared_run, first_shared, last_is, next_in-last}
use Rattle.std.proofs.lemmas.List.{nil_from_length}
use Rattle.lx_reconcile.proofs.Skipped.{untouched}

once_left : (xs ys : List ℕ) → NoRepeats (xs ++ ys) → NoRepeats xs
once_left [] ys once = tt
once_left (x ∷ xs) ys once = (not_among x xs ys once.0, once_left xs ys once.1) where
  not_among : (x : ℕ) (xs ys : List ℕ) → is_among x (xs ++ ys) ≡ false → is_among x xs ≡ false
  not_among x xs ys e = grind (arith, e, is_among-append x xs ys)

-- ---- children without marks

is_own : (k : ℕ) → is_named (Some k) k ≡ true
is_own k = grind (arith, eqb_tells k k)

module _ (old new : Forest) (mk : Marking) (v : HostTree) (b : IsBetween old new mk v) (k : ℕ) (there : has k new ≡ true) where
  -- they stay where the marks cover neighbours
  pub stay_covered : AreCovered old new mk → PlainStay mk.noted (children_of old k) (children_of new k)
  stay_covered covered = record {
    among = is_new;
    previous = λ c among plain.
        sym (ap (λ xs. previous_in xs c) (siblings_of new k c b.sound (is_new c among plain))) ∙ sym (alike c among plain).previous
        ∙ ap (λ xs. previous_in xs c) (siblings_of old k c b.was_sound among);
    next = λ c among plain.
        sym (ap (λ xs. next_in xs c) (siblings_of new k c b.sound (is_new c among plain))) ∙ sym (alike c among plain).next
        ∙ ap (λ xs. next_in xs c) (siblings_of old k c b.was_sound among);
  } where
    alike : (c : ℕ) → is_among c (children_of old k) ≡ true → mk.noted c ≡ false → IsAlike old new c
    alike c among plain =
        let up : parent_of old c ≡ Some k = parent_of-child old c k b.was_sound among in
        let same : mk.touched c ≡ false = untouched old new mk v b c plain in
        let still : has c new ≡ true = true_from_ne_false (has c new) (λ gone. false≢true (sym same ∙ covered.gone c k up there gone)) in
        covered.alike c (child_there old k c b.was_sound among) still same

    is_new : (c : ℕ) → is_among c (children_of old k) ≡ true → mk.noted c ≡ false → is_among c (children_of new k) ≡ true
    is_new c among plain =
        child_named new c k b.sound
        ∙ ap (λ o. is_named o k) (sym (alike c among plain).parent ∙ parent_of-child old c k b.was_sound among)
        ∙ is_own k

  -- and where their parent is untouched, since its children are the same
  pub stay_untouched : has k old ≡ true → mk.touched k ≡ false → PlainStay mk.noted (children_of old k) (children_of new k)
  stay_untouched was plain =
      let same : children_of old k ≡ children_of new k = (b.covered.alike k was there plain).children in
      record {
        among = λ c among _. ap (is_among c) (sym same) ∙ among;
        previous = λ c among _. ap (λ xs. previous_in xs c) (sym same);
        next = λ c among _. ap (λ xs. next_in xs c) (sym same);
      }

  -- so they stay unless all children of the touched are walked over
  pub stay_either : (whole : Bool) → (whole && mk.touched k) ≡ false → (whole ≡ false → AreCovered old new mk) → has k old ≡ true
      → PlainStay mk.noted (children_of old k) (children_of new k)
  stay_either true plain wide was = stay_untouched was plain
  stay_either false plain wide was = stay_covered (wide refl)

module _ (old new : Forest) (mk : Marking) (v : HostTree) (b : IsBetween old new mk v) (k : ℕ)
    (stay : PlainStay mk.noted (children_of old k) (children_of new k)) where
  abbrev pub olds : List ℕ
  olds = children_of old k

  abbrev pub news : List ℕ
  news = children_of new k

  olds_once : NoRepeats olds
  olds_once = NoRepeats-children_of old k b.view.before

  news_once : NoRepeats news
  news_once = NoRepeats-children_of new k b.view.after

  -- ---- around a run

  module _ (w : Window) (m : IsWindowOfMarks mk.noted olds w) where
    list_once : NoRepeats (m.is.front ++ (w.keys.items ++ m.is.back))
    list_once = subst NoRepeats m.is.list olds_once

    pub keys_once : NoRepeats w.keys.items
    keys_once = once_left w.keys.items m.is.back (NoRepeats-right m.is.front (w.keys.items ++ m.is.back) list_once)

    among_olds : (c : ℕ) → (is_among c m.is.front || is_among c m.is.back) ≡ true → is_among c olds ≡ true
    among_olds c e =
        ap (is_among c) m.is.list
        ∙ grind (arith, e, is_among-append c m.is.front (w.keys.items ++ m.is.back), is_among-append c w.keys.items m.is.back)

    plain : (c : ℕ) → (is_among c m.is.front || is_among c m.is.back) ≡ true → mk.noted c ≡ false
    plain c e = grind (arith, e, m.front_plain c, m.back_plain c)

    agree : AgreeAround m.is.front w.keys.items m.is.back news
    agree c e =
        let among = among_olds c e in (
          stay.among c among (plain c e),
          stay.previous c among (plain c e) ∙ ap (λ xs. previous_in xs c) m.is.list,
          stay.next c among (plain c e) ∙ ap (λ xs. next_in xs c) m.is.list,
        )

    -- it is empty only where there are no children
    full : w.keys.items ≡ [] → (m.is.front ≡ []) × (m.is.back ≡ [])
    full none =
        let sum = ap length (sym m.is.list ∙ m.none none) in (
          nil_from_length m.is.front (omega (arith, sum, length-append m.is.front (w.keys.items ++ m.is.back))),
          nil_from_length m.is.back (omega (arith, sum, length-append m.is.front (w.keys.items ++ m.is.back), length-append w.keys.items m.is.back)),
        )

    run : IsShared m.is.front w.keys.items m.is.back news
    run = shared m.is.front w.keys.items m.is.back news list_once news_once agree full

    -- where the run begins and ends among the children after
    begins_first : (first : Option ℕ) → first ≡ first_child new k → m.is.front ≡ [] → start_of w first ≡ first_of news
    begins_first first is none = ap (λ o. cond (is_none o) first (first_of w.keys.items)) (m.is.before ∙ ap last_of none) ∙ is

    begins_own : (first : Option ℕ) (x : ℕ) → last_of m.is.front ≡ Some x → start_of w first ≡ first_of w.keys.items
    begins_own first x e = ap (λ o. cond (is_none o) first (first_of w.keys.items)) (m.is.before ∙ e)

    run_is : (first : Option ℕ) → first ≡ first_child new k → run.new ≡ between_names (start_of w first) (end_of w) news
    run_is first is =
        shared_run m.is.front w.keys.items m.is.back news list_once news_once agree full run (start_of w first) (end_of w)
        (begins_first first is) (begins_own first)
        (λ none. ap (λ o. cond (is_none o) None (last_of w.keys.items)) (m.is.behind ∙ ap first_of none))
        (λ x e. ap (λ o. cond (is_none o) None (last_of w.keys.items)) (m.is.behind ∙ e))

    -- the moves of the run are a part of those of all children
    pub window_part : (first : Option ℕ) (moves : List Move) → first ≡ first_child new k → IsWalkIn w first news moves → IsPart mk.noted olds news moves
    window_part first moves is x =
        let walk : IsWalk w.keys.items run.new x.walk = subst (λ ks. IsWalk w.keys.items ks x.walk) (sym (run_is first is)) x.is in
        let part =
        part_of_window mk.noted m.is.front w.keys.items m.is.back run.new x.walk list_once (subst NoRepeats run.list news_once) walk m.front_plain
        m.back_plain in
        let named = x.moves_are ∙ ap (λ o. map (toward o) x.walk) m.is.behind in
        subst (λ t. t) (λ i. IsPart mk.noted (sym m.is.list i) (sym run.list i) (sym named i)) part

    -- it begins with one of the children after
    pub start_place : (first : Option ℕ) → first ≡ first_child new k → is_place (start_of w first) news ≡ true
    start_place first is = by_front m.is.front refl where
      by_front : (xs : List ℕ) → m.is.front ≡ xs → is_place (start_of w first) news ≡ true
      by_front [] e = ap (λ o. is_place o news) (begins_first first is e) ∙ first_place news
      by_front (x ∷ xs) e =
          let l = last_is x xs in
          let last : last_of m.is.front ≡ Some l.0 = ap last_of e ∙ l.1 in
          let among : is_among l.0 m.is.front ≡ true = last_of-among m.is.front l.0 last in
          let either : (is_among l.0 m.is.front || is_among l.0 m.is.back) ≡ true = ap (λ t. t || is_among l.0 m.is.back) among in
          let next : next_in news l.0 ≡ first_of (w.keys.items ++ m.is.back) =
          stay.next l.0 (among_olds l.0 either) (plain l.0 either)
          ∙ ap (λ ks. next_in ks l.0) m.is.list
          ∙ next_in-last l.0 m.is.front (w.keys.items ++ m.is.back) list_once last in
          ap (λ o. is_place o news) (begins_own first l.0 last) ∙ by_keys w.keys.items refl l.0 next e
        where
          by_keys : (ks : List ℕ) → w.keys.items ≡ ks → (l : ℕ) → next_in news l ≡ first_of (w.keys.items ++ m.is.back) → m.is.front ≡ x ∷ xs
              → is_place (first_of w.keys.items) news ≡ true
          by_keys [] none l next front = absurd (let empty = (full none).0 in cc)
          by_keys (y ∷ ys) some l next front =
              ap (λ ks. is_place (first_of ks) news) some ∙ next_in-among news l y (next ∙ ap (λ ks. first_of (ks ++ m.is.back)) some)

  -- ---- where no child carries a mark

  pub plain_part : (f : ℕ) → first_child old k ≡ Some f → ((c : ℕ) → is_among c olds ≡ true → mk.noted c ≡ false) → IsPart mk.noted olds news []
  plain_part f first all = none_part mk.noted olds news olds_once same all where
    first_same : (xs : List ℕ) → olds ≡ xs → first_of olds ≡ Some f → first_of olds ≡ first_of news
    first_same [] is first = absurd (let e = ap first_of is in cc)
    first_same (x ∷ xs) is first =
        let own : is_among x olds ≡ true = first_of-among olds x (ap first_of is) in
        ap first_of is
        ∙ sym (first_shared x [] xs news news_once (stay.among x own (all x own)) (stay.previous x own (all x own) ∙ ap (λ ks. previous_in ks x) is))

    same : olds ≡ news
    same = same_names olds news olds_once news_once (first_same olds refl first) (λ q e. sym (stay.next q e (all q e)))
