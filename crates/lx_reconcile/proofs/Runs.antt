-- A run of children that grows by one child at a time, until it holds all that carry a mark.
use Rattle.std.proofs.Common.{◌≡◌, ◌∙◌, ◌+◌, ◌≤◌, ◌<◌, ◌||◌, ℕ, Bool, true, false, List, [], ◌∷◌, ◌++◌, length, length-append, Option, None, Some, is_some, refl, sym, ap, subst, arith, append_assoc, inl, inr}
use Rattle.std.proofs.lemmas.Bool.Decides.{eqb_tells}
use Rattle.lx_trees.specs.Siblings.{is_among, NoRepeats, first_of, last_of, next_in, previous_in}
use Rattle.lx_trees.proofs.Siblings.{is_among-append, first_of-among}
use Rattle.lx_node.specs.declared.node.Node.{Node}
use Rattle.lx_reconcile.specs.declared.windows.Window.{Window}
use Rattle.lx_reconcile.specs.Windows.{IsWindow, marked_among, beside, IsGrown, Takes, IsWindowOfMarks}
use Rattle.lx_reconcile.proofs.Lists.{NoRepeats-right, apart, last_of-among}
use Rattle.lx_reconcile.proofs.Shared.{next_in-behind, previous_from-first, last_is}

-- ---- where a list ends and begins

-- a list with this name at its end
ends_with : (xs : List ℕ) (x : ℕ) → last_of xs ≡ Some x → (before : List ℕ) × (xs ≡ before ++ x ∷ [])
ends_with [] x e = absurd (cc)
ends_with (y ∷ []) x e = ([], cc)
ends_with (y ∷ z ∷ xs) x e =
    let rest = ends_with (z ∷ xs) x e in
    (y ∷ rest.0, ap (λ ys. y ∷ ys) rest.1)

-- and with this one at its start
starts_with : (xs : List ℕ) (x : ℕ) → first_of xs ≡ Some x → (behind : List ℕ) × (xs ≡ x ∷ behind)
starts_with [] x e = absurd (cc)
starts_with (y ∷ xs) x e = (xs, cc)

-- ---- marks

marked-append : (noted : ℕ → Bool) (xs ys : List ℕ) → marked_among noted (xs ++ ys) ≡ marked_among noted xs + marked_among noted ys
marked-append noted [] ys = omega arith
marked-append noted (x ∷ xs) ys = grind (arith, marked-append noted xs ys)

-- none of them carries one
marked-none : (noted : ℕ → Bool) (xs : List ℕ) → marked_among noted xs ≡ 0 → (k : ℕ) → is_among k xs ≡ true → noted k ≡ false
marked-none noted [] none k e = absurd (grind (arith, e))
marked-none noted (x ∷ xs) none k e = grind (arith, none, e, eqb_tells x k, marked-none noted xs, k)

-- ---- one more child

before_among : (children : List ℕ) (w : Window) (child : ℕ) → IsWindow children w → w.before ≡ Some child → is_among child children ≡ true
before_among children w child is here =
    ap (is_among child) is.list
    ∙ is_among-append child is.front (w.keys.items ++ is.back)
    ∙ ap (λ b. b || is_among child (w.keys.items ++ is.back)) (last_of-among is.front child (sym is.before ∙ here))

behind_among : (children : List ℕ) (w : Window) (child : ℕ) → IsWindow children w → w.behind ≡ Some child → is_among child children ≡ true
behind_among children w child is here =
    let last : is_among child is.back ≡ true = first_of-among is.back child (sym is.behind ∙ here) in
    grind (arith, ap (is_among child) is.list, is_among-append child is.front (w.keys.items ++ is.back), is_among-append child w.keys.items is.back, last)

taken_before : (noted : ℕ → Bool) (children : List ℕ) (old new : Window) (child : ℕ) (marked : Bool) → NoRepeats children → IsWindow children old
    → old.before ≡ Some child
    → new.before ≡ previous_in children child → new.keys.items ≡ child ∷ old.keys.items → new.behind ≡ old.behind → marked ≡ noted child
    → Takes noted children old new marked
taken_before noted children old new child marked once w here before keys behind told =
    let split = ends_with w.front child (sym w.before ∙ here) in
    let list : children ≡ split.0 ++ (child ∷ old.keys.items ++ w.back) =
    w.list ∙ ap (λ xs. xs ++ (old.keys.items ++ w.back)) split.1 ∙ append_assoc split.0 (child ∷ []) (old.keys.items ++ w.back) in
    let out : is_among child split.0 ≡ false =
    grind (arith, apart split.0 (child ∷ old.keys.items ++ w.back) child (subst NoRepeats list once), eqb_tells child child) in
    record {
      is = record {
        front = split.0;
        back = w.back;
        list = list ∙ sym (ap (λ ks. split.0 ++ (ks ++ w.back)) keys);
        before = before ∙ ap (λ xs. previous_in xs child) list ∙ previous_from-first None split.0 child (old.keys.items ++ w.back) out;
        behind = behind ∙ w.behind;
      };
      marks = ap (marked_among noted) keys ∙ grind (arith, told);
      one = ap length keys ∙ omega arith;
    }

taken_behind : (noted : ℕ → Bool) (children : List ℕ) (old new : Window) (child : ℕ) (marked : Bool) → NoRepeats children → IsWindow children old
    → old.behind ≡ Some child
    → new.before ≡ old.before → new.keys.items ≡ old.keys.items ++ child ∷ [] → new.behind ≡ next_in children child → marked ≡ noted child
    → Takes noted children old new marked
taken_behind noted children old new child marked once w here before keys behind told =
    let split = starts_with w.back child (sym w.behind ∙ here) in
    let list : children ≡ w.front ++ (old.keys.items ++ child ∷ split.0) = w.list ∙ ap (λ xs. w.front ++ (old.keys.items ++ xs)) split.1 in
    let list_once : NoRepeats (w.front ++ (old.keys.items ++ child ∷ split.0)) = subst NoRepeats list once in
    let keys_once : NoRepeats (old.keys.items ++ child ∷ split.0) = NoRepeats-right w.front (old.keys.items ++ child ∷ split.0) list_once in
    let out_keys : is_among child old.keys.items ≡ false = grind (arith, apart old.keys.items (child ∷ split.0) child keys_once, eqb_tells child child) in
    let out_front : is_among child w.front ≡ false =
    grind (
      arith,
      apart w.front (old.keys.items ++ child ∷ split.0) child list_once,
      eqb_tells child child,
      is_among-append child old.keys.items (child ∷ split.0),
    ) in
    record {
      is = record {
        front = w.front;
        back = split.0;
        list = list ∙ sym (ap (λ ks. w.front ++ ks) (append_assoc old.keys.items (child ∷ []) split.0)) ∙ sym (ap (λ ks. w.front ++ (ks ++ split.0)) keys);
        before = before ∙ w.before;
        behind =
            behind
            ∙ ap (λ xs. next_in xs child) list
            ∙ next_in-behind child w.front (old.keys.items ++ child ∷ split.0) out_front
            ∙ next_in-behind child old.keys.items (child ∷ split.0) out_keys
            ∙ grind (arith, eqb_tells child child);
      };
      marks = ap (marked_among noted) keys ∙ marked-append noted old.keys.items (child ∷ []) ∙ grind (arith, told);
      one = ap length keys ∙ length-append old.keys.items (child ∷ []);
    }

pub beside_among : (behind : Bool) (children : List ℕ) (w : Window) (child : ℕ) → IsWindow children w → beside behind w ≡ Some child
    → is_among child children ≡ true
beside_among true = behind_among
beside_among false = before_among

pub taken : (noted : ℕ → Bool) (children : List ℕ) (old new : Window) (behind : Bool) (child : ℕ) (node : Node) (marked : Bool) → NoRepeats children
    → IsWindow children old → beside behind old ≡ Some child → node.prev ≡ previous_in children child → node.next ≡ next_in children child
    → IsGrown behind child node old new → marked ≡ noted child → Takes noted children old new marked
taken noted children old new true child node marked once w here prev next grown told =
    taken_behind noted children old new child marked once w here grown.before grown.keys (grown.behind_is ∙ next) told
taken noted children old new false child node marked once w here prev next grown told =
    taken_before noted children old new child marked once w here (grown.before ∙ prev) grown.keys grown.behind_is told

-- ---- the first child

-- what is before a name of a list, and after it
record StandsIn (xs : List ℕ) (x : ℕ) : Type 0 where
  front : List ℕ
  back : List ℕ
  list : xs ≡ front ++ x ∷ back
  out : is_among x front ≡ false

stands_in : (xs : List ℕ) (x : ℕ) → is_among x xs ≡ true → StandsIn xs x
stands_in [] x e = absurd (grind (arith, e))
stands_in (y ∷ xs) x e = elim (eqb_tells y x) [
  | inl own ↦ record { front = []; back = xs; list = ap (λ z. z ∷ xs) own.1; out = refl }
  | inr other ↦
      let rest = stands_in xs x (grind (arith, e, other.0)) in
      record { front = y ∷ rest.front; back = rest.back; list = ap (λ ys. y ∷ ys) rest.list; out = grind (arith, other.0, rest.out) }
]

pub window_of_one : (children : List ℕ) (w : Window) (child : ℕ) → is_among child children ≡ true → w.before ≡ previous_in children child
    → w.keys.items ≡ child ∷ [] → w.behind ≡ next_in children child → IsWindow children w
window_of_one children w child among before keys behind =
    let at = stands_in children child among in
    record {
      front = at.front;
      back = at.back;
      list = at.list ∙ sym (ap (λ ks. at.front ++ (ks ++ at.back)) keys);
      before = before ∙ ap (λ xs. previous_in xs child) at.list ∙ previous_from-first None at.front child at.back at.out;
      behind = behind ∙ ap (λ xs. next_in xs child) at.list ∙ next_in-behind child at.front (child ∷ at.back) at.out ∙ grind (arith, eqb_tells child child);
    }

-- ---- when it holds all that carry a mark

-- as many as there are at all
pub all_in : (noted : ℕ → Bool) (children : List ℕ) (w : Window) → IsWindow children w → marked_among noted children ≤ marked_among noted w.keys.items
    → 0 < length w.keys.items → IsWindowOfMarks noted children w
all_in noted children w is all some =
    let sum : marked_among noted children ≡ marked_among noted is.front + (marked_among noted w.keys.items + marked_among noted is.back) =
    ap (marked_among noted) is.list ∙ marked-append noted is.front (w.keys.items ++ is.back)
    ∙ ap (λ n. marked_among noted is.front + n) (marked-append noted w.keys.items is.back) in
    record {
      is = is;
      front_plain = marked-none noted is.front (omega (arith, sum, all));
      back_plain = marked-none noted is.back (omega (arith, sum, all));
      none = λ e. absurd (omega (arith, ap length e, some));
    }

pub no_children : (children : List ℕ) (first : Option ℕ) → first ≡ first_of children → is_some first ≡ false → children ≡ []
no_children [] first is none = refl
no_children (x ∷ children) first is none = absurd (let e = ap is_some is in cc)

-- or nothing is beside it
pub all_of : (noted : ℕ → Bool) (children : List ℕ) (w : Window) → IsWindow children w → (is_some w.before || is_some w.behind) ≡ false
    → 0 < length w.keys.items → IsWindowOfMarks noted children w
all_of noted children w is closed some =
    let front : is.front ≡ [] = no_last is.front (grind (arith, closed, ap is_some is.before)) in
    let back : is.back ≡ [] = no_children is.back (first_of is.back) refl (grind (arith, closed, ap is_some is.behind)) in
    record {
      is = is;
      front_plain = λ k e. absurd (grind (arith, e, ap (is_among k) front));
      back_plain = λ k e. absurd (grind (arith, e, ap (is_among k) back));
      none = λ e. absurd (omega (arith, ap length e, some));
    }
  where
    no_last : (xs : List ℕ) → is_some (last_of xs) ≡ false → xs ≡ []
    no_last [] e = refl
    no_last (x ∷ xs) e = absurd (let l = last_is x xs in let there = ap is_some l.1 in cc)

pub none_window : (noted : ℕ → Bool) (children : List ℕ) (w : Window) → children ≡ [] → w.before ≡ None → w.keys.items ≡ [] → w.behind ≡ None
    → IsWindowOfMarks noted children w
none_window noted children w none before keys behind = record {
  is = record { front = []; back = []; list = none ∙ sym (ap (λ ks. ks ++ []) keys); before = before; behind = behind };
  front_plain = λ k e. absurd (cc);
  back_plain = λ k e. absurd (cc);
  none = λ e. none;
}

-- ---- the first child

pub some_child : (children : List ℕ) (first : Option ℕ) → first ≡ first_of children → is_some first ≡ true → (f : ℕ) × (first_of children ≡ Some f)
some_child [] first is some = absurd (let e = ap is_some is in cc)
some_child (x ∷ children) first is some = (x, refl)
