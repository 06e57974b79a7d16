-- Settling leaves a forest joined: a text that is empty, or two that are alike, are still to come in this pass or marked anew.
use Rattle.std.proofs.Common.{◌≡◌, ◌∙◌, ℕ, zero, suc, Bool, true, false, cond, eqb, ◌||◌, List, [], ◌∷◌, Option, None, Some, option_map, Result, Ok, Err, refl, sym, ap, subst, arith, inl, inr, ◌⊎◌}
use Rattle.std.proofs.lemmas.Bool.{cases_Bool}
use Rattle.std.proofs.lemmas.Bool.Decides.{eqb_tells}
use Rattle.lx_trees.specs.Siblings.{is_among, next_in, previous_from, previous_in, first_of, NoRepeats}
use Rattle.lx_trees.specs.Spots.{Spot}
use Rattle.lx_node.specs.Kinds.{is_element}
use Rattle.lx_node.specs.declared.fields.TextFields.{TextFields}
use Rattle.lx_node.specs.declared.cause.Cause.{Cause}
use Rattle.lx_trees.proofs.Siblings.{next_in-among}
use Rattle.lx_marks.specs.Marks.{Marked, flag_in, is_true_flag, is_touched}
use Rattle.lx_forest.specs.Forest.{Forest, Label}
use Rattle.lx_forest.specs.Lookups.{label_of, kind_of, parent_of, children_of, children_below, previous_of, next_of, is_attached, IsForest}
use Rattle.lx_forest.proofs.Siblings.{parent_of-next}
use Rattle.lx_forest.proofs.Lookups.{NoRepeats-children_of}
use Rattle.lx_draft.specs.Working.{Working}
use Rattle.lx_draft.specs.Faults.{after, text_in}
use Rattle.lx_draft.specs.Rounds.{round_by, elements_left}
use Rattle.lx_draft.specs.Covering.{is_element_in, AreElements, IsReady}
use Rattle.lx_edit.specs.InTurn.{in_turn}
use Rattle.lx_edit.specs.Texts.{if_simple, simple_at, join_around_step}
use Rattle.lx_rules.specs.Answers.{Answers}
use Rattle.lx_settle.specs.Acting.{rules_step}
use Rattle.lx_settle.specs.Passes.{leaf_step, leaf_pass, turns_of, element_pass}
use Rattle.lx_settle.specs.Settling.{taken, ended, passed, rounds, most_rounds, settle_step}
use Rattle.lx_settle.specs.Joined.{is_empty_text, are_alike, IsJoined}
use Rattle.lx_settle.proofs.Seen.{next_stays}
use Rattle.lx_settle.proofs.Carried.{IsCarried}
use Rattle.lx_settle.proofs.Turned.{rules_turned, leaf_turned}
use Rattle.lx_settle.proofs.Acted.{next_attached, join_carried}
use Rattle.lx_settle.proofs.Rest.{acts_are_marked}
use Rattle.lx_settle.proofs.JoinStep.{IsJoinedAt, join_stood, apart_behind, apart_before, simple_kind}
use Rattle.lx_settle.proofs.Settled.{no_leaf}

-- ---- the invariant

abbrev pub IsPending : List ℕ → Working → ℕ → Type 0
IsPending todo w q = (is_among q todo ≡ true) ⊎ (is_touched w.fresh q ≡ true)

pub record IsJoining (todo : List ℕ) (w : Working) : Type 0 where
  pub full : (q : ℕ) → is_attached w.forest q ≡ true → (is_empty_text (simple_at w.forest q) ≡ false) ⊎ IsPending todo w q
  pub apart : (q n : ℕ) → is_attached w.forest q ≡ true → next_of w.forest q ≡ Some n
      → (are_alike (simple_at w.forest q) (simple_at w.forest n) ≡ false) ⊎ (IsPending todo w q ⊎ IsPending todo w n)
  pub sorted : AreElements w.forest w.fresh
  pub ready : IsReady w

-- ---- what isn't marked is as it was

record IsAsBefore (w v : Working) (q : ℕ) : Type 0 where
  attached : is_attached w.forest q ≡ true
  simple : simple_at v.forest q ≡ simple_at w.forest q
  next : next_of v.forest q ≡ next_of w.forest q

as_before : (w v : Working) (q : ℕ) → IsCarried w v → is_attached v.forest q ≡ true → is_touched v.fresh q ≡ false → IsAsBefore w v q
as_before w v q c there unmarked =
    elim (c.covered.fresh.seen q) [
      | inl same ↦ record {
        attached = elim (c.home q there) [ inl was ↦ was | inr touched ↦ absurd (grind (arith, unmarked, touched)) ];
        simple = ap (λ o. if_simple (text_in (option_map (λ (s : Spot Label). s.label) o))) same.0;
        next = next_stays w.forest v.forest q same.1;
      }
      | inr touched ↦ absurd (grind (arith, unmarked, touched))
    ]

-- what the turn of a leaf owes beside that
pub record IsJoinTurn (k : ℕ) (w v : Working) : Type 0 where
  pub carried : IsCarried w v
  pub joined : is_attached v.forest k ≡ true → is_touched v.fresh k ≡ false → IsJoinedAt k w

-- ---- neighbours

apart_first : (x k : ℕ) (xs : List ℕ) → is_among k xs ≡ true → is_among x xs ≡ false → eqb x k ≡ false
apart_first x k xs among none =
    elim (eqb_tells x k) [ inl own ↦ absurd (grind (arith, none, ap (λ y. is_among y xs) own.1, among)) | inr other ↦ other.0 ]

first_previous : (x k : ℕ) (xs : List ℕ) → first_of xs ≡ Some k → (previous_from (Some x) xs k ≡ Some x) × (is_among k xs ≡ true)
first_previous x k [] e = absurd (cc)
first_previous x k (y ∷ ys) e =
    let same : y ≡ k = cc in
    let own : eqb y k ≡ true = grind (arith, same, eqb_tells y k) in
    (ap (λ b. cond b (Some x) (previous_from (Some y) ys k)) own, grind (arith, own))

next_previous_from : (b : Option ℕ) (xs : List ℕ) (q k : ℕ) → NoRepeats xs → next_in xs q ≡ Some k → previous_from b xs k ≡ Some q
next_previous_from b [] q k once e = absurd (cc)
next_previous_from b (x ∷ xs) q k once e = elim (eqb_tells x q) [
  | inl own ↦
      let f = first_previous x k xs (ap (λ t. cond t (first_of xs) (next_in xs q)) (sym own.0) ∙ e) in
      ap (λ t. cond t b (previous_from (Some x) xs k)) (apart_first x k xs f.1 once.0) ∙ f.0 ∙ ap (λ y. Some y) own.1
  | inr other ↦
      let rest : next_in xs q ≡ Some k = ap (λ t. cond t (first_of xs) (next_in xs q)) (sym other.0) ∙ e in
      ap (λ t. cond t b (previous_from (Some x) xs k)) (apart_first x k xs (next_in-among xs q k rest) once.0) ∙ next_previous_from (Some x) xs q k once.1 rest
]

next_previous_below : (f : Forest) (o : Option ℕ) (q k : ℕ) → IsForest f → parent_of f q ≡ o → next_of f q ≡ Some k → previous_of f k ≡ Some q
next_previous_below f None q k h up e =
    let both : ◌≡◌ {A = Option ℕ} None (Some k) = sym (ap (λ o. next_in (children_below f o) q) up) ∙ e in absurd (cc)
next_previous_below f (Some p) q k h up e =
    ap (λ o. previous_in (children_below f o) k) (parent_of-next f q k p h up e)
    ∙ next_previous_from None (children_of f p) q k (NoRepeats-children_of f p h) (sym (ap (λ o. next_in (children_below f o) q) up) ∙ e)

next_previous : (f : Forest) (q k : ℕ) → IsForest f → next_of f q ≡ Some k → previous_of f k ≡ Some q
next_previous f q k h e = next_previous_below f (parent_of f q) q k h refl e

-- ---- one turn

-- of those that were to come, one that had no turn is still to come
still_pending : (k : ℕ) (todo : List ℕ) (w v : Working) (q : ℕ) → IsCarried w v → eqb k q ≡ false → IsPending (k ∷ todo) w q → IsPending todo v q
still_pending k todo w v q c other p = elim p [ inl among ↦ inl (grind (arith, among, other)) | inr touched ↦ inr (c.covered.fresh.touched q touched) ]

full_by : (k : ℕ) (todo : List ℕ) (w v : Working) (q : ℕ) → IsJoining (k ∷ todo) w → IsJoinTurn k w v → is_attached v.forest q ≡ true
    → is_touched v.fresh q ≡ false → (is_empty_text (simple_at v.forest q) ≡ false) ⊎ IsPending todo v q
full_by k todo w v q j t there unmarked =
    let b = as_before w v q t.carried there unmarked in
    elim (j.full q b.attached) [
      | inl full ↦ inl (ap is_empty_text b.simple ∙ full)
      | inr pending ↦ elim (eqb_tells k q) [
        | inl own ↦
            inl (ap is_empty_text b.simple
            ∙ subst (λ x. is_empty_text (simple_at w.forest x) ≡ false) own.1
            (t.joined (subst (λ x. is_attached v.forest x ≡ true) (sym own.1) there) (subst (λ x. is_touched v.fresh x ≡ false) (sym own.1) unmarked)).full)
        | inr other ↦ inr (still_pending k todo w v q t.carried other.0 pending)
      ]
    ]

-- two neighbours of which one had its turn and neither is marked are apart
apart_turned : (k : ℕ) (w v : Working) (q n : ℕ) → IsReady w → IsJoinTurn k w v → is_attached v.forest q ≡ true → is_touched v.fresh q ≡ false
    → is_attached v.forest n ≡ true → is_touched v.fresh n ≡ false
    → next_of w.forest q ≡ Some n → (k ≡ q) ⊎ (k ≡ n) → are_alike (simple_at w.forest q) (simple_at w.forest n) ≡ false
apart_turned k w v q n r t there unmarked there_n unmarked_n next own = elim own [
  | inl first ↦
      apart_behind q n w (subst (λ x. is_attached v.forest x ≡ true → is_touched v.fresh x ≡ false → IsJoinedAt x w) first t.joined there unmarked) next
  | inr second ↦
      apart_before n q w (subst (λ x. is_attached v.forest x ≡ true → is_touched v.fresh x ≡ false → IsJoinedAt x w) second t.joined there_n unmarked_n)
      (next_previous w.forest q n r.in_order next)
]

apart_by : (k : ℕ) (todo : List ℕ) (w v : Working) (q n : ℕ) → IsJoining (k ∷ todo) w → IsJoinTurn k w v → is_attached v.forest q ≡ true
    → next_of v.forest q ≡ Some n → is_touched v.fresh q ≡ false → is_touched v.fresh n ≡ false
    → (are_alike (simple_at v.forest q) (simple_at v.forest n) ≡ false) ⊎ (IsPending todo v q ⊎ IsPending todo v n)
apart_by k todo w v q n j t there next unmarked unmarked_n =
    let there_n = next_attached v.forest q n t.carried.covered.ready.in_order there next in
    let b = as_before w v q t.carried there unmarked in
    let c = as_before w v n t.carried there_n unmarked_n in
    let was : next_of w.forest q ≡ Some n = sym b.next ∙ next in
    let back : are_alike (simple_at v.forest q) (simple_at v.forest n) ≡ are_alike (simple_at w.forest q) (simple_at w.forest n) =
    ap (λ o. are_alike o (simple_at v.forest n)) b.simple ∙ ap (are_alike (simple_at w.forest q)) c.simple in
    elim (eqb_tells k q) [
      | inl own ↦ inl (back ∙ apart_turned k w v q n j.ready t there unmarked there_n unmarked_n was (inl own.1))
      | inr other ↦ elim (eqb_tells k n) [
        | inl own ↦ inl (back ∙ apart_turned k w v q n j.ready t there unmarked there_n unmarked_n was (inr own.1))
        | inr another ↦ elim (j.apart q n b.attached was) [
          | inl apart ↦ inl (back ∙ apart)
          | inr pending ↦ inr (elim pending [
            | inl first ↦ inl (still_pending k todo w v q t.carried other.0 first)
            | inr second ↦ inr (still_pending k todo w v n t.carried another.0 second)
          ])
        ]
      ]
    ]

pub join_turned : (k : ℕ) (todo : List ℕ) (w v : Working) → IsJoining (k ∷ todo) w → IsJoinTurn k w v → IsJoining todo v
join_turned k todo w v j t = record {
  full = λ q there. elim (cases_Bool (is_touched v.fresh q)) [ inl touched ↦ inr (inr touched) | inr unmarked ↦ full_by k todo w v q j t there unmarked ];
  apart = λ q n there next. elim (cases_Bool (is_touched v.fresh q)) [
    | inl touched ↦ inr (inl (inr touched))
    | inr unmarked ↦
        elim (cases_Bool (is_touched v.fresh n))
        [ inl touched ↦ inr (inr (inr touched)) | inr unmarked_n ↦ apart_by k todo w v q n j t there next unmarked unmarked_n ]
  ];
  sorted = t.carried.covered.elements j.sorted;
  ready = t.carried.covered.ready;
}

-- a turn that joins nothing: an element's
pub joining_carried : (todo : List ℕ) (w v : Working) → IsJoining todo w → IsCarried w v → IsJoining todo v
joining_carried todo w v j c = record {
  full = λ q there. elim (cases_Bool (is_touched v.fresh q)) [
    | inl touched ↦ inr (inr touched)
    | inr unmarked ↦ let b =
        as_before w v q c there unmarked in
        elim (j.full q b.attached) [ inl full ↦ inl (ap is_empty_text b.simple ∙ full) | inr pending ↦ inr (pending_still todo w v q c pending) ]
  ];
  apart = λ q n there next. elim (cases_Bool (is_touched v.fresh q)) [
    | inl touched ↦ inr (inl (inr touched))
    | inr unmarked ↦ elim (cases_Bool (is_touched v.fresh n)) [
      | inl touched ↦ inr (inr (inr touched))
      | inr unmarked_n ↦
          let b = as_before w v q c there unmarked in
          let d = as_before w v n c (next_attached v.forest q n c.covered.ready.in_order there next) unmarked_n in
          elim (j.apart q n b.attached (sym b.next ∙ next)) [
            | inl apart ↦ inl (ap (λ o. are_alike o (simple_at v.forest n)) b.simple ∙ ap (are_alike (simple_at w.forest q)) d.simple ∙ apart)
            | inr pending ↦ inr (elim pending [ inl first ↦ inl (pending_still todo w v q c first) | inr second ↦ inr (pending_still todo w v n c second) ])
          ]
    ]
  ];
  sorted = c.covered.elements j.sorted;
  ready = c.covered.ready;
} where
  pending_still : (todo : List ℕ) (w v : Working) (q : ℕ) → IsCarried w v → IsPending todo w q → IsPending todo v q
  pending_still todo w v q c p = elim p [ inl among ↦ inl among | inr touched ↦ inr (c.covered.fresh.touched q touched) ]

-- ---- turns of leaves and of elements

was_unmarked : (u v : Working) (k : ℕ) → IsCarried u v → is_touched v.fresh k ≡ false → is_touched u.fresh k ≡ false
was_unmarked u v k c unmarked =
    elim (cases_Bool (is_touched u.fresh k)) [ inl touched ↦ absurd (grind (arith, unmarked, c.covered.fresh.touched k touched)) | inr none ↦ none ]

leaf_then : (rules : List Answers) (k : ℕ) (w v : Working) (s : Result Working Cause) → IsReady w → join_around_step k w ≡ s
    → after s (rules_step rules k) ≡ Ok v → is_attached v.forest k ≡ true → is_touched v.fresh k ≡ false → IsJoinedAt k w
leaf_then rules k w v (Ok u) r is e there unmarked =
    let c = join_carried k w u r is in
    let t = rules_turned acts_are_marked rules k u v c.covered.ready e in
    (join_stood k w u r is (as_before u v k t.carried there unmarked).attached (was_unmarked u v k t.carried unmarked)).1
leaf_then rules k w v (Err cause) r is e there unmarked = absurd (cc)

leaf_by : (rules : List Answers) (k : ℕ) (here : Bool) (w v : Working) → is_attached w.forest k ≡ here → IsReady w
    → cond here (after (join_around_step k w) (rules_step rules k)) (Ok w) ≡ Ok v
    → is_attached v.forest k ≡ true → is_touched v.fresh k ≡ false → IsJoinedAt k w
leaf_by rules k true w v is r e there unmarked = leaf_then rules k w v (join_around_step k w) r refl e there unmarked
leaf_by rules k false w v is r e there unmarked =
    let same : v ≡ w = cc in absurd (grind (arith, is, subst (λ x. is_attached x.forest k ≡ true) same there))

leaf_joined : (rules : List Answers) (k : ℕ) (w v : Working) → IsReady w → leaf_step rules k w ≡ Ok v → is_attached v.forest k ≡ true
    → is_touched v.fresh k ≡ false → IsJoinedAt k w
unfolding leaf_step
leaf_joined rules k w v r e there unmarked = leaf_by rules k (is_attached w.forest k) w v refl r e there unmarked

leaf_join_turn : (rules : List Answers) (k : ℕ) (w v : Working) → IsReady w → leaf_step rules k w ≡ Ok v → IsJoinTurn k w v
leaf_join_turn rules k w v r e = record {
  carried = (leaf_turned acts_are_marked rules k w v r e).carried;
  joined = λ there unmarked. leaf_joined rules k w v r e there unmarked;
}

-- ---- passes

one_more : (rules : List Answers) (step : ℕ → Working → Result Working Cause) (k : ℕ) (todo left : List ℕ) (w v : Working) (s : Result Working Cause)
    → ((u : Working) → s ≡ Ok u → IsJoining left u)
    → ((u : Working) → IsJoining left u → in_turn step todo u ≡ Ok v → IsJoining [] v) → after s (in_turn step todo) ≡ Ok v → IsJoining [] v
one_more rules step k todo left w v (Ok u) first second e = second u (first u refl) e
one_more rules step k todo left w v (Err cause) first second e = absurd (cc)

over_leaves : (rules : List Answers) (todo : List ℕ) (w v : Working) → IsJoining todo w → in_turn (leaf_step rules) todo w ≡ Ok v → IsJoining [] v
unfolding in_turn
over_leaves rules [] w v j e = let same : w ≡ v = cc in subst (IsJoining []) same j
over_leaves rules (k ∷ todo) w v j e =
    one_more rules (leaf_step rules) k todo todo w v (leaf_step rules k w) (λ u f. join_turned k todo w u j (leaf_join_turn rules k w u j.ready f))
    (λ u next f. over_leaves rules todo u v next f) e

over_elements : (rules : List Answers) (todo : List ℕ) (w v : Working) → IsJoining [] w → in_turn (rules_step rules) todo w ≡ Ok v → IsJoining [] v
unfolding in_turn
over_elements rules [] w v j e = let same : w ≡ v = cc in subst (IsJoining []) same j
over_elements rules (k ∷ todo) w v j e =
    one_more rules (rules_step rules) k todo [] w v (rules_step rules k w)
    (λ u f. joining_carried [] w u j ((rules_turned acts_are_marked rules k w u j.ready f).carried))
    (λ u next f. over_elements rules todo u v next f) e

-- ---- rounds

-- a simple text is no element, so it isn't marked as one
no_element : (f : Forest) (m : Marked) (q : ℕ) (t : TextFields) → AreElements f m → simple_at f q ≡ Some t → is_true_flag (flag_in m.elements q) ≡ true → ⊥
unfolding is_element
no_element f m q t s e flag =
    let text : is_element_in (kind_of f q) ≡ false = ap is_element_in (simple_kind (label_of f q) t e) in
    grind (arith, text, s.each q flag)

leaves_taken : (w : Working) (k : ℕ) (ks : List ℕ) → w.fresh.leaves ≡ k ∷ ks → IsJoining [] w → IsJoining (k ∷ ks) (taken w)
leaves_taken w k ks leaves j = record {
  full = λ q there. elim (j.full q there) [ inl full ↦ inl full | inr pending ↦ inr (moved q pending) ];
  apart = λ q n there next. elim (j.apart q n there next)
      [ inl apart ↦ inl apart | inr pending ↦ inr (elim pending [ inl first ↦ inl (moved q first) | inr second ↦ inr (moved n second) ]) ];
  sorted = record { each = λ q flag. j.sorted.each q (sym (ap (λ xs. is_true_flag (flag_in (elements_left xs w.fresh.elements) q)) leaves) ∙ flag) };
  ready = record { in_order = j.ready.in_order; free = j.ready.free };
} where
  by_leaves : (leaves : List ℕ) (es : List (ℕ × Bool)) (q : ℕ) → leaves ≡ k ∷ ks → (is_among q leaves || is_true_flag (flag_in es q)) ≡ true
      → (is_among q (k ∷ ks) ≡ true) ⊎ ((is_among q [] || is_true_flag (flag_in (elements_left leaves es) q)) ≡ true)
  by_leaves leaves es q is e =
      elim (cases_Bool (is_among q leaves)) [
        | inl among ↦ inl (ap (is_among q) (sym is) ∙ among)
        | inr none ↦ inr (ap (λ xs. is_true_flag (flag_in (elements_left xs es) q)) is ∙ grind (arith, e, none))
      ]

  moved : (q : ℕ) → IsPending [] w q → IsPending (k ∷ ks) (taken w) q
  moved q p = elim p [ inl among ↦ absurd (cc) | inr touched ↦ by_leaves w.fresh.leaves w.fresh.elements q leaves touched ]

-- where no leaf is marked no text is pending
none_pending : (w : Working) (q : ℕ) (t : TextFields) → w.fresh.leaves ≡ [] → AreElements w.forest w.fresh → simple_at w.forest q ≡ Some t → IsPending [] w q
    → ⊥
none_pending w q t leaves s is p = elim p [
  | inl among ↦ cc
  | inr touched ↦ no_element w.forest w.fresh q t s is (no_leaf w.fresh.leaves (is_true_flag (flag_in w.fresh.elements q)) q leaves touched)
]

full_now : (w : Working) (q : ℕ) → w.fresh.leaves ≡ [] → IsJoining [] w → is_attached w.forest q ≡ true → is_empty_text (simple_at w.forest q) ≡ false
full_now w q leaves j there = elim (j.full q there) [ inl full ↦ full | inr pending ↦ by_text (simple_at w.forest q) refl pending ] where
  by_text : (o : Option TextFields) → simple_at w.forest q ≡ o → IsPending [] w q → is_empty_text (simple_at w.forest q) ≡ false
  by_text None is p = ap is_empty_text is
  by_text (Some t) is p = absurd (none_pending w q t leaves j.sorted is p)

apart_now : (w : Working) (q n : ℕ) → w.fresh.leaves ≡ [] → IsJoining [] w → is_attached w.forest q ≡ true → next_of w.forest q ≡ Some n
    → are_alike (simple_at w.forest q) (simple_at w.forest n) ≡ false
apart_now w q n leaves j there next =
    elim (j.apart q n there next) [ inl apart ↦ apart | inr pending ↦ by_texts (simple_at w.forest q) (simple_at w.forest n) refl refl pending ] where
      by_texts : (a b : Option TextFields) → simple_at w.forest q ≡ a → simple_at w.forest n ≡ b → IsPending [] w q ⊎ IsPending [] w n
          → are_alike (simple_at w.forest q) (simple_at w.forest n) ≡ false
      by_texts None b is_a is_b p = ap (λ o. are_alike o (simple_at w.forest n)) is_a
      by_texts (Some a) None is_a is_b p = ap (λ o. are_alike o (simple_at w.forest n)) is_a ∙ ap (are_alike (Some a)) is_b
      by_texts (Some a) (Some b) is_a is_b p =
          absurd (elim p [ inl first ↦ none_pending w q a leaves j.sorted is_a first | inr second ↦ none_pending w n b leaves j.sorted is_b second ])

elements_taken : (w : Working) → w.fresh.leaves ≡ [] → IsJoining [] w → IsJoining [] (taken w)
elements_taken w leaves j = record {
  full = λ q there. inl (full_now w q leaves j there);
  apart = λ q n there next. inl (apart_now w q n leaves j there next);
  sorted = record { each = λ q flag. absurd (no_flag w.fresh.leaves q leaves flag) };
  ready = record { in_order = j.ready.in_order; free = j.ready.free };
} where
  no_flag : (xs : List ℕ) (q : ℕ) → xs ≡ [] → is_true_flag (flag_in (elements_left xs w.fresh.elements) q) ≡ true → ⊥
  no_flag [] q is e = cc
  no_flag (x ∷ xs) q is e = cc

all_joined : (w : Working) → w.fresh.leaves ≡ [] → IsJoining [] w → IsJoined w.forest
all_joined w leaves j = record {
  full = λ q there. full_now w q leaves j there;
  apart = λ q n there next. apart_now w q n leaves j there next;
}

pass_then : (w v : Working) (s : Result Working Cause) (again : Working → Result Working Cause) → ((u : Working) → s ≡ Ok u → IsJoining [] u)
    → ((u : Working) → IsJoining [] u → again u ≡ Ok v → IsJoined v.forest) → after s again ≡ Ok v → IsJoined v.forest
pass_then w v (Ok u) again first second e = second u (first u refl) e
pass_then w v (Err cause) again first second e = absurd (cc)

round_by_lists : (rules : List Answers) (leaves : List ℕ) (es : List (ℕ × Bool)) (w v : Working) (again : Working → Result Working Cause)
    → w.fresh.leaves ≡ leaves → IsJoining [] w
    → ((u : Working) → IsJoining [] u → again u ≡ Ok v → IsJoined v.forest) → passed rules (round_by leaves es) again w ≡ Ok v → IsJoined v.forest
unfolding leaf_pass element_pass
round_by_lists rules (k ∷ ks) es w v again leaves j next e =
    pass_then w v (leaf_pass rules (k ∷ ks) (taken w)) again (λ x f. over_leaves rules (k ∷ ks) (taken w) x (leaves_taken w k ks leaves j) f) next e
round_by_lists rules [] (x ∷ es) w v again leaves j next e =
    pass_then w v (element_pass rules (x ∷ es) (taken w)) again (λ y f. over_elements rules (turns_of (x ∷ es)) (taken w) y (elements_taken w leaves j) f) next
    e
round_by_lists rules [] [] w v again leaves j next e = let same : w ≡ v = cc in subst (λ x. IsJoined x.forest) same (all_joined w leaves j)

ended_by_lists : (leaves : List ℕ) (es : List (ℕ × Bool)) (w v : Working) → w.fresh.leaves ≡ leaves → IsJoining [] w → ended (round_by leaves es) w ≡ Ok v
    → IsJoined v.forest
ended_by_lists (k ∷ ks) es w v leaves j e = absurd (cc)
ended_by_lists [] (x ∷ es) w v leaves j e = absurd (cc)
ended_by_lists [] [] w v leaves j e = let same : w ≡ v = cc in subst (λ x. IsJoined x.forest) same (all_joined w leaves j)

rounds_join : (rules : List Answers) (n : ℕ) (w v : Working) → IsJoining [] w → rounds rules n w ≡ Ok v → IsJoined v.forest
unfolding rounds
rounds_join rules zero w v j e = ended_by_lists w.fresh.leaves w.fresh.elements w v refl j e
rounds_join rules (suc n) w v j e =
    round_by_lists rules w.fresh.leaves w.fresh.elements w v (rounds rules n) refl j (λ x way f. rounds_join rules n x v way f) e

-- Where each text that is empty, and one of two that are alike, is marked anew, settling leaves the forest joined.
pub joins : (rules : List Answers) (w v : Working) → IsJoining [] w → settle_step rules w ≡ Ok v → IsJoined v.forest
unfolding settle_step
joins rules w v j e = rounds_join rules most_rounds w v j e
