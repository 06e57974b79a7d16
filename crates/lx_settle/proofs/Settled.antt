-- Settling leaves a forest rested: each marked node is still to come in this pass, or marked anew, or at rest, or not in the
-- root's tree.
use Rattle.std.proofs.Common.{◌≡◌, ◌∙◌, ℕ, zero, suc, Bool, true, false, cond, eqb, ◌||◌, ◌&&◌, not, List, [], ◌∷◌, Option, None, Some, Result, Ok, Err, refl, sym, ap, subst, arith, inl, inr, ◌⊎◌}
use Rattle.std.specs.Prelude.{is_some}
use Rattle.std.proofs.lemmas.Bool.{cases_Bool}
use Rattle.std.proofs.lemmas.Bool.Decides.{eqb_tells}
use Rattle.lx_trees.specs.Siblings.{is_among}
use Rattle.lx_trees.proofs.Siblings.{is_among-append}
use Rattle.lx_node.specs.declared.cause.Cause.{Cause}
use Rattle.lx_marks.specs.Marks.{Marked, flag_in, is_true_flag}
use Rattle.lx_forest.specs.Lookups.{is_attached}
use Rattle.lx_forest.specs.Views.{view_of}
use Rattle.lx_draft.specs.Working.{Working}
use Rattle.lx_draft.specs.Faults.{after}
use Rattle.lx_draft.specs.Rounds.{round_by, elements_left}
use Rattle.lx_draft.specs.Covering.{IsReady}
use Rattle.lx_edit.specs.InTurn.{in_turn}
use Rattle.lx_rules.specs.Answers.{Answers}
use Rattle.lx_settle.specs.Acting.{rules_step}
use Rattle.lx_settle.specs.Passes.{leaf_step, leaf_pass, flagged_first, turns_of, element_pass}
use Rattle.lx_settle.specs.Settling.{taken, ended, passed, rounds, most_rounds, settle_step}
use Rattle.lx_settle.specs.Rested.{is_due, is_uneasy, IsRested}
use Rattle.lx_settle.proofs.Seen.{view_stays}
use Rattle.lx_settle.proofs.Carried.{IsCarried, fresh_stays, told_due, due_of_touched}
use Rattle.lx_settle.proofs.Turned.{ActsAreMarked, IsTurn, rules_turned, leaf_turned}

-- ---- under way

-- a node is still to come among these, or it is marked anew
abbrev pub Waits : List ℕ → Working → ℕ → Type 0
Waits todo w q = (is_among q todo ≡ true) ⊎ (is_due w.fresh q ≡ true)

pub record IsUnderWay (rules : List Answers) (todo : List ℕ) (w : Working) : Type 0 where
  pub each : (q : ℕ) → is_attached w.forest q ≡ true → is_due w.marks q ≡ true → Waits todo w q ⊎ (is_uneasy rules (view_of w.forest q) ≡ false)
  pub ready : IsReady w

-- a node that isn't marked anew is at rest if it was
rests_still : (rules : List Answers) (w v : Working) (q : ℕ) → IsReady w → IsCarried w v → is_due v.fresh q ≡ false
    → is_uneasy rules (view_of w.forest q) ≡ false → is_uneasy rules (view_of v.forest q) ≡ false
rests_still rules w v q r c unmarked rest =
    elim (c.covered.fresh.seen q) [
      | inl same ↦ ap (is_uneasy rules) (view_stays w.forest v.forest q r.in_order c.covered.kinds same.0 same.1) ∙ rest
      | inr touched ↦ absurd (grind (arith, unmarked, due_of_touched v.fresh q touched))
    ]

was_here : (w v : Working) (q : ℕ) → IsCarried w v → is_due v.fresh q ≡ false → is_attached v.forest q ≡ true → is_attached w.forest q ≡ true
was_here w v q c unmarked there =
    elim (c.home q there) [ inl was ↦ was | inr touched ↦ absurd (grind (arith, unmarked, due_of_touched v.fresh q touched)) ]

was_due : (w v : Working) (q : ℕ) → IsCarried w v → is_due v.fresh q ≡ false → is_due v.marks q ≡ true → is_due w.marks q ≡ true
was_due w v q c unmarked marked =
    elim (told_due w v q c marked) [ inl was ↦ was | inr new ↦ absurd (grind (arith, unmarked, new)) ]

-- of those that still come, the first has had its turn
turned_one : (rules : List Answers) (k : ℕ) (todo : List ℕ) (w v : Working) (q : ℕ) → IsTurn rules k w v → is_attached v.forest q ≡ true
    → is_among q (k ∷ todo) ≡ true
    → is_due v.fresh q ≡ false → (is_among q todo ≡ true) ⊎ (is_uneasy rules (view_of v.forest q) ≡ false)
turned_one rules k todo w v q t there among unmarked =
    elim (eqb_tells k q) [
      | inl own ↦
          inr (subst (λ x. is_attached v.forest x ≡ true → is_due v.fresh x ≡ false → is_uneasy rules (view_of v.forest x) ≡ false) own.1 t.handled there
          unmarked)
      | inr other ↦ inl (grind (arith, among, other.0))
    ]

waited : (rules : List Answers) (k : ℕ) (todo : List ℕ) (w v : Working) (q : ℕ) → IsTurn rules k w v → is_attached v.forest q ≡ true → is_due v.fresh q ≡ false
    → Waits (k ∷ todo) w q
    → Waits todo v q ⊎ (is_uneasy rules (view_of v.forest q) ≡ false)
waited rules k todo w v q t there unmarked waits =
    elim waits [
      | inl among ↦ elim (turned_one rules k todo w v q t there among unmarked) [ inl to_come ↦ inl (inl to_come) | inr rest ↦ inr rest ]
      | inr fresh ↦ inl (inr (fresh_stays w v q t.carried fresh))
    ]

pub turn_taken : (rules : List Answers) (k : ℕ) (todo : List ℕ) (w v : Working) → IsUnderWay rules (k ∷ todo) w → IsTurn rules k w v → IsUnderWay rules todo v
turn_taken rules k todo w v u t = record {
  each = λ q there marked. elim (cases_Bool (is_due v.fresh q)) [
    | inl new ↦ inl (inr new)
    | inr unmarked ↦ elim (u.each q (was_here w v q t.carried unmarked there) (was_due w v q t.carried unmarked marked)) [
      | inl waits ↦ waited rules k todo w v q t there unmarked waits
      | inr rest ↦ inr (rests_still rules w v q u.ready t.carried unmarked rest)
    ]
  ];
  ready = t.carried.covered.ready;
}

-- ---- passes

over_first : (rules : List Answers) (step : ℕ → Working → Result Working Cause) (k : ℕ) (todo : List ℕ) (w v : Working) (r : Result Working Cause)
    → IsUnderWay rules (k ∷ todo) w
    → ((u : Working) → r ≡ Ok u → IsTurn rules k w u) → ((u : Working) → IsUnderWay rules todo u → in_turn step todo u ≡ Ok v → IsUnderWay rules [] v)
    → after r (in_turn step todo) ≡ Ok v → IsUnderWay rules [] v
over_first rules step k todo w v (Ok u) way first second e = second u (turn_taken rules k todo w u way (first u refl)) e
over_first rules step k todo w v (Err cause) way first second e = absurd (cc)

pub over_all : (rules : List Answers) (step : ℕ → Working → Result Working Cause) → ((k : ℕ) (w v : Working) → IsReady w → step k w ≡ Ok v → IsTurn rules k w v)
    → (todo : List ℕ) (w v : Working) → IsUnderWay rules todo w → in_turn step todo w ≡ Ok v → IsUnderWay rules [] v
unfolding in_turn
over_all rules step each [] w v way e = let same : w ≡ v = cc in subst (IsUnderWay rules []) same way
over_all rules step each (k ∷ todo) w v way e =
    over_first rules step k todo w v (step k w) way (λ u f. each k w u way.ready f) (λ u next f. over_all rules step each todo u v next f) e

-- ---- rounds

-- the test of a flag, in one for leaves and elements
abbrev is_due_by : Option Bool → ℕ → Bool
is_due_by o q = cond (eqb q 0) (is_some o) (is_true_flag o)

due_either : (m : Marked) (q : ℕ) → is_due m q ≡ (is_among q m.leaves || is_due_by (flag_in m.elements q) q)
due_either m q = by_tests (eqb q 0) (is_among q m.leaves) (is_some (flag_in m.elements q)) (is_true_flag (flag_in m.elements q)) where
  by_tests : (root a b c : Bool) → cond root (a || b) (a || c) ≡ (a || cond root b c)
  by_tests true a b c = refl
  by_tests false a b c = refl

-- an element where rules are due has its turn
flagged_among : (es : List (ℕ × Bool)) (q : ℕ) → eqb q 0 ≡ false → is_due_by (flag_in es q) q ≡ true → is_among q (flagged_first es) ≡ true
flagged_among [] q other e = absurd (grind (arith, e))
flagged_among (x ∷ es) q other e =
    flagged_by x.0 x.1 es q (eqb q x.0) other refl (flagged_among es q other) e where
      later : (root : Bool) (k q : ℕ) (ks : List ℕ) → is_among q ks ≡ true → is_among q (cond (not root) (k ∷ ks) ks) ≡ true
      later true k q ks e = e
      later false k q ks e = grind (arith, e)

      flagged_by : (k : ℕ) (flag : Bool) (rest : List (ℕ × Bool)) (q : ℕ) (own : Bool) → eqb q 0 ≡ false → eqb q k ≡ own
          → (is_due_by (flag_in rest q) q ≡ true → is_among q (flagged_first rest) ≡ true)
          → is_due_by (cond own (Some flag) (flag_in rest q)) q ≡ true
          → is_among q (cond (flag && not (eqb k 0)) (k ∷ flagged_first rest) (flagged_first rest)) ≡ true
      flagged_by k flag rest q true other same there e = grind (arith, other, same, e, eqb_tells q k, eqb_tells k q)
      flagged_by k true rest q false other same there e = later (eqb k 0) k q (flagged_first rest) (there e)
      flagged_by k false rest q false other same there e = there e

flagged_turn : (es : List (ℕ × Bool)) (q : ℕ) → is_due_by (flag_in es q) q ≡ true → is_among q (turns_of es) ≡ true
flagged_turn es q e =
    is_among-append q (flagged_first es) (cond (is_some (flag_in es 0)) (0 ∷ []) [])
    ∙ elim (eqb_tells q 0) [
      | inl root ↦ last_turn (is_among q (flagged_first es)) (flag_in es 0) q root.1 (ap (λ x. is_due_by (flag_in es x) q) (sym root.1) ∙ e)
      | inr other ↦ first_turn (is_among q (flagged_first es)) (is_among q (cond (is_some (flag_in es 0)) (0 ∷ []) [])) (flagged_among es q other.0 e)
    ] where
      first_turn : (a b : Bool) → a ≡ true → (a || b) ≡ true
      first_turn a b e = grind (arith, e)

      last_turn : (a : Bool) (o : Option Bool) (q : ℕ) → q ≡ 0 → is_due_by o q ≡ true → (a || is_among q (cond (is_some o) (0 ∷ []) [])) ≡ true
      last_turn a None q root e = absurd (grind (arith, e))
      last_turn a (Some flag) q root e = grind (arith, root, eqb_tells 0 q)

-- what is handled next, and what is left then
leaves_taken : (rules : List Answers) (w : Working) (k : ℕ) (ks : List ℕ) → w.fresh.leaves ≡ k ∷ ks → IsUnderWay rules [] w
    → IsUnderWay rules (k ∷ ks) (taken w)
leaves_taken rules w k ks leaves u = record {
  each = λ q there marked. elim (u.each q there marked) [
    | inl waits ↦ elim waits [
      | inl among ↦ absurd (cc)
      | inr fresh ↦ inl (moved q fresh)
    ]
    | inr rest ↦ inr rest
  ];
  ready = record { in_order = u.ready.in_order; free = u.ready.free };
} where
  by_leaves : (leaves : List ℕ) (k : ℕ) (ks : List ℕ) (o : Option Bool) (es : List (ℕ × Bool)) (q : ℕ) → leaves ≡ k ∷ ks → flag_in es q ≡ o
      → (is_among q leaves || is_due_by o q) ≡ true
      → (is_among q (k ∷ ks) ≡ true) ⊎ ((is_among q [] || is_due_by (flag_in (elements_left leaves es) q) q) ≡ true)
  by_leaves leaves k ks o es q is flag e =
      elim (cases_Bool (is_among q leaves)) [
        | inl among ↦ inl (ap (is_among q) (sym is) ∙ among)
        | inr none ↦ inr (ap (λ xs. is_due_by (flag_in (elements_left xs es) q) q) is ∙ ap (λ x. is_due_by x q) flag ∙ grind (arith, e, none))
      ]

  moved : (q : ℕ) → is_due w.fresh q ≡ true → Waits (k ∷ ks) (taken w) q
  moved q due =
      elim (by_leaves w.fresh.leaves k ks (flag_in w.fresh.elements q) w.fresh.elements q leaves refl (sym (due_either w.fresh q) ∙ due)) [
        | inl among ↦ inl among
        | inr still ↦ inr (due_either (taken w).fresh q ∙ still)
      ]

pub no_leaf : (xs : List ℕ) (b : Bool) (q : ℕ) → xs ≡ [] → (is_among q xs || b) ≡ true → b ≡ true
no_leaf [] b q is e = e
no_leaf (x ∷ xs) b q is e = absurd (cc)

elements_taken : (rules : List Answers) (w : Working) (es : List (ℕ × Bool)) → w.fresh.leaves ≡ [] → w.fresh.elements ≡ es → IsUnderWay rules [] w
    → IsUnderWay rules (turns_of es) (taken w)
elements_taken rules w es leaves elements u = record {
  each = λ q there marked. elim (u.each q there marked) [
    | inl waits ↦ elim waits [
      | inl among ↦ absurd (cc)
      | inr fresh ↦
          inl (inl
          (flagged_turn es q
          (ap (λ x. is_due_by (flag_in x q) q) (sym elements)
          ∙ no_leaf w.fresh.leaves (is_due_by (flag_in w.fresh.elements q) q) q leaves (sym (due_either w.fresh q) ∙ fresh))))
    ]
    | inr rest ↦ inr rest
  ];
  ready = record { in_order = u.ready.in_order; free = u.ready.free };
}

-- where nothing is marked anew, all rests
all_rest : (rules : List Answers) (w : Working) → w.fresh.leaves ≡ [] → w.fresh.elements ≡ [] → IsUnderWay rules [] w → IsRested rules w.forest w.marks
all_rest rules w leaves elements u = record {
  each = λ q there marked. elim (u.each q there marked) [
    | inl waits ↦ elim waits [
      | inl among ↦ absurd (cc)
      | inr fresh ↦ absurd (none_left w.fresh.leaves w.fresh.elements q leaves elements (sym (due_either w.fresh q) ∙ fresh))
    ]
    | inr rest ↦ rest
  ];
} where
  none_left : (xs : List ℕ) (es : List (ℕ × Bool)) (q : ℕ) → xs ≡ [] → es ≡ [] → (is_among q xs || is_due_by (flag_in es q) q) ≡ true → ⊥
  none_left [] [] q a b e = grind (arith, e)
  none_left (x ∷ xs) es q a b e = cc
  none_left [] (x ∷ es) q a b e = cc

pass_then : (rules : List Answers) (w v : Working) (r : Result Working Cause) (again : Working → Result Working Cause)
    → ((u : Working) → r ≡ Ok u → IsUnderWay rules [] u)
    → ((u : Working) → IsUnderWay rules [] u → again u ≡ Ok v → IsRested rules v.forest v.marks) → after r again ≡ Ok v → IsRested rules v.forest v.marks
pass_then rules w v (Ok u) again first second e = second u (first u refl) e
pass_then rules w v (Err cause) again first second e = absurd (cc)

round_by_lists : ActsAreMarked → (rules : List Answers) (leaves : List ℕ) (es : List (ℕ × Bool)) (w v : Working) (again : Working → Result Working Cause)
    → w.fresh.leaves ≡ leaves → w.fresh.elements ≡ es → IsUnderWay rules [] w
    → ((u : Working) → IsUnderWay rules [] u → again u ≡ Ok v → IsRested rules v.forest v.marks) → passed rules (round_by leaves es) again w ≡ Ok v
    → IsRested rules v.forest v.marks
unfolding leaf_pass element_pass
round_by_lists laws rules (k ∷ ks) es w v again leaves elements u next e =
    pass_then rules w v (leaf_pass rules (k ∷ ks) (taken w)) again
    (λ x f. over_all rules (leaf_step rules) (λ q a b s g. leaf_turned laws rules q a b s g) (k ∷ ks) (taken w) x (leaves_taken rules w k ks leaves u) f) next e
round_by_lists laws rules [] (x ∷ es) w v again leaves elements u next e =
    pass_then rules w v (element_pass rules (x ∷ es) (taken w)) again
    (λ y f. over_all rules (rules_step rules) (λ q a b s g. rules_turned laws rules q a b s g) (turns_of (x ∷ es)) (taken w) y
    (elements_taken rules w (x ∷ es) leaves elements u) f) next e
round_by_lists laws rules [] [] w v again leaves elements u next e =
    let same : w ≡ v = cc in subst (λ x. IsRested rules x.forest x.marks) same (all_rest rules w leaves elements u)

ended_by_lists : (rules : List Answers) (leaves : List ℕ) (es : List (ℕ × Bool)) (w v : Working) → w.fresh.leaves ≡ leaves → w.fresh.elements ≡ es
    → IsUnderWay rules [] w
    → ended (round_by leaves es) w ≡ Ok v → IsRested rules v.forest v.marks
ended_by_lists rules (k ∷ ks) es w v leaves elements u e = absurd (cc)
ended_by_lists rules [] (x ∷ es) w v leaves elements u e = absurd (cc)
ended_by_lists rules [] [] w v leaves elements u e =
    let same : w ≡ v = cc in subst (λ x. IsRested rules x.forest x.marks) same (all_rest rules w leaves elements u)

rounds_rest : ActsAreMarked → (rules : List Answers) (n : ℕ) (w v : Working) → IsUnderWay rules [] w → rounds rules n w ≡ Ok v → IsRested rules v.forest v.marks
unfolding rounds
rounds_rest laws rules zero w v u e = ended_by_lists rules w.fresh.leaves w.fresh.elements w v refl refl u e
rounds_rest laws rules (suc n) w v u e =
    round_by_lists laws rules w.fresh.leaves w.fresh.elements w v (rounds rules n) refl refl u (λ x way f. rounds_rest laws rules n x v way f) e

-- Where all that is marked is still to be handled, settling leaves the forest rested for the marks.
pub settled_rests : ActsAreMarked → (rules : List Answers) (w v : Working) → IsReady w → ((q : ℕ) → is_due w.marks q ≡ true → is_due w.fresh q ≡ true)
    → settle_step rules w ≡ Ok v → IsRested rules v.forest v.marks
unfolding settle_step
settled_rests laws rules w v r all e =
    rounds_rest laws rules most_rounds w v (record { each = λ q there marked. inl (inr (all q marked)); ready = r }) e
