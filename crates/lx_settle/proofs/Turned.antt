-- The turn of one node: it is at rest then, or is marked anew, or isn't in the root's tree any more.
use Rattle.std.proofs.Common.{◌≡◌, ◌∙◌, ℕ, Bool, true, false, cond, ◌||◌, ◌&&◌, List, [], ◌∷◌, Option, None, Some, Result, Ok, Err, refl, sym, subst, arith}
use Rattle.std.specs.List.{list_any}
use Rattle.lx_node.specs.declared.node.View.{View}
use Rattle.lx_node.specs.declared.cause.Cause.{Cause}
use Rattle.lx_step.specs.declared.rule.SelfEdit.{SelfEdit}
use Rattle.lx_forest.specs.Lookups.{is_attached}
use Rattle.lx_forest.specs.Views.{view_of}
use Rattle.lx_draft.specs.Working.{Working}
use Rattle.lx_draft.specs.Faults.{after}
use Rattle.lx_draft.specs.Covering.{IsReady}
use Rattle.lx_edit.specs.InTurn.{in_turn}
use Rattle.lx_edit.specs.Texts.{join_around_step}
use Rattle.lx_rules.specs.Answers.{Answers}
use Rattle.lx_settle.specs.Acting.{act_step, has_work_at, edit_step, answered_at, rule_step, rules_step}
use Rattle.lx_settle.specs.Passes.{leaf_step}
use Rattle.lx_settle.specs.Rested.{is_due, is_uneasy}
use Rattle.lx_settle.proofs.Carried.{IsCarried, carried_self, carried_then}
use Rattle.lx_settle.proofs.Tests.{first_of, second_of}

-- what is owed of edits of rules and of the join step
pub record ActsAreMarked : Type 0 where
  pub act : (edit : SelfEdit) (k : ℕ) (w v : Working) → IsReady w → is_attached w.forest k ≡ true → has_work_at (view_of w.forest k) edit ≡ true
      → act_step edit k w ≡ Ok v → IsCarried w v × (is_attached v.forest k ≡ true → is_due v.fresh k ≡ true)
  pub join : (k : ℕ) (w v : Working) → IsReady w → join_around_step k w ≡ Ok v → IsCarried w v

-- If the node is still in the tree and isn't marked anew, nothing was done, and this holds.
abbrev pub Stood : ℕ → Working → Working → Type 0 → Type 0
Stood k w v P = is_attached v.forest k ≡ true → is_due v.fresh k ≡ false → (v ≡ w) × P

-- ---- one after another

both_false : (a b : Bool) → a ≡ false → b ≡ false → (a || b) ≡ false
both_false a b e f = grind (arith, e, f)

stood_nothing : (k : ℕ) (w v : Working) (P : Type 0) → P → ◌≡◌ {A = Result Working Cause} (Ok w) (Ok v) → Stood k w v P
stood_nothing k w v P p e = λ there unmarked. (let same : v ≡ w = cc in same, p)

stood_then : {A : Type 0} (busy : Working → A → Bool) (k : ℕ) (a : A) (rest : List A) (w u v : Working) → Stood k w u (busy w a ≡ false)
    → Stood k u v (list_any (busy u) rest ≡ false)
    → Stood k w v (list_any (busy w) (a ∷ rest) ≡ false)
stood_then busy k a rest w u v first second = λ there unmarked.
    let s = second there unmarked in
    let f = first (subst (λ x. is_attached x.forest k ≡ true) s.0 there) (subst (λ x. is_due x.fresh k ≡ false) s.0 unmarked) in
    (s.0 ∙ f.0, both_false (busy w a) (list_any (busy w) rest) f.1 (subst (λ x. list_any (busy x) rest ≡ false) f.0 s.1))

carried_nothing : (w v : Working) → IsReady w → ◌≡◌ {A = Result Working Cause} (Ok w) (Ok v) → IsCarried w v
carried_nothing w v r e = let same : w ≡ v = cc in subst (IsCarried w) same (carried_self w r)

one_then : {A : Type 0} (step : A → Working → Result Working Cause) (busy : Working → A → Bool) (k : ℕ) (a : A) (rest : List A) (w v : Working)
    (r : Result Working Cause)
    → ((u : Working) → r ≡ Ok u → IsCarried w u × Stood k w u (busy w a ≡ false))
    → ((u : Working) → IsReady u → in_turn step rest u ≡ Ok v → IsCarried u v × Stood k u v (list_any (busy u) rest ≡ false))
    → after r (in_turn step rest) ≡ Ok v → IsCarried w v × Stood k w v (list_any (busy w) (a ∷ rest) ≡ false)
one_then step busy k a rest w v (Ok u) first second e =
    let f = first u refl in
    let s = second u f.0.covered.ready e in
    (carried_then w u v f.0 s.0, stood_then busy k a rest w u v f.1 s.1)
one_then step busy k a rest w v (Err cause) first second e = absurd (cc)

turns_stood : {A : Type 0} (step : A → Working → Result Working Cause) (busy : Working → A → Bool) (k : ℕ)
    → ((a : A) (w v : Working) → IsReady w → step a w ≡ Ok v → IsCarried w v × Stood k w v (busy w a ≡ false))
    → (list : List A) (w v : Working) → IsReady w → in_turn step list w ≡ Ok v → IsCarried w v × Stood k w v (list_any (busy w) list ≡ false)
unfolding in_turn
turns_stood step busy k each [] w v r e = (carried_nothing w v r e, stood_nothing k w v (false ≡ false) refl e)
turns_stood step busy k each (a ∷ rest) w v r e =
    one_then step busy k a rest w v (step a w) (λ u f. each a w u r f) (λ u s f. turns_stood step busy k each rest u v s f) e

-- ---- the rules at a node

edit_by : ActsAreMarked → (k : ℕ) (edit : SelfEdit) (taken : Bool) (w v : Working) → (is_attached w.forest k && has_work_at (view_of w.forest k) edit) ≡ taken
    → IsReady w
    → cond taken (act_step edit k w) (Ok w) ≡ Ok v → IsCarried w v × Stood k w v (has_work_at (view_of w.forest k) edit ≡ false)
edit_by laws k edit true w v is r e =
    let a = laws.act edit k w v r (first_of (is_attached w.forest k) (has_work_at (view_of w.forest k) edit) is)
    (second_of (is_attached w.forest k) (has_work_at (view_of w.forest k) edit) is) e in
    (a.0, λ there unmarked. absurd (grind (arith, a.1 there, unmarked)))
edit_by laws k edit false w v is r e =
    let same : v ≡ w = cc in
    (carried_nothing w v r e, λ there unmarked. (same, none_left (is_attached w.forest k) (has_work_at (view_of w.forest k) edit) is (subst (λ x. is_attached x.forest k ≡ true) same there))) where
      none_left : (a b : Bool) → (a && b) ≡ false → a ≡ true → b ≡ false
      none_left a b e t = grind (arith, e, t)

edit_turned : ActsAreMarked → (k : ℕ) (edit : SelfEdit) (w v : Working) → IsReady w → edit_step k edit w ≡ Ok v
    → IsCarried w v × Stood k w v (has_work_at (view_of w.forest k) edit ≡ false)
unfolding edit_step
edit_turned laws k edit w v r e = edit_by laws k edit (is_attached w.forest k && has_work_at (view_of w.forest k) edit) w v refl r e

abbrev is_busy : ℕ → Working → Answers → Bool
is_busy k w rule = list_any (has_work_at (view_of w.forest k)) (answered_at (view_of w.forest k) rule)

rule_turned : ActsAreMarked → (k : ℕ) (rule : Answers) (w v : Working) → IsReady w → rule_step k rule w ≡ Ok v
    → IsCarried w v × Stood k w v (is_busy k w rule ≡ false)
unfolding rule_step
rule_turned laws k rule w v r e =
    turns_stood (edit_step k) (λ x edit. has_work_at (view_of x.forest k) edit) k (λ edit x y s f. edit_turned laws k edit x y s f)
    (answered_at (view_of w.forest k) rule) w v r e

uneasy_by : (rules : List Answers) (o : Option View) → list_any (λ rule. list_any (has_work_at o) (answered_at o rule)) rules ≡ false
    → is_uneasy rules o ≡ false
uneasy_by rules None e = refl
uneasy_by rules (Some v) e = e

-- what a turn owes
pub record IsTurn (rules : List Answers) (k : ℕ) (w v : Working) : Type 0 where
  pub carried : IsCarried w v
  pub handled : is_attached v.forest k ≡ true → is_due v.fresh k ≡ false → is_uneasy rules (view_of v.forest k) ≡ false

pub rules_turned : ActsAreMarked → (rules : List Answers) (k : ℕ) (w v : Working) → IsReady w → rules_step rules k w ≡ Ok v → IsTurn rules k w v
unfolding rules_step
rules_turned laws rules k w v r e =
    let t = turns_stood (rule_step k) (is_busy k) k (λ rule x y s f. rule_turned laws k rule x y s f) rules w v r e in
    record {
      carried = t.0;
      handled = λ there unmarked.
          let s = t.1 there unmarked in
          subst (λ x. is_uneasy rules (view_of x.forest k) ≡ false) (sym s.0) (uneasy_by rules (view_of w.forest k) s.1);
    }

-- a leaf: what came before the rules is carried
leaf_then : ActsAreMarked → (rules : List Answers) (k : ℕ) (w v : Working) (r : Result Working Cause) → ((u : Working) → r ≡ Ok u → IsCarried w u)
    → after r (rules_step rules k) ≡ Ok v → IsTurn rules k w v
leaf_then laws rules k w v (Ok u) first e =
    let f = first u refl in
    let t = rules_turned laws rules k u v f.covered.ready e in
    record { carried = carried_then w u v f t.carried; handled = t.handled }
leaf_then laws rules k w v (Err cause) first e = absurd (cc)

leaf_by : ActsAreMarked → (rules : List Answers) (k : ℕ) (there : Bool) (w v : Working) → is_attached w.forest k ≡ there → IsReady w
    → cond there (after (join_around_step k w) (rules_step rules k)) (Ok w) ≡ Ok v → IsTurn rules k w v
leaf_by laws rules k true w v is r e = leaf_then laws rules k w v (join_around_step k w) (λ u f. laws.join k w u r f) e
leaf_by laws rules k false w v is r e =
    let same : v ≡ w = cc in
    record {
      carried = carried_nothing w v r e;
      handled = λ there unmarked. absurd (grind (arith, is, subst (λ x. is_attached x.forest k ≡ true) same there));
    }

pub leaf_turned : ActsAreMarked → (rules : List Answers) (k : ℕ) (w v : Working) → IsReady w → leaf_step rules k w ≡ Ok v → IsTurn rules k w v
unfolding leaf_step
leaf_turned laws rules k w v r e = leaf_by laws rules k (is_attached w.forest k) w v refl r e
