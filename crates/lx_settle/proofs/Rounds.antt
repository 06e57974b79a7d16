-- One round after another.
use Rattle.std.proofs.Common.{◌≡◌, ◌∙◌, ℕ, zero, suc, ◌+◌, ◌-◌, ◌<◌, ◌≤◌, Bool, true, false, List, [], ◌∷◌, Result, Ok, Err, refl, sym, ap, arith}
use Rattle.lx_node.specs.declared.cause.Cause.{Cause}
use Rattle.lx_node.specs.declared.cause.Fault.{Fault}
use Rattle.lx_marks.specs.Marks.{Marked}
use Rattle.lx_draft.specs.Working.{Working}
use Rattle.lx_draft.specs.Faults.{after}
use Rattle.lx_draft.specs.Rounds.{round_of, round_by as next_by, rounded, elements_left}
use Rattle.lx_draft.specs.declared.rounds.Round.{Round}
use Rattle.lx_draft.specs.declared.rounds.Round.TheVariants.{Leaves, Elements, Rest}
use Rattle.lx_edit.specs.Standing.{Refuses}
use Rattle.lx_edit.proofs.Standing.{refuses_all}
use Rattle.lx_rules.specs.Answers.{Answers}
use Rattle.lx_settle.specs.Passes.{leaf_pass, element_pass}
use Rattle.lx_settle.specs.Settling.{taken, goes_on, round_by, round_step, ended, passed, rounds, most_rounds}

-- ---- at rest

none_by : (xs : List ℕ) (es : List (ℕ × Bool)) → xs ≡ [] → es ≡ []
    → ◌≡◌ {A = Marked} (record { leaves = []; elements = elements_left xs es }) (record { leaves = xs; elements = es })
none_by [] [] e f = refl
none_by [] (x ∷ es) e f = absurd (cc)
none_by (x ∷ xs) es e f = absurd (cc)

none_rounded : (m : Marked) → m.leaves ≡ [] → m.elements ≡ [] → rounded m ≡ m
none_rounded m e f = none_by m.leaves m.elements e f

-- what a round shows
same_pair : (a b : Bool × Working) → ◌≡◌ {A = Result (Bool × Working) Cause} (Ok a) (Ok b) → a ≡ b
same_pair a b e = cc

no_end : (v w : Working) → ◌≡◌ {A = Result (Bool × Working) Cause} (Ok (false, v)) (Ok (true, w)) → ⊥
no_end v w e = let two : false ≡ true = ap (λ p. p.0) (same_pair (false, v) (true, w) e) in cc

rest_by : (leaves : List ℕ) (es : List (ℕ × Bool)) (w : Working) → w.fresh.leaves ≡ leaves → w.fresh.elements ≡ es → next_by leaves es ≡ Rest → taken w ≡ w
rest_by [] [] w leaves elements e =
    ap (λ m. let v : Working = record w { fresh = m } in v) (none_rounded w.fresh leaves elements)
rest_by (k ∷ ks) es w leaves elements e = absurd (cc)
rest_by [] (x ∷ es) w leaves elements e = absurd (cc)

pub rest_taken : (w : Working) → round_of w.fresh ≡ Rest → taken w ≡ w
rest_taken w e = rest_by w.fresh.leaves w.fresh.elements w refl refl e

pub ended_rest : (round : Round) (w : Working) → round ≡ Rest → ended round w ≡ Ok w
ended_rest Rest w e = refl
ended_rest (Leaves ks) w e = absurd (cc)
ended_rest (Elements es) w e = absurd (cc)

-- ---- on

went_on : (s : Result Working Cause) (again : Working → Result Working Cause) (v : Working) → goes_on s ≡ Ok (false, v) → after s again ≡ again v
went_on (Ok u) again v e = ap (λ p. again p.1) (same_pair (false, u) (false, v) e)
went_on (Err cause) again v e = absurd (cc)

never_done : (s : Result Working Cause) (v : Working) → goes_on s ≡ Ok (true, v) → ⊥
never_done (Ok u) v e = no_end u v e
never_done (Err cause) v e = cc

refused : (s : Result Working Cause) (again : Working → Result Working Cause) (cause : Cause) → goes_on s ≡ Err cause → after s again ≡ Err cause
refused (Ok u) again cause e = absurd (cc)
refused (Err other) again cause e = let same : other ≡ cause = cc in ap (λ c. Err c) same

on_by : (rules : List Answers) (round : Round) (n : ℕ) (w v : Working) → round_by rules round w ≡ Ok (false, v)
    → passed rules round (rounds rules n) w ≡ rounds rules n v
on_by rules (Leaves ks) n w v e = went_on (leaf_pass rules ks (taken w)) (rounds rules n) v e
on_by rules (Elements es) n w v e = went_on (element_pass rules es (taken w)) (rounds rules n) v e
on_by rules Rest n w v e = absurd (no_end v (taken w) (sym e))

pub round_on : (rules : List Answers) (n : ℕ) (w v : Working) → round_step rules w ≡ Ok (false, v) → rounds rules (suc n) w ≡ rounds rules n v
unfolding rounds round_step
round_on rules n w v e = on_by rules (round_of w.fresh) n w v e

done_by : (rules : List Answers) (round : Round) (n : ℕ) (w v : Working) → round_of w.fresh ≡ round → round_by rules round w ≡ Ok (true, v)
    → passed rules round (rounds rules n) w ≡ Ok v
done_by rules (Leaves ks) n w v is e = absurd (never_done (leaf_pass rules ks (taken w)) v e)
done_by rules (Elements es) n w v is e = absurd (never_done (element_pass rules es (taken w)) v e)
done_by rules Rest n w v is e = ap (λ x. Ok x) (sym (rest_taken w is) ∙ ap (λ p. p.1) (same_pair (true, taken w) (true, v) e))

pub round_done : (rules : List Answers) (n : ℕ) (w v : Working) → round_step rules w ≡ Ok (true, v) → rounds rules (suc n) w ≡ Ok v
unfolding rounds round_step
round_done rules n w v e = done_by rules (round_of w.fresh) n w v refl e

refused_by : (rules : List Answers) (round : Round) (n : ℕ) (w : Working) (cause : Cause) → round_by rules round w ≡ Err cause
    → passed rules round (rounds rules n) w ≡ Err cause
refused_by rules (Leaves ks) n w cause e = refused (leaf_pass rules ks (taken w)) (rounds rules n) cause e
refused_by rules (Elements es) n w cause e = refused (element_pass rules es (taken w)) (rounds rules n) cause e
refused_by rules Rest n w cause e = absurd (cc)

pub round_refused : (rules : List Answers) (n : ℕ) (w : Working) (cause : Cause) → round_step rules w ≡ Err cause → rounds rules (suc n) w ≡ Err cause
unfolding rounds round_step
round_refused rules n w cause e = refused_by rules (round_of w.fresh) n w cause e

-- ---- with so many rounds passed

left : (passed : ℕ) → passed < most_rounds → most_rounds - passed ≡ suc (most_rounds - (passed + 1))
left passed e = omega (arith, e)

pub stops : (rules : List Answers) (passed : ℕ) (w v : Working) (b : Bool) → passed < most_rounds → b ≡ true → round_step rules w ≡ Ok (b, v)
    → rounds rules (most_rounds - passed) w ≡ Ok v
stops rules passed w v b within t e =
    ap (λ n. rounds rules n w) (left passed within) ∙ round_done rules (most_rounds - (passed + 1)) w v (e ∙ ap (λ x. Ok (x, v)) t)

pub goes : (rules : List Answers) (passed : ℕ) (w v : Working) (b : Bool) (whole : Result Working Cause) → passed < most_rounds
    → rounds rules (most_rounds - passed) w ≡ whole → b ≡ false → round_step rules w ≡ Ok (b, v)
    → rounds rules (most_rounds - (passed + 1)) v ≡ whole
goes rules passed w v b whole within is f e =
    sym (round_on rules (most_rounds - (passed + 1)) w v (e ∙ ap (λ x. Ok (x, v)) f)) ∙ sym (ap (λ n. rounds rules n w) (left passed within)) ∙ is

pub tells : (rules : List Answers) (passed : ℕ) (w : Working) (whole : Result Working Cause) {fault : Fault} {new : Working} → passed < most_rounds
    → rounds rules (most_rounds - passed) w ≡ whole
    → Refuses (round_step rules w) fault new → Refuses whole fault new
tells rules passed w whole within is refused =
    refuses_all (λ cause told. sym is ∙ ap (λ n. rounds rules n w) (left passed within) ∙ round_refused rules (most_rounds - (passed + 1)) w cause told) refused

pub last : (rules : List Answers) (passed : ℕ) (w : Working) (whole : Result Working Cause) → most_rounds ≤ passed
    → rounds rules (most_rounds - passed) w ≡ whole → ended (round_of w.fresh) w ≡ whole
unfolding rounds
last rules passed w whole over is = ap (λ n. rounds rules n w) (none passed over) ∙ is where
  none : (passed : ℕ) → most_rounds ≤ passed → zero ≡ most_rounds - passed
  none passed e = omega (arith, e)
