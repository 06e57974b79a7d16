-- Whatever settling does is covered by the marks of the whole update.
use Rattle.std.proofs.Common.{◌≡◌, ℕ, zero, suc, Bool, List, [], ◌∷◌, Result, Ok, Err, refl, subst}
use Rattle.lx_node.specs.declared.cause.Cause.{Cause}
use Rattle.lx_draft.specs.Working.{Working}
use Rattle.lx_draft.specs.Faults.{after}
use Rattle.lx_draft.specs.Rounds.{round_by}
use Rattle.lx_draft.specs.Covering.{IsReady, AreCovered}
use Rattle.lx_draft.proofs.Covered.{covers-then, new_then}
use Rattle.lx_edit.specs.InTurn.{in_turn}
use Rattle.lx_rules.specs.Answers.{Answers}
use Rattle.lx_settle.specs.Acting.{rules_step}
use Rattle.lx_settle.specs.Passes.{leaf_step, leaf_pass, turns_of, element_pass}
use Rattle.lx_settle.specs.Settling.{taken, ended, passed, rounds, most_rounds, settle_step}
use Rattle.lx_settle.specs.Laws.{AreMarked}
use Rattle.lx_settle.proofs.Carried.{IsCarried}
use Rattle.lx_settle.proofs.Rest.{acts_are_marked}
use Rattle.lx_settle.proofs.Turned.{IsTurn, rules_turned, leaf_turned}

marked_then : (u v w : Working) → AreMarked u v → IsCarried v w → AreMarked u w
marked_then u v w a c = record {
  marks = covers-then u.forest v.forest w.forest u.marks v.marks w.marks a.marks c.covered.marks;
  kinds = record { each = λ q kind e. c.covered.kinds.each q kind (a.kinds.each q kind e) };
  keys = new_then u v w a.keys c.covered.keys;
  ready = c.covered.ready;
}

-- ---- passes

marked_after : (u v : Working) (r : Result Working Cause) (next : Working → Result Working Cause) → ((x : Working) → r ≡ Ok x → AreMarked u x)
    → ((x : Working) → AreMarked u x → next x ≡ Ok v → AreMarked u v) → after r next ≡ Ok v → AreMarked u v
marked_after u v (Ok x) next first second e = second x (first x refl) e
marked_after u v (Err cause) next first second e = absurd (cc)

over_turns : (u : Working) (rules : List Answers) (step : ℕ → Working → Result Working Cause)
    → ((k : ℕ) (w v : Working) → IsReady w → step k w ≡ Ok v → IsTurn rules k w v)
    → (ks : List ℕ) (w v : Working) → AreMarked u w → in_turn step ks w ≡ Ok v → AreMarked u v
unfolding in_turn
over_turns u rules step each [] w v a e = let same : w ≡ v = cc in subst (AreMarked u) same a
over_turns u rules step each (k ∷ ks) w v a e =
    marked_after u v (step k w) (in_turn step ks) (λ x f. marked_then u w x a (each k w x a.ready f).carried) (λ x b f. over_turns u rules step each ks x v b f)
    e

-- ---- rounds

taken_marked : (u w : Working) → AreMarked u w → AreMarked u (taken w)
taken_marked u w a =
    record { marks = a.marks; kinds = a.kinds; keys = record { next = a.keys.next; each = a.keys.each }; ready = record { in_order = a.ready.in_order; free = a.ready.free } }

round_marked : (rules : List Answers) (leaves : List ℕ) (es : List (ℕ × Bool)) (u w v : Working) (again : Working → Result Working Cause) → AreMarked u w
    → ((x : Working) → AreMarked u x → again x ≡ Ok v → AreMarked u v) → passed rules (round_by leaves es) again w ≡ Ok v → AreMarked u v
unfolding leaf_pass element_pass
round_marked rules (k ∷ ks) es u w v again a next e =
    marked_after u v (leaf_pass rules (k ∷ ks) (taken w)) again
    (λ x f. over_turns u rules (leaf_step rules) (λ q y z s g. leaf_turned acts_are_marked rules q y z s g) (k ∷ ks) (taken w) x (taken_marked u w a) f) next e
round_marked rules [] (i ∷ es) u w v again a next e =
    marked_after u v (element_pass rules (i ∷ es) (taken w)) again
    (λ x f. over_turns u rules (rules_step rules) (λ q y z s g. rules_turned acts_are_marked rules q y z s g) (turns_of (i ∷ es)) (taken w) x
    (taken_marked u w a) f) next e
round_marked rules [] [] u w v again a next e = let same : w ≡ v = cc in subst (AreMarked u) same a

ended_marked : (leaves : List ℕ) (es : List (ℕ × Bool)) (u w v : Working) → AreMarked u w → ended (round_by leaves es) w ≡ Ok v → AreMarked u v
ended_marked (k ∷ ks) es u w v a e = absurd (cc)
ended_marked [] (i ∷ es) u w v a e = absurd (cc)
ended_marked [] [] u w v a e = let same : w ≡ v = cc in subst (AreMarked u) same a

rounds_marked : (rules : List Answers) (n : ℕ) (u w v : Working) → AreMarked u w → rounds rules n w ≡ Ok v → AreMarked u v
unfolding rounds
rounds_marked rules zero u w v a e = ended_marked w.fresh.leaves w.fresh.elements u w v a e
rounds_marked rules (suc n) u w v a e =
    round_marked rules w.fresh.leaves w.fresh.elements u w v (rounds rules n) a (λ x b f. rounds_marked rules n u x v b f) e

pub settled_marked : (rules : List Answers) (u w v : Working) → AreCovered u w → settle_step rules w ≡ Ok v → AreMarked u v
unfolding settle_step
settled_marked rules u w v c e = rounds_marked rules most_rounds u w v (record { marks = c.marks; kinds = c.kinds; keys = c.keys; ready = c.ready }) e
