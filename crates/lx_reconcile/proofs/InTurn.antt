-- Laws of moves one after another: what one more does.
use Rattle.std.proofs.Common.{◌≡◌, ap, ℕ, true, eqb, ◌||◌, ◌&&◌, not, List, [], ◌∷◌, ◌++◌, map, Option, None, Some, refl, arith}
use Rattle.std.proofs.lemmas.Bool.Decides.{eqb_tells}
use Rattle.lx_trees.specs.Siblings.{is_among, NoRepeats, names_without}
use Rattle.lx_trees.proofs.Siblings.{is_among-names_without}
use Rattle.lx_trees.proofs.Positions.{NoRepeats-names_without}
use Rattle.lx_reconcile.specs.declared.moves.Move.{Move}
use Rattle.lx_reconcile.specs.declared.moves.Move.TheVariants.{Stay, Leave, Make, Place}
use Rattle.lx_reconcile.specs.Walk.{child_of, before_of, moved, can_move, all_moved, CanAllMove, standing, leaving, is_waiting, BeforeUnhandled}
use Rattle.lx_reconcile.proofs.Lists.{NoRepeats-names_with}

-- no child comes to be there twice
pub NoRepeats-moved : (m : Move) (ks : List ℕ) → can_move m ks ≡ true → NoRepeats ks → NoRepeats (moved m ks)
NoRepeats-moved (Stay k) ks can once = once
NoRepeats-moved (Leave k) ks can once = NoRepeats-names_without k ks once
NoRepeats-moved (Make k before) ks can once = NoRepeats-names_with before k ks (grind (arith, can)) once
NoRepeats-moved (Place k before) ks can once =
    NoRepeats-names_with before k (names_without k ks) (grind (arith, is_among-names_without k k ks, eqb_tells k k)) (NoRepeats-names_without k ks once)

pub all_moved-append : (ms ns : List Move) (ks : List ℕ) → all_moved (ms ++ ns) ks ≡ all_moved ns (all_moved ms ks)
all_moved-append [] ns ks = refl
all_moved-append (m ∷ ms) ns ks = all_moved-append ms ns (moved m ks)

pub CanAllMove-append : (ms ns : List Move) (ks : List ℕ) → CanAllMove ms ks → CanAllMove ns (all_moved ms ks) → CanAllMove (ms ++ ns) ks
CanAllMove-append [] ns ks can then = then
CanAllMove-append (m ∷ ms) ns ks can then = (can.0, CanAllMove-append ms ns (moved m ks) can.1 then)

pub standing-append : (ms ns : List Move) → standing (ms ++ ns) ≡ standing ms ++ standing ns
standing-append [] ns = refl
standing-append (Leave k ∷ ms) ns = standing-append ms ns
standing-append (m ∷ ms) ns = ap (λ ks. child_of m ∷ ks) (standing-append ms ns)

pub leaving-append : (ms ns : List Move) → leaving (ms ++ ns) ≡ leaving ms ++ leaving ns
leaving-append [] ns = refl
leaving-append (Leave k ∷ ms) ns = ap (λ ks. k ∷ ks) (leaving-append ms ns)
leaving-append (_ ∷ ms) ns = leaving-append ms ns

pub children-push : (ms : List Move) (m : Move) (q : ℕ) → is_among q (map child_of (ms ++ m ∷ [])) ≡ (is_among q (map child_of ms) || eqb (child_of m) q)
children-push [] m q = grind arith
children-push (x ∷ ms) m q = grind (arith, children-push ms m q)

pub children_among : (q : ℕ) (ms : List Move) → is_among q (map child_of ms) ≡ (is_among q (standing ms) || is_among q (leaving ms))
children_among q [] = refl
children_among q (Leave k ∷ ms) = grind (arith, children_among q ms)
children_among q (_ ∷ ms) = grind (arith, children_among q ms)

-- the child before which the next one comes is one of the children before, and none of the handled ones
is_waiting-some : (old handled : List ℕ) (before : Option ℕ) →
    ((k : ℕ) → before ≡ Some k → (is_among k old && not (is_among k handled)) ≡ true) → is_waiting old handled before ≡ true
is_waiting-some old handled None waits = refl
is_waiting-some old handled (Some k) waits = waits k refl

pub BeforeUnhandled-push : (ms : List Move) (m : Move) (old handled : List ℕ) → BeforeUnhandled old handled ms →
    ((k : ℕ) → before_of m ≡ Some k → ((is_among k old && not (is_among k handled)) && not (is_among k (map child_of ms))) ≡ true) →
    BeforeUnhandled old handled (ms ++ m ∷ [])
BeforeUnhandled-push [] m old handled far waits = (is_waiting-some old handled (before_of m) (λ k e. grind (arith, waits k e)), tt)
BeforeUnhandled-push (x ∷ ms) m old handled far waits =
    (far.0, BeforeUnhandled-push ms m old (child_of x ∷ handled) far.1 (λ k e. grind (arith, waits k e)))
