-- How a walk begins, what is left where one list ends, and what it comes to.
use Rattle.std.proofs.Common.{◌≡◌, ◌∙◌, sym, ap, ℕ, true, false, List, [], ◌∷◌, ◌++◌, refl, arith, subst, append-nil}
use Rattle.std.proofs.lemmas.List.Elements.{All-nil}
use Rattle.std.proofs.lemmas.Bool.Decides.{eqb_tells}
use Rattle.lx_trees.specs.Siblings.{is_among, NoRepeats}
use Rattle.lx_trees.proofs.Siblings.{is_among-append}
use Rattle.lx_reconcile.specs.declared.moves.Move.{Move}
use Rattle.lx_reconcile.specs.Walk.{leaving, suits_children, common, missing, IsWalk}
use Rattle.lx_reconcile.specs.Underway.{IsWalking}
use Rattle.lx_reconcile.proofs.Lists.{common-append, common-none, common-all, common-even, is_among-uncommon}
use Rattle.lx_reconcile.proofs.Steps.{back-undone}

pub missing_nothing : (xs : List ℕ) → missing xs [] ≡ xs
missing_nothing [] = refl
missing_nothing (x ∷ xs) = ap (λ ys. x ∷ ys) (missing_nothing xs)

pub begun : (olds news : List ℕ) → NoRepeats olds → NoRepeats news → IsWalking olds news olds news (missing olds []) [] []
begun olds news once other = record {
  front = [];
  passed = [];
  now = sym (missing_nothing olds);
  back_is = refl;
  once = subst NoRepeats (sym (missing_nothing olds)) once;
  in_order = refl;
  waiting = λ q e. grind (arith, e, ap (is_among q) (missing_nothing olds));
  known = λ q e. grind (arith, e, ap (is_among q) (missing_nothing olds));
  present = λ q e f. ap (is_among q) (missing_nothing olds) ∙ e;
  news_are = refl;
  old_once = once;
  old_among = λ q e. e;
  even = common-even olds news once other;
  can = tt;
  stands = refl;
  leaves = refl;
  suited = All-nil (λ m. suits_children olds m ≡ true);
  unhandled = tt;
  kept_order = λ same. (same, refl);
}

-- those after that are left where none before is are new
pub new-left : (n : ℕ) (olds news new back done : List ℕ) (moves : List Move) → IsWalking olds news [] (n ∷ new) back done moves → is_among n olds ≡ false
new-left n olds news new back done moves w =
    is_among-uncommon (n ∷ new) olds n (sym w.even) (grind (arith, eqb_tells n n))

-- those before that are left where none after is leave
pub old-left : (o : ℕ) (olds news old back done : List ℕ) (moves : List Move) → IsWalking olds news (o ∷ old) [] back done moves → is_among o news ≡ false
old-left o olds news old back done moves w =
    is_among-uncommon (o ∷ old) news o w.even (grind (arith, eqb_tells o o))

-- each child is in place where none before is left
stood : (q : ℕ) (olds news new back done : List ℕ) (moves : List Move) → (w : IsWalking olds news [] new back done moves) →
    is_among q (w.front ++ back) ≡ true → is_among q done ≡ true
stood q olds news new back done moves w e =
    grind (arith, e, w.known q, ap (is_among q) w.news_are, is_among-append q done new, is_among-uncommon new olds q (sym w.even))

-- a walk over both lists is whole
pub walked : (olds news back done : List ℕ) (moves : List Move) → IsWalking olds news [] [] back done moves → IsWalk olds news moves
walked olds news back done moves w =
    let all : news ≡ done = w.news_are ∙ append-nil done in
    let kept : common (w.front ++ back) done ≡ w.front ++ back = common-all (w.front ++ back) done (λ q e. stood q olds news [] back done moves w e) in
    let behind : common back done ≡ [] = common-none back done (λ q e. back-undone w q e) in
    let found : common (w.front ++ back) done ≡ done =
    common-append w.front back done ∙ ap (λ xs. common w.front done ++ xs) behind ∙ append-nil (common w.front done) ∙ w.in_order in
    record {
      leads = w.now ∙ sym kept ∙ found ∙ sym all;
      can = w.can;
      stands = w.stands ∙ sym all;
      leaves = sym (append-nil (leaving moves)) ∙ w.leaves;
      suited = w.suited;
      unhandled = w.unhandled;
      kept_order = λ same. (w.kept_order same).1;
    }
