-- The walk over two equal lists of children: each stays.
use Rattle.std.proofs.Common.{◌≡◌, ◌∙◌, ℕ, true, false, List, [], ◌∷◌, map, refl, sym, ap, subst, arith}
use Rattle.std.specs.List.{AllByRecursion, list_any}
use Rattle.std.proofs.lemmas.List.Elements.{All-from_recursion}
use Rattle.std.proofs.lemmas.Bool.Decides.{eqb_tells}
use Rattle.lx_trees.specs.Siblings.{is_among}
use Rattle.lx_reconcile.specs.declared.moves.Move.{Move}
use Rattle.lx_reconcile.specs.declared.moves.Move.TheVariants.{Stay}
use Rattle.lx_reconcile.specs.Walk.{suits_children, is_placing, all_moved, standing, leaving, missing, CanAllMove, BeforeUnhandled, IsWalk}

-- these children are among those
abbrev pub AreAmong : List ℕ → List ℕ → Type 0
AreAmong ks all = (q : ℕ) → is_among q ks ≡ true → is_among q all ≡ true

first_in : (k : ℕ) (ks all : List ℕ) → AreAmong (k ∷ ks) all → is_among k all ≡ true
first_in k ks all among = among k (grind (arith, eqb_tells k k))

rest_in : (k : ℕ) (ks all : List ℕ) → AreAmong (k ∷ ks) all → AreAmong ks all
rest_in k ks all among = λ q e. among q (grind (arith, e))

pub leads : (ks all : List ℕ) → all_moved (map Stay ks) all ≡ all
leads [] all = refl
leads (k ∷ ks) all = leads ks all

pub can : (ks all : List ℕ) → AreAmong ks all → CanAllMove (map Stay ks) all
can [] all among = tt
can (k ∷ ks) all among = (first_in k ks all among, can ks all (rest_in k ks all among))

pub stands : (ks : List ℕ) → standing (map Stay ks) ≡ ks
stands [] = refl
stands (k ∷ ks) = ap (λ xs. k ∷ xs) (stands ks)

pub leaves : (ks : List ℕ) → leaving (map Stay ks) ≡ []
leaves [] = refl
leaves (k ∷ ks) = leaves ks

pub none_missing : (ks all : List ℕ) → AreAmong ks all → missing ks all ≡ []
none_missing [] all among = refl
none_missing (k ∷ ks) all among = rw (first_in k ks all among) (none_missing ks all (rest_in k ks all among))

pub suited : (ks all : List ℕ) → AreAmong ks all → AllByRecursion (λ m. suits_children all m ≡ true) (map Stay ks)
suited [] all among = tt
suited (k ∷ ks) all among = (first_in k ks all among, suited ks all (rest_in k ks all among))

pub unhandled : (ks all handled : List ℕ) → BeforeUnhandled all handled (map Stay ks)
unhandled [] all handled = tt
unhandled (k ∷ ks) all handled = (refl, unhandled ks all (k ∷ handled))

pub none_placed : (ks : List ℕ) → list_any is_placing (map Stay ks) ≡ false
none_placed [] = refl
none_placed (k ∷ ks) = none_placed ks

staying : (ks : List ℕ) → IsWalk ks ks (map Stay ks)
staying ks = record {
  leads = leads ks ks;
  can = can ks ks (λ q e. e);
  stands = stands ks;
  leaves = leaves ks ∙ sym (none_missing ks ks (λ q e. e));
  suited = All-from_recursion (λ m. suits_children ks m ≡ true) (map Stay ks) (suited ks ks (λ q e. e));
  unhandled = unhandled ks ks [];
  kept_order = λ same. none_placed ks;
}

pub all_staying : (old new : List ℕ) (moves : List Move) → old ≡ new → moves ≡ map Stay old → IsWalk old new moves
all_staying old new moves same is = subst (λ ks. IsWalk old ks moves) same (subst (λ ms. IsWalk old old ms) (sym is) (staying old))
