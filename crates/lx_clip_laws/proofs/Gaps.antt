-- Names that come into a list at a place, between those before it and those after it.
use Rattle.std.proofs.Common.{◌≡◌, ◌∙◌, ℕ, suc, true, List, [], ◌∷◌, ◌++◌, length, Some, refl, ap, arith, length-append, zero}
use Rattle.std.specs.Prelude.{slice_get}
use Rattle.std.specs.List.{insert}
use Rattle.lx_trees.specs.Siblings.{is_among, NoRepeats, index_in, names_with}
use Rattle.lx_trees.proofs.Positions.{is_among-slice_get, index_in-slice_get, names_with-insert}

pub names_at : (a b : List ℕ) (k : ℕ) → NoRepeats (a ++ b) → names_with (slice_get (a ++ b) (length a)) (k ∷ []) (a ++ b) ≡ a ++ (k ∷ b)
names_at a b k once = names_with-insert (a ++ b) k (length a) once (omega (arith, length-append a b)) ∙ inserted a where
  inserted : (a : List ℕ) → insert (a ++ b) (length a) k ≡ a ++ (k ∷ b)
  inserted [] = refl
  inserted (x ∷ a) = ap (λ xs. x ∷ xs) (inserted a)

-- a list in two parts at a name
pub record AtName (xs : List ℕ) (x i : ℕ) : Type 0 where
  pub before : List ℕ
  pub behind : List ℕ
  pub all : xs ≡ before ++ (x ∷ behind)
  pub so_many : length before ≡ i

pub at_name : (xs : List ℕ) (x i : ℕ) → slice_get xs i ≡ Some x → AtName xs x i
at_name [] x i e = absurd (grind (arith, e))
at_name (y ∷ xs) x zero e = record { before = []; behind = xs; all = cc; so_many = refl }
at_name (y ∷ xs) x (suc i) e = let r =
    at_name xs x i e in record { before = y ∷ r.before; behind = r.behind; all = ap (λ zs. y ∷ zs) r.all; so_many = ap suc r.so_many }

-- the name between others, and its index
got_between : (a b : List ℕ) (x : ℕ) → slice_get (a ++ (x ∷ b)) (length a) ≡ Some x
got_between [] b x = refl
got_between (y ∷ a) b x = got_between a b x

pub index_between : (a b : List ℕ) (x : ℕ) → NoRepeats (a ++ (x ∷ b)) → index_in (a ++ (x ∷ b)) x ≡ Some (length a)
index_between a b x once = index_in-slice_get (a ++ (x ∷ b)) x (length a) once (got_between a b x)

pub among_between : (a b : List ℕ) (x : ℕ) → is_among x (a ++ (x ∷ b)) ≡ true
among_between a b x = is_among-slice_get (a ++ (x ∷ b)) x (length a) (got_between a b x)
