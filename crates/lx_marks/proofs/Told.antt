-- The laws of marks.
use Rattle.std.proofs.Common.{◌≡◌, ◌∙◌, ℕ, Bool, true, eqb, ◌||◌, ◌&&◌, List, [], ◌∷◌, Option, None, Some, refl, sym, ap, subst, zero, suc, slice_get, arith}
use Rattle.std.specs.Prelude.{is_some}
use Rattle.std.specs.Map.{keys_of}
use Rattle.std.proofs.lemmas.Bool.Decides.{eqb_tells}
use Rattle.lx_trees.specs.Siblings.{is_among, NoRepeats}
use Rattle.lx_marks.specs.Marks.{Marked, unmarked, flag_in, flagged, all_flagged, with_leaf, with_marked, with_names, absorbed, is_true_flag, is_touched, is_noted, IsMarked}
use Rattle.lx_marks.specs.Laws.{either_flag}
use Rattle.lx_marks.proofs.Named.{is_among-with_name, is_among-with_names, NoRepeats-with_name, NoRepeats-with_names, with_names-apart}
use Rattle.lx_marks.proofs.Flagged.{flag_in-flagged, flag_in-all_flagged, once_flagged, all_flagged-apart, is_some-flag_in}

-- ---- two flags of one key

pub true_flag-either : (a b : Option Bool) → is_true_flag (either_flag a b) ≡ (is_true_flag a || is_true_flag b)
true_flag-either None b = refl
true_flag-either (Some x) None = grind arith
true_flag-either (Some x) (Some y) = refl

is_some-either : (a b : Option Bool) → is_some (either_flag a b) ≡ (is_some a || is_some b)
is_some-either None b = refl
is_some-either (Some x) None = refl
is_some-either (Some x) (Some y) = refl

pub is_some-flagged : (a : Option Bool) (flag : Bool) → is_some (either_flag a (Some flag)) ≡ true
is_some-flagged None flag = refl
is_some-flagged (Some x) flag = refl

-- ---- marked itself

pub touched-leaf : (k : ℕ) (m : Marked) (q : ℕ) → is_touched (with_leaf k m) q ≡ (is_touched m q || eqb q k)
unfolding with_leaf
touched-leaf k m q = grind (arith, is_among-with_name k m.leaves q)

pub touched-element : (k : ℕ) (flag : Bool) (m : Marked) (q : ℕ) → is_touched (with_marked k flag m) q ≡ (is_touched m q || (eqb q k && flag))
unfolding with_marked
touched-element k flag m q =
    grind (arith, flag_in-flagged k flag m.elements q, true_flag-either (flag_in m.elements q) (Some flag))

pub touched-absorbed : (other m : Marked) (q : ℕ) → IsMarked other → is_touched (absorbed other m) q ≡ (is_touched m q || is_touched other q)
unfolding absorbed
touched-absorbed other m q once =
    grind (arith, is_among-with_names other.leaves m.leaves q, flag_in-all_flagged other.elements m.elements q once.elements, true_flag-either (flag_in m.elements q) (flag_in other.elements q))

-- ---- marked at all

pub noted-leaf : (k : ℕ) (m : Marked) (q : ℕ) → is_noted (with_leaf k m) q ≡ (is_noted m q || eqb q k)
unfolding with_leaf
noted-leaf k m q = grind (arith, is_among-with_name k m.leaves q)

pub noted-element : (k : ℕ) (flag : Bool) (m : Marked) (q : ℕ) → is_noted (with_marked k flag m) q ≡ (is_noted m q || eqb q k)
unfolding with_marked
noted-element k flag m q =
    grind (arith, flag_in-flagged k flag m.elements q, is_some-flagged (flag_in m.elements q) flag)

pub noted-absorbed : (other m : Marked) (q : ℕ) → IsMarked other → is_noted (absorbed other m) q ≡ (is_noted m q || is_noted other q)
unfolding absorbed
noted-absorbed other m q once =
    grind (arith, is_among-with_names other.leaves m.leaves q, flag_in-all_flagged other.elements m.elements q once.elements, is_some-either (flag_in m.elements q) (flag_in other.elements q))

-- ---- what stays

pub flag_stays : (k : ℕ) (flag : Bool) (es : List (ℕ × Bool)) (q : ℕ) → flag_in es q ≡ Some true → flag_in (flagged k flag es) q ≡ Some true
flag_stays k flag es q e = grind (arith, flag_in-flagged k flag es q)

pub flag_stays_all : (fs es : List (ℕ × Bool)) (q : ℕ) → flag_in es q ≡ Some true → flag_in (all_flagged fs es) q ≡ Some true
unfolding all_flagged
flag_stays_all [] es q e = e
flag_stays_all (f ∷ fs) es q e = flag_stays_all fs (flagged f.0 f.1 es) q (flag_stays f.0 f.1 es q e)

-- ---- no key twice

pub IsMarked-unmarked : IsMarked unmarked
IsMarked-unmarked = record { leaves = tt; elements = tt }

pub IsMarked-with_leaf : (k : ℕ) (m : Marked) → IsMarked m → IsMarked (with_leaf k m)
unfolding with_leaf
IsMarked-with_leaf k m once = record { leaves = NoRepeats-with_name k m.leaves once.leaves; elements = once.elements }

once_all_flagged : (fs es : List (ℕ × Bool)) → NoRepeats (keys_of es) → NoRepeats (keys_of (all_flagged fs es))
unfolding all_flagged
once_all_flagged [] es once = once
once_all_flagged (f ∷ fs) es once = once_all_flagged fs (flagged f.0 f.1 es) (once_flagged f.0 f.1 es once)

pub IsMarked-with_element : (k : ℕ) (flag : Bool) (m : Marked) → IsMarked m → IsMarked (with_marked k flag m)
unfolding with_marked
IsMarked-with_element k flag m once = record { leaves = once.leaves; elements = once_flagged k flag m.elements once.elements }

pub IsMarked-absorbed : (other m : Marked) → IsMarked m → IsMarked (absorbed other m)
unfolding absorbed
IsMarked-absorbed other m once = record {
  leaves = NoRepeats-with_names other.leaves m.leaves once.leaves;
  elements = once_all_flagged other.elements m.elements once.elements;
}

-- marks that nothing else is added to are the same marks
pub absorbed-unmarked : (m : Marked) → IsMarked m → absorbed m unmarked ≡ m
unfolding absorbed
absorbed-unmarked m once =
    let leaves : with_names m.leaves [] ≡ m.leaves = with_names-apart m.leaves [] once.leaves (λ q among. refl) in
    let elements : all_flagged m.elements [] ≡ m.elements = all_flagged-apart m.elements [] once.elements (λ q among. refl) in
    λ i. record { leaves = leaves i; elements = elements i }

-- what was put into tables that held these marks
pub IsMarked-tables : (other m n : Marked) → n.leaves ≡ with_names other.leaves m.leaves → n.elements ≡ all_flagged other.elements m.elements → IsMarked m
    → IsMarked n
unfolding absorbed
IsMarked-tables other m n leaves elements once =
    let more = IsMarked-absorbed other m once in
    record {
      leaves = subst NoRepeats (sym leaves) more.leaves;
      elements = subst (λ es. NoRepeats (keys_of es)) (sym elements) more.elements;
    }

-- ---- what is read by place

pub is_among-read : (xs : List ℕ) (i k : ℕ) → slice_get xs i ≡ Some k → is_among k xs ≡ true
is_among-read [] i k e = absurd (cc)
is_among-read (x ∷ xs) zero k e = grind (arith, e, eqb_tells x k)
is_among-read (x ∷ xs) (suc i) k e = grind (arith, is_among-read xs i k e)

pub flag_in-read : (es : List (ℕ × Bool)) (i k : ℕ) (flag : Bool) → NoRepeats (keys_of es) → slice_get es i ≡ Some (k, flag) → flag_in es k ≡ Some flag
flag_in-read [] i k flag once e = absurd (cc)
flag_in-read (f ∷ es) zero k flag once e = grind (arith, e, eqb_tells k f.0)
flag_in-read (f ∷ es) (suc i) k flag once e =
    let later : flag_in es k ≡ Some flag = flag_in-read es i k flag once.1 e in
    let among : is_among k (keys_of es) ≡ true = sym (is_some-flag_in es k) ∙ ap is_some later in
    grind (arith, later, among, once.0, eqb_tells k f.0)
