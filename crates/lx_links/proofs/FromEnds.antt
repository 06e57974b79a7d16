-- Children by their index, from the nearer end.
use Rattle.std.proofs.Common.{ℕ, zero, suc, ◌≡◌, ◌+◌, ◌-◌, ◌<◌, ◌≤◌, List, [], ◌∷◌, length, Option, None, Some, refl, sym, ap, ◌∙◌, arith}
use Rattle.std.specs.List.{slice_get}
use Rattle.std.proofs.lemmas.Option.{slice_get_past}
use Rattle.lx_forest.specs.Forest.{Forest}
use Rattle.lx_forest.specs.Lookups.{children_of, size_of, first_child, last_child, next_of, previous_of}
use Rattle.lx_links.specs.Stands.{Sound}
use Rattle.lx_links.specs.Children.{IsAmid}
use Rattle.lx_links.proofs.Beside.{all_left, next_child, previous_child}

-- ---- a list by index

past_none : (xs : List ℕ) (i : ℕ) → slice_get xs i ≡ None → length xs ≤ i
past_none [] i e = omega arith
past_none (x ∷ xs) zero e = cc
past_none (x ∷ xs) (suc i) e = omega (arith, past_none xs i e)

-- ---- from the front

ends : (f : Forest) (p : ℕ) → Sound f → IsAmid f p 0 (size_of f p) (first_child f p) (last_child f p)
ends f p s = all_left f p (size_of f p) (first_child f p) (last_child f p) s refl refl refl

pub at_front : (f : Forest) (p : ℕ) (first : Option ℕ) → Sound f → first ≡ first_child f p → first ≡ slice_get (children_of f p) 0
at_front f p first s is = is ∙ (ends f p s).front_is

pub one_on : (f : Forest) (p passed key : ℕ) (at next : Option ℕ) → Sound f → at ≡ slice_get (children_of f p) passed → at ≡ Some key → next ≡ next_of f key
    → next ≡ slice_get (children_of f p) (passed + 1)
one_on f p passed key at next s here is e = e ∙ next_child f p passed key s (sym here ∙ is)

-- where one is absent, so are those after it
pub none_on : (f : Forest) (p passed before : ℕ) (at : Option ℕ) → at ≡ slice_get (children_of f p) passed → at ≡ None → passed ≤ before
    → None ≡ slice_get (children_of f p) before
none_on f p passed before at here none most =
    sym (slice_get_past (children_of f p) before (omega (arith, past_none (children_of f p) passed (sym here ∙ none), most)))

-- ---- from the back

pub at_back : (f : Forest) (p behind : ℕ) (last : Option ℕ) → Sound f → behind < size_of f p → last ≡ last_child f p
    → last ≡ slice_get (children_of f p) (size_of f p - 1 - 0)
at_back f p behind last s some is = is ∙ (ends f p s).back_is (size_of f p - 1 - 0) (omega (arith, some))

pub one_back : (f : Forest) (p passed behind key : ℕ) (at previous : Option ℕ) → Sound f → behind < size_of f p → passed < behind
    → at ≡ slice_get (children_of f p) (size_of f p - 1 - passed) → at ≡ Some key → previous ≡ previous_of f key
    → previous ≡ slice_get (children_of f p) (size_of f p - 1 - (passed + 1))
one_back f p passed behind key at previous s some more here is e =
    let step : size_of f p - 1 - (passed + 1) + 1 ≡ size_of f p - 1 - passed = omega (arith, some, more) in
    e ∙ previous_child f p (size_of f p - 1 - (passed + 1)) key s (ap (slice_get (children_of f p)) step ∙ sym here ∙ is)

-- each of these is there
pub back_is_there : (f : Forest) (p passed behind : ℕ) (at : Option ℕ) → behind < size_of f p → passed < behind
    → at ≡ slice_get (children_of f p) (size_of f p - 1 - passed) → at ≡ None → ⊥
back_is_there f p passed behind at some more here none =
    omega (arith, past_none (children_of f p) (size_of f p - 1 - passed) (sym here ∙ none), some, more)
