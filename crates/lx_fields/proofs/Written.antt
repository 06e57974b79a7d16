-- Members that are put one after another.
use Rattle.std.proofs.Common.{◌≡◌, ◌∙◌, refl, ap, ℕ, List, [], ◌∷◌, ◌++◌, Bool, true, false, not, ◌&&◌, ◌||◌, ◌==◌, if◌then◌else◌, suc, length, bytes_eq, Decides, arith, eqb-true, Option, None, Some}
use Rattle.std.specs.Option.{option_or}
use Rattle.std.proofs.lemmas.Slice.Eq.{bytes_eq-Decides}
use Rattle.std.specs.Ordering.{nat_cmp, match_ordering}
use Rattle.std.specs.declared.cmp.Ordering.{Ordering}
use Rattle.std.specs.declared.cmp.Ordering.TheVariants.{Less, Equal, Greater}
use Rattle.std.specs.Cmp.Lexicographic.{slice_cmp}
use Rattle.serde_json.specs.Data.{Data, Members, no_members, member, put}
use Rattle.serde_json.specs.Find.{get_member}
use Rattle.serde_json.specs.Written.{has_float, members_have_float}
use Rattle.serde_json.proofs.Views.{get_member-put, get_member-put_other}
use Rattle.lx_fields.specs.Exporting.{Written, put_any, written_onto, is_empty}
use Rattle.lx_fields.specs.Parts.{or_null}

never_empty : (n : ℕ) (b : Bool) → (suc n == 0) ≡ b → false ≡ b
never_empty n true is = absurd (omega (arith, eqb-true (suc n) 0 is))
never_empty n false is = refl

-- a text is empty that has no length
pub is_empty_told : (text : List ℕ) → is_empty text ≡ (length text == 0)
is_empty_told [] = refl
is_empty_told (c ∷ text) = never_empty (length text) (suc (length text) == 0) refl

-- ---- what holds of each of two truths

pub both_true : (a b : Bool) → a ≡ true → b ≡ true → (a && b) ≡ true
both_true true b of_a of_b = of_b
both_true false b of_a of_b = of_a

pub first_true : (a b : Bool) → (a && b) ≡ true → a ≡ true
first_true true b is = refl
first_true false b is = is

pub second_true : (a b : Bool) → (a && b) ≡ true → b ≡ true
second_true true b is = is
second_true false b is = absurd (cc)

-- ---- what is found among members that are put

-- what is found under a name after these are put, where this was found before
abbrev pub found : List ℕ → Written → Option Data → Option Data
found name [] before = before
found name (m ∷ ms) before = found name ms (if bytes_eq name m.0 then option_or m.1 before else before)

as_before : (test : Bool) (before : Option Data) → before ≡ (if test then before else before)
as_before true before = refl
as_before false before = refl

found-put : (name other : List ℕ) (o : Option Data) (of : Members)
    → get_member name (put_any other o of) ≡ (if bytes_eq name other then option_or o (get_member name of) else get_member name of)
found-put name other None of = as_before (bytes_eq name other) (get_member name of)
found-put name other (Some d) of =
    elim (bytes_eq name other) as (λ test. Decides test (name ≡ other) → get_member name (put other d of) ≡ (if test then Some d else get_member name of)) [
      | true ↦ λ is. ap (λ n. get_member n (put other d of)) (is.0 refl) ∙ get_member-put other d of
      | false ↦ λ is. get_member-put_other name other d of (λ same. let no : false ≡ true = is.1 same in absurd (cc))
    ] (bytes_eq-Decides name other)

pub found-onto : (name : List ℕ) (of : Members) (ms : Written) → get_member name (written_onto of ms) ≡ found name ms (get_member name of)
found-onto name of [] = refl
found-onto name of (m ∷ ms) = found-onto name (put_any m.0 m.1 of) ms ∙ ap (found name ms) (found-put name m.0 m.1 of)

pub found-both : (name : List ℕ) (xs ys : Written) (before : Option Data) → found name (xs ++ ys) before ≡ found name ys (found name xs before)
found-both name [] ys before = refl
found-both name (x ∷ xs) ys before = found-both name xs ys (if bytes_eq name x.0 then option_or x.1 before else before)

-- ---- floats

neither : (a b : Bool) → (a || b) ≡ false → (a ≡ false) × (b ≡ false)
neither true b is = cc
neither false b is = (refl, is)

either_way : (order : Ordering) (less equal greater : Members) → members_have_float less ≡ false → members_have_float equal ≡ false
    → members_have_float greater ≡ false
    → members_have_float (match_ordering order less equal greater) ≡ false
either_way Less less equal greater of_less of_equal of_greater = of_less
either_way Equal less equal greater of_less of_equal of_greater = of_equal
either_way Greater less equal greater of_less of_equal of_greater = of_greater

pub members_have_float-put : (name : List ℕ) (d : Data) (found : Members) → has_float d ≡ false → members_have_float found ≡ false
    → members_have_float (put name d found) ≡ false
members_have_float-put name d no_members of_d of_found = rw of_d refl
members_have_float-put name d (member other e rest) of_d of_found =
    let parts = neither (has_float e) (members_have_float rest) of_found in
    either_way (slice_cmp nat_cmp name other) _ _ _ (rw of_d of_found) (rw (of_d, parts.1) refl)
    (rw (parts.0, members_have_float-put name d rest of_d parts.1) refl)

pub has_float-or_null : {A : Type 0} (data_of : A → Data) → ((a : A) → has_float (data_of a) ≡ false) → (option : Option A)
    → has_float (or_null data_of option) ≡ false
has_float-or_null data_of of_some None = refl
has_float-or_null data_of of_some (Some a) = of_some a

-- a member without a value or a float
abbrev pub is_whole : Option Data → Bool
is_whole None = true
is_whole (Some d) = not (has_float d)

-- none of what is put has a float
abbrev pub are_whole : Written → Bool
are_whole [] = true
are_whole (m ∷ ms) = is_whole m.1 && are_whole ms

pub are_whole-both : (xs ys : Written) → are_whole xs ≡ true → are_whole ys ≡ true → are_whole (xs ++ ys) ≡ true
are_whole-both [] ys of_xs of_ys = of_ys
are_whole-both (x ∷ xs) ys of_xs of_ys =
    both_true (is_whole x.1) (are_whole (xs ++ ys)) (first_true (is_whole x.1) (are_whole xs) of_xs)
    (are_whole-both xs ys (second_true (is_whole x.1) (are_whole xs) of_xs) of_ys)

not_true : (b : Bool) → not b ≡ true → b ≡ false
not_true true is = absurd (cc)
not_true false is = refl

whole-put : (name : List ℕ) (o : Option Data) (of : Members) → members_have_float of ≡ false → is_whole o ≡ true
    → members_have_float (put_any name o of) ≡ false
whole-put name None of none is = none
whole-put name (Some d) of none is = members_have_float-put name d of (not_true (has_float d) is) none

pub members_have_float-onto : (of : Members) (ms : Written) → members_have_float of ≡ false → are_whole ms ≡ true
    → members_have_float (written_onto of ms) ≡ false
members_have_float-onto of [] none is = none
members_have_float-onto of (m ∷ ms) none is =
    members_have_float-onto (put_any m.0 m.1 of) ms (whole-put m.0 m.1 of none (first_true (is_whole m.1) (are_whole ms) is))
    (second_true (is_whole m.1) (are_whole ms) is)
