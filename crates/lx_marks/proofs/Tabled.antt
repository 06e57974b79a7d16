-- Keys in a list, and in the table beside it.
use Rattle.std.proofs.Common.{◌≡◌, ◌∙◌, ℕ, ◌+◌, ◌<◌, Bool, true, false, cond, eqb, ◌||◌, ◌==◌, List, [], ◌∷◌, ◌++◌, None, Some, Result, Ok, Err, if◌then◌else◌, ◌≤◌, ◌-◌, drop, length-append, refl, sym, ap, subst, zero, suc, length, take, get_or, slice_set, arith}
use Rattle.std.proofs.Math.Seq.{take-suc}
use Rattle.std.specs.Prelude.{IsOk, OnOk}
use Rattle.std.proofs.lemmas.List.{at_drop_more}
use Rattle.std.specs.Map.{keys_of}
use Rattle.std.specs.List.{position, list_any}
use Rattle.std.proofs.lemmas.Bool.Decides.{eqb_tells}
use Rattle.indexmap.specs.IndexSet.{insert_key}
use Rattle.lx_trees.specs.Siblings.{is_among, NoRepeats}
use Rattle.lx_marks.specs.Marks.{flag_in, flagged, all_flagged, with_name, with_names}
use Rattle.lx_marks.proofs.Flagged.{flagged-absent, once_flagged}
use Rattle.lx_marks.proofs.Named.{NoRepeats-with_name}

-- the place of a key among entries is its place among their keys
pub position-keys_of : (k : ℕ) (es : List (ℕ × Bool)) → position (λ (e : ℕ × Bool). e.0 == k) es ≡ position (λ x. x == k) (keys_of es)
position-keys_of k [] = refl
position-keys_of k (e ∷ es) = grind (arith, position-keys_of k es)

pub position-none : (k : ℕ) (ks : List ℕ) → position (λ x. x == k) ks ≡ None → is_among k ks ≡ false
position-none k [] none = refl
position-none k (x ∷ ks) none = grind (arith, none, position-none k ks)

-- the flag at the place of a key is its flag
pub flag_at : (k at : ℕ) (es : List (ℕ × Bool)) (d : ℕ × Bool) → position (λ x. x == k) (keys_of es) ≡ Some at → flag_in es k ≡ Some (get_or es at d).1
flag_at k at [] d is = absurd (cc)
flag_at k zero (f ∷ es) d is = grind (arith, is, eqb_tells k f.0, eqb_tells f.0 k)
flag_at k (suc at) (f ∷ es) d is = grind (arith, is, flag_at k at es d, eqb_tells k f.0, eqb_tells f.0 k)

-- a key that is there is flagged where it is
pub flagged_at : (k at : ℕ) (flag : Bool) (es : List (ℕ × Bool)) (d : ℕ × Bool) → position (λ x. x == k) (keys_of es) ≡ Some at
    → slice_set es at (k, ((get_or es at d).1 || flag)) ≡ flagged k flag es
unfolding flagged
flagged_at k at flag [] d is = absurd (cc)
flagged_at k zero flag (f ∷ es) d is = grind (arith, is, eqb_tells k f.0, eqb_tells f.0 k)
flagged_at k (suc at) flag (f ∷ es) d is = grind (arith, is, flagged_at k at flag es d, eqb_tells k f.0, eqb_tells f.0 k)

-- and the keys stay
pub keys_of-flagged_at : (k at : ℕ) (flag : Bool) (es : List (ℕ × Bool)) → position (λ x. x == k) (keys_of es) ≡ Some at → keys_of (slice_set es at (k, flag)) ≡ keys_of es
keys_of-flagged_at k at flag [] is = absurd (cc)
keys_of-flagged_at k zero flag (f ∷ es) is = grind (arith, is, eqb_tells k f.0, eqb_tells f.0 k)
keys_of-flagged_at k (suc at) flag (f ∷ es) is = grind (arith, is, keys_of-flagged_at k at flag es, eqb_tells k f.0, eqb_tells f.0 k)

-- one that isn't goes after all
pub flagged_behind : (k : ℕ) (flag : Bool) (es : List (ℕ × Bool)) → position (λ x. x == k) (keys_of es) ≡ None → flagged k flag es ≡ es ++ (k, flag) ∷ []
flagged_behind k flag es none = flagged-absent k flag es (position-none k (keys_of es) none)

read_is_among : (ks : List ℕ) (i x : ℕ) → i < length ks → x ≡ get_or ks i x → is_among x ks ≡ true
read_is_among [] i x below is = absurd (omega arith)
read_is_among (k ∷ ks) zero x below is = grind (arith, is, eqb_tells k x)
read_is_among (k ∷ ks) (suc i) x below is = grind (arith, read_is_among ks i x (omega arith) is)

-- the key of an entry is read as the entry is
pub read_key : (es : List (ℕ × Bool)) (i : ℕ) (d : ℕ × Bool) → i < length es → (i < length (keys_of es)) × ((get_or es i d).0 ≡ get_or (keys_of es) i (get_or es i d).0)
read_key [] i d below = absurd (omega arith)
read_key (f ∷ es) zero d below = (omega arith, refl)
read_key (f ∷ es) (suc i) d below = let (less, at) = read_key es i d (omega arith) in (omega (arith, less), at)

-- no key stands before its place
tabled_none : (ks : List ℕ) (i x : ℕ) → NoRepeats ks → i < length ks → x ≡ get_or ks i x → list_any (eqb x) (take i ks) ≡ false
tabled_none [] i x once below is = absurd (omega arith)
tabled_none (k ∷ ks) zero x once below is = refl
tabled_none (k ∷ ks) (suc i) x once below is =
    grind (arith, tabled_none ks i x once.1 (omega arith), read_is_among ks i x (omega arith), is, once.0, eqb_tells x k)

-- so it goes into the table after them
pub tabled_more : (ks table : List ℕ) (i x : ℕ) → NoRepeats ks → table ≡ take i ks → i < length ks → x ≡ get_or ks i x
    → insert_key eqb table x ≡ take (i + 1) ks
tabled_more ks table i x once is below at =
    let one : suc i ≡ i + 1 = omega arith in
    ap (λ t. insert_key eqb t x) is ∙ ap (λ b. cond b (take i ks) (take i ks ++ x ∷ [])) (tabled_none ks i x once below at)
    ∙ ap (λ y. take i ks ++ y ∷ []) at ∙ sym (take-suc ks i x below) ∙ ap (λ n. take n ks) one

-- ---- one key after another

named_ok : {T E : Type 0} {P : Type 0} (r : Result T E) → IsOk r → OnOk r P → P
named_ok (Ok v) is p = p
named_ok (Err e) is p = absurd (cc)

pub length-with_name : (k : ℕ) (xs : List ℕ) → length (with_name k xs) ≤ length xs + 1
unfolding with_name
length-with_name k xs = elim (is_among k xs) as (λ b. length (if b then xs else xs ++ k ∷ []) ≤ length xs + 1) [
  | true ↦ omega arith
  | false ↦ omega (arith, length-append xs (k ∷ []))
]

pub length-flagged : (k : ℕ) (flag : Bool) (es : List (ℕ × Bool)) → length (flagged k flag es) ≤ length es + 1
unfolding flagged
length-flagged k flag [] = omega arith
length-flagged k flag (e ∷ es) = elim (k == e.0) as (λ b. length (if b then (e.0, (e.1 || flag)) ∷ es else e ∷ flagged k flag es) ≤ length (e ∷ es) + 1) [
  | true ↦ omega arith
  | false ↦ omega (arith, length-flagged k flag es)
]

-- after one name of those that are left, the rest is left, and room for it
pub record NamedStep (names : List ℕ) (others : List ℕ) (i cap : ℕ) (all : List ℕ) : Type 0 where
  pub named : with_names (drop i others) names ≡ all
  pub once : NoRepeats names
  pub room : length names + (length others - i) ≤ cap

pub name_step : {T E : Type 0} (r : Result T E) (xs ys others : List ℕ) (k i cap later : ℕ) (all : List ℕ) → i < length others → k ≡ get_or others i k
    → IsOk r → OnOk r (ys ≡ with_name k xs) → cap ≤ later → NamedStep xs others i cap all → NamedStep ys others (i + 1) later all
unfolding with_names
name_step r xs ys others k i cap later all below is ok named more h =
    let grown : ys ≡ with_name k xs = named_ok r ok named in
    let longer : length ys ≤ length xs + 1 = subst (λ zs. length zs ≤ length xs + 1) (sym grown) (length-with_name k xs) in
    record {
      named = ap (with_names (drop (i + 1) others)) grown ∙ ap (λ x. with_names (x ∷ drop (i + 1) others) xs) is ∙ sym (at_drop_more (λ os. with_names os xs) others i k below) ∙ h.named;
      once = subst NoRepeats (sym grown) (NoRepeats-with_name k xs h.once);
      room = omega (arith, longer, h.room, below, more);
    }

pub record FlaggedStep (entries others : List (ℕ × Bool)) (i cap : ℕ) (all : List (ℕ × Bool)) : Type 0 where
  pub flagged : all_flagged (drop i others) entries ≡ all
  pub once : NoRepeats (keys_of entries)
  pub room : length entries + (length others - i) ≤ cap

pub flag_step : {T E : Type 0} (r : Result T E) (es fs others : List (ℕ × Bool)) (e : ℕ × Bool) (i cap later : ℕ) (all : List (ℕ × Bool)) → i < length others → e ≡ get_or others i e
    → IsOk r → OnOk r (fs ≡ flagged e.0 e.1 es) → cap ≤ later → FlaggedStep es others i cap all → FlaggedStep fs others (i + 1) later all
unfolding all_flagged
flag_step r es fs others e i cap later all below is ok named more h =
    let grown : fs ≡ flagged e.0 e.1 es = named_ok r ok named in
    let longer : length fs ≤ length es + 1 = subst (λ gs. length gs ≤ length es + 1) (sym grown) (length-flagged e.0 e.1 es) in
    record {
      flagged = ap (all_flagged (drop (i + 1) others)) grown ∙ ap (λ (x : ℕ × Bool). all_flagged (x ∷ drop (i + 1) others) es) is ∙ sym (at_drop_more (λ os. all_flagged os es) others i e below) ∙ h.flagged;
      once = subst (λ gs. NoRepeats (keys_of gs)) (sym grown) (once_flagged e.0 e.1 es h.once);
      room = omega (arith, longer, h.room, below, more);
    }
