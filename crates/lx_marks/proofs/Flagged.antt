-- The laws of elements with flags that come one after another.
use Rattle.std.proofs.Common.{◌≡◌, ◌∙◌, ℕ, Bool, true, false, cond, eqb, List, [], ◌∷◌, ◌++◌, Option, None, Some, refl, sym, ap, subst, append-nil, append_assoc, arith}
use Rattle.std.specs.Prelude.{is_some}
use Rattle.std.specs.Map.{keys_of}
use Rattle.std.proofs.lemmas.Bool.Decides.{eqb_tells}
use Rattle.lx_trees.specs.Siblings.{is_among, NoRepeats}
use Rattle.lx_marks.specs.Marks.{flag_in, flagged, all_flagged, with_name}
use Rattle.lx_marks.specs.Laws.{either_flag}
use Rattle.lx_marks.proofs.Named.{is_among-with_name, NoRepeats-with_name}

-- a key has a flag where it is among the keys
pub is_some-flag_in : (es : List (ℕ × Bool)) (q : ℕ) → is_some (flag_in es q) ≡ is_among q (keys_of es)
is_some-flag_in [] q = refl
is_some-flag_in (e ∷ es) q = grind (arith, is_some-flag_in es q, eqb_tells e.0 q, eqb_tells q e.0)

pub flag_in-absent : (es : List (ℕ × Bool)) (q : ℕ) → is_among q (keys_of es) ≡ false → flag_in es q ≡ None
flag_in-absent [] q e = refl
flag_in-absent (e ∷ es) q none = grind (arith, flag_in-absent es q, eqb_tells e.0 q, eqb_tells q e.0)

pub flag_in-flagged : (k : ℕ) (flag : Bool) (es : List (ℕ × Bool)) (q : ℕ) →
    flag_in (flagged k flag es) q ≡ cond (eqb q k) (either_flag (flag_in es q) (Some flag)) (flag_in es q)
unfolding flagged
flag_in-flagged k flag [] q = refl
flag_in-flagged k flag (e ∷ es) q =
    grind (arith, flag_in-flagged k flag es q, eqb_tells k e.0, eqb_tells q e.0, eqb_tells q k)

either_flag-none : (a : Option Bool) → either_flag a None ≡ a
either_flag-none None = refl
either_flag-none (Some x) = refl

pub flag_in-all_flagged : (fs es : List (ℕ × Bool)) (q : ℕ) → NoRepeats (keys_of fs) →
    flag_in (all_flagged fs es) q ≡ either_flag (flag_in es q) (flag_in fs q)
unfolding all_flagged
flag_in-all_flagged [] es q once = sym (either_flag-none (flag_in es q))
flag_in-all_flagged (f ∷ fs) es q once =
    grind (arith, flag_in-all_flagged fs (flagged f.0 f.1 es) q once.1, flag_in-flagged f.0 f.1 es q, once.0, flag_in-absent fs q, eqb_tells q f.0, either_flag-none (either_flag (flag_in es q) (Some f.1)))

-- the keys are those of names
pub keys_of-flagged : (k : ℕ) (flag : Bool) (es : List (ℕ × Bool)) → keys_of (flagged k flag es) ≡ with_name k (keys_of es)
unfolding flagged with_name
keys_of-flagged k flag [] = refl
keys_of-flagged k flag (e ∷ es) = grind (arith, keys_of-flagged k flag es, eqb_tells k e.0, eqb_tells e.0 k)

pub once_flagged : (k : ℕ) (flag : Bool) (es : List (ℕ × Bool)) → NoRepeats (keys_of es) → NoRepeats (keys_of (flagged k flag es))
once_flagged k flag es once = subst NoRepeats (sym (keys_of-flagged k flag es)) (NoRepeats-with_name k (keys_of es) once)

-- elements that aren't there go after all
pub flagged-absent : (k : ℕ) (flag : Bool) (es : List (ℕ × Bool)) → is_among k (keys_of es) ≡ false → flagged k flag es ≡ es ++ (k, flag) ∷ []
unfolding flagged
flagged-absent k flag [] none = refl
flagged-absent k flag (e ∷ es) none = grind (arith, none, flagged-absent k flag es, eqb_tells k e.0, eqb_tells e.0 k)

pub all_flagged-apart : (fs es : List (ℕ × Bool)) → NoRepeats (keys_of fs) → ((q : ℕ) → is_among q (keys_of fs) ≡ true → is_among q (keys_of es) ≡ false)
    → all_flagged fs es ≡ es ++ fs
unfolding all_flagged
all_flagged-apart [] es once apart = sym (append-nil es)
all_flagged-apart (f ∷ fs) es once apart =
    let absent : is_among f.0 (keys_of es) ≡ false = grind (arith, apart f.0, eqb_tells f.0 f.0) in
    let more : all_flagged fs (flagged f.0 f.1 es) ≡ flagged f.0 f.1 es ++ fs =
    all_flagged-apart fs (flagged f.0 f.1 es) once.1 (λ q among.
    grind (arith, among, apart q, once.0, keys_of-flagged f.0 f.1 es, is_among-with_name f.0 (keys_of es) q, eqb_tells q f.0)) in
    more ∙ ap (λ gs. gs ++ fs) (flagged-absent f.0 f.1 es absent) ∙ append_assoc es (f ∷ []) fs
