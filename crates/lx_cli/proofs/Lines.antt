-- The lines of bytes that come one piece after another.
use Rattle.std.proofs.Common.{suc, ◌≡◌, ℕ, ◌+◌, ◌≤◌, ◌==◌, Bool, true, false, if◌then◌else◌, List, [], ◌∷◌, ◌++◌, length, sym, ap, ◌∙◌, refl, arith}
use Rattle.std.proofs.lemmas.List.{append-nil, append_cancel_left}
use Rattle.lx_cli.specs.Lines.{longer, lines_ended, with_front, unended}
use Rattle.lx_cli.specs.Steps.{IsUnended}

-- the line that a byte ends, after the bytes that wait
abbrev pub line_ended_by : ℕ → List ℕ → List (List ℕ)
line_ended_by byte waiting = if byte == 10 then waiting ∷ [] else []

-- what waits after the byte
abbrev pub waiting_after : ℕ → List ℕ → List ℕ
waiting_after byte waiting = if byte == 10 then [] else waiting ++ byte ∷ []

-- each at its test
ended-cons : (t : Bool) (x : ℕ) (xs : List ℕ) → (x == 10) ≡ t → lines_ended (x ∷ xs) ≡ (if t then [] ∷ lines_ended xs else longer x (lines_ended xs))
unfolding lines_ended
ended-cons t x xs e = rw e refl

unended-cons : (t : Bool) (x : ℕ) (xs : List ℕ) → (x == 10) ≡ t → unended (x ∷ xs) ≡ (if t then unended xs else with_front (lines_ended xs) x (unended xs))
unfolding unended
unended-cons t x xs e = rw e refl

longer-append : (x : ℕ) (before : List (List ℕ)) (rest : List ℕ) (ys : List ℕ) → (x == 10) ≡ false
    → longer x (before ++ lines_ended (rest ++ ys)) ≡ longer x before ++ lines_ended (with_front before x rest ++ ys)
longer-append x [] rest ys e = sym (ended-cons false x (rest ++ ys) e)
longer-append x (line ∷ lines) rest ys e = refl

ended_append_at : (t : Bool) (x : ℕ) (xs ys : List ℕ) → (x == 10) ≡ t → lines_ended (xs ++ ys) ≡ lines_ended xs ++ lines_ended (unended xs ++ ys)
    → lines_ended (x ∷ xs ++ ys) ≡ lines_ended (x ∷ xs) ++ lines_ended (unended (x ∷ xs) ++ ys)
ended_append_at true x xs ys e h =
    rw (ended-cons true x (xs ++ ys) e, ended-cons true x xs e, unended-cons true x xs e, h) refl
ended_append_at false x xs ys e h =
    rw (ended-cons false x (xs ++ ys) e, ended-cons false x xs e, unended-cons false x xs e, h) (longer-append x (lines_ended xs) (unended xs) ys e)

pub ended-append : (xs ys : List ℕ) → lines_ended (xs ++ ys) ≡ lines_ended xs ++ lines_ended (unended xs ++ ys)
unfolding lines_ended unended
ended-append [] ys = refl
ended-append (x ∷ xs) ys = ended_append_at (x == 10) x xs ys refl (ended-append xs ys)

with_front-append : (x : ℕ) (before : List (List ℕ)) (rest ys : List ℕ) → (x == 10) ≡ false
    → with_front (before ++ lines_ended (rest ++ ys)) x (unended (rest ++ ys)) ≡ unended (with_front before x rest ++ ys)
with_front-append x [] rest ys e = sym (unended-cons false x (rest ++ ys) e)
with_front-append x (line ∷ lines) rest ys e = refl

unended_append_at : (t : Bool) (x : ℕ) (xs ys : List ℕ) → (x == 10) ≡ t → unended (xs ++ ys) ≡ unended (unended xs ++ ys)
    → unended (x ∷ xs ++ ys) ≡ unended (unended (x ∷ xs) ++ ys)
unended_append_at true x xs ys e h =
    rw (unended-cons true x (xs ++ ys) e, unended-cons true x xs e) h
unended_append_at false x xs ys e h =
    rw (unended-cons false x (xs ++ ys) e, unended-cons false x xs e, ended-append xs ys, h) (with_front-append x (lines_ended xs) (unended xs) ys e)

pub unended-append : (xs ys : List ℕ) → unended (xs ++ ys) ≡ unended (unended xs ++ ys)
unfolding unended
unended-append [] ys = refl
unended-append (x ∷ xs) ys = unended_append_at (x == 10) x xs ys refl (unended-append xs ys)

-- nothing is ended in the rest
ended-unended : (xs : List ℕ) → lines_ended (unended xs) ≡ []
ended-unended xs =
    let e : lines_ended xs ++ lines_ended (unended xs ++ []) ≡ lines_ended xs ++ [] =
    sym (ended-append xs []) ∙ ap lines_ended (append-nil xs) ∙ sym (append-nil (lines_ended xs)) in
    ap lines_ended (sym (append-nil (unended xs))) ∙ append_cancel_left (lines_ended xs) (lines_ended (unended xs ++ [])) [] e

pub IsUnended-none : IsUnended []
unfolding lines_ended unended
IsUnended-none = record { none = refl; all = refl }

pub IsUnended-unended : (xs : List ℕ) → IsUnended (unended xs)
IsUnended-unended xs = record {
  none = ended-unended xs;
  all = ap unended (sym (append-nil (unended xs))) ∙ sym (unended-append xs []) ∙ ap unended (append-nil xs);
}

-- one byte more
longer-push : (t : Bool) (x : ℕ) (before : List (List ℕ)) (rest : List ℕ)
    → longer x (before ++ (if t then rest ∷ [] else [])) ≡ longer x before ++ (if t then with_front before x rest ∷ [] else [])
longer-push true x [] rest = refl
longer-push true x (line ∷ lines) rest = refl
longer-push false x [] rest = refl
longer-push false x (line ∷ lines) rest = refl

ended_push_at : (t : Bool) (x byte : ℕ) (xs : List ℕ) → (x == 10) ≡ t
    → lines_ended (xs ++ byte ∷ []) ≡ lines_ended xs ++ line_ended_by byte (unended xs)
    → lines_ended (x ∷ xs ++ byte ∷ []) ≡ lines_ended (x ∷ xs) ++ line_ended_by byte (unended (x ∷ xs))
ended_push_at true x byte xs e h =
    rw (ended-cons true x (xs ++ byte ∷ []) e, ended-cons true x xs e, unended-cons true x xs e, h) refl
ended_push_at false x byte xs e h =
    rw (ended-cons false x (xs ++ byte ∷ []) e, ended-cons false x xs e, unended-cons false x xs e, h)
    (longer-push (byte == 10) x (lines_ended xs) (unended xs))

pub ended-push : (xs : List ℕ) (byte : ℕ) → lines_ended (xs ++ byte ∷ []) ≡ lines_ended xs ++ line_ended_by byte (unended xs)
unfolding lines_ended unended
ended-push [] byte = refl
ended-push (x ∷ xs) byte = ended_push_at (x == 10) x byte xs refl (ended-push xs byte)

with_front-push : (t : Bool) (x byte : ℕ) (before : List (List ℕ)) (rest : List ℕ)
    → with_front (before ++ (if t then rest ∷ [] else [])) x (if t then [] else rest ++ byte ∷ [])
    ≡ (if t then [] else with_front before x rest ++ byte ∷ [])
with_front-push true x byte [] rest = refl
with_front-push true x byte (line ∷ lines) rest = refl
with_front-push false x byte [] rest = refl
with_front-push false x byte (line ∷ lines) rest = refl

unended_push_at : (t : Bool) (x byte : ℕ) (xs : List ℕ) → (x == 10) ≡ t
    → unended (xs ++ byte ∷ []) ≡ waiting_after byte (unended xs)
    → unended (x ∷ xs ++ byte ∷ []) ≡ waiting_after byte (unended (x ∷ xs))
unended_push_at true x byte xs e h =
    rw (unended-cons true x (xs ++ byte ∷ []) e, unended-cons true x xs e) h
unended_push_at false x byte xs e h =
    rw (unended-cons false x (xs ++ byte ∷ []) e, unended-cons false x xs e, ended-push xs byte, h)
    (with_front-push (byte == 10) x byte (lines_ended xs) (unended xs))

pub unended-push : (xs : List ℕ) (byte : ℕ) → unended (xs ++ byte ∷ []) ≡ waiting_after byte (unended xs)
unfolding lines_ended unended
unended-push [] byte = refl
unended-push (x ∷ xs) byte = unended_push_at (x == 10) x byte xs refl (unended-push xs byte)

length_ended_at : (t : Bool) (x : ℕ) (before : List (List ℕ)) (rest : List ℕ) (n : ℕ) → length before + length rest ≤ n
    → length (if t then [] ∷ before else longer x before) + length (if t then rest else with_front before x rest) ≤ suc n
length_ended_at true x before rest n h = omega arith
length_ended_at false x [] rest n h = omega arith
length_ended_at false x (line ∷ lines) rest n h = omega arith

-- no more lines than bytes, and no more bytes in the rest
pub length-ended-le : (xs : List ℕ) → length (lines_ended xs) + length (unended xs) ≤ length xs
unfolding lines_ended unended
length-ended-le [] = omega arith
length-ended-le (x ∷ xs) = length_ended_at (x == 10) x (lines_ended xs) (unended xs) (length xs) (length-ended-le xs)
