-- Bytes that are taken one piece after another.
use Rattle.std.proofs.Common.{◌≡◌, ◌<◌, ◌≤◌, ◌==◌, ℕ, ◌+◌, zero, suc, Bool, true, false, List, [], ◌∷◌, ◌++◌, length, get_or, take, drop, sym, ap, ◌∙◌, refl, subst, append_assoc, take_all, inl, inr, arith}
use Rattle.std.specs.Bool.{⊤}
use Rattle.std.proofs.lemmas.Bool.Decides.{eqb_tells}
use Rattle.std.proofs.lemmas.List.{append-nil, take_more, take-append-drop}
use Rattle.lx_cli.specs.declared.session.Session.{Session}
use Rattle.lx_cli.specs.declared.session.Unanswered.{Unanswered}
use Rattle.lx_cli.specs.declared.session.Unanswered.TheVariants.{Memory}
use Rattle.lx_cli.specs.Lines.{lines_ended, unended}
use Rattle.lx_cli.specs.Run.{SinkSeen}
use Rattle.lx_cli.specs.Steps.{AreAnswered, AreUnanswered, AreTaken, IsUnended, LackMemory}
use Rattle.lx_cli.proofs.Lines.{ended-append, unended-append, ended-push, unended-push, IsUnended-unended}
use Rattle.lx_cli.proofs.Answering.{AreAnswered-none, AreAnswered-append, AreUnanswered-append, AreUnanswered-later, LackMemory-answered}

-- what later bytes end, after what waits
ended-behind : (waits xs ys rest : List ℕ) → rest ≡ unended (waits ++ xs)
    → lines_ended (waits ++ (xs ++ ys)) ≡ lines_ended (waits ++ xs) ++ lines_ended (rest ++ ys)
ended-behind waits xs ys rest e =
    ap lines_ended (sym (append_assoc waits xs ys)) ∙ ended-append (waits ++ xs) ys
    ∙ ap (λ bytes. lines_ended (waits ++ xs) ++ lines_ended (bytes ++ ys)) (sym e)

unended-behind : (waits xs ys rest : List ℕ) → rest ≡ unended (waits ++ xs)
    → unended (rest ++ ys) ≡ unended (waits ++ (xs ++ ys))
unended-behind waits xs ys rest e =
    ap (λ bytes. unended (bytes ++ ys)) e ∙ sym (unended-append (waits ++ xs) ys)
    ∙ ap unended (append_assoc waits xs ys)

pub AreTaken-none : (a : Session) (s : SinkSeen) → IsUnended a.pending.items → AreTaken [] a a s s
AreTaken-none a s h = record {
  answered = subst (λ (lines : List (List ℕ)). AreAnswered lines a.served a.served s s)
      (sym (ap lines_ended (append-nil a.pending.items) ∙ h.none)) (AreAnswered-none a.served s);
  waiting = sym (ap unended (append-nil a.pending.items) ∙ h.all);
}

pub AreTaken-append : (a b c : Session) (s t u : SinkSeen) (xs ys : List ℕ)
    → AreTaken xs a b s t → AreTaken ys b c t u → AreTaken (xs ++ ys) a c s u
AreTaken-append a b c s t u xs ys p q = record {
  answered = subst (λ (lines : List (List ℕ)). AreAnswered lines a.served c.served s u)
      (sym (ended-behind a.pending.items xs ys b.pending.items p.waiting))
      (AreAnswered-append a.served b.served c.served s t u (lines_ended (a.pending.items ++ xs)) (lines_ended (b.pending.items ++ ys)) p.answered q.answered);
  waiting = q.waiting ∙ unended-behind a.pending.items xs ys b.pending.items p.waiting;
}

-- bytes after those that are taken, of which not all lines are answered
pub AreUnanswered-taken : (why : Unanswered) (a b : Session) (s t u : SinkSeen) (xs ys : List ℕ)
    → AreTaken xs a b s t → AreUnanswered why (lines_ended (b.pending.items ++ ys)) b.served t u
    → AreUnanswered why (lines_ended (a.pending.items ++ (xs ++ ys))) a.served s u
AreUnanswered-taken why a b s t u xs ys p q =
    subst (λ (lines : List (List ℕ)). AreUnanswered why lines a.served s u)
    (sym (ended-behind a.pending.items xs ys b.pending.items p.waiting))
    (AreUnanswered-append why a.served b.served s t u (lines_ended (a.pending.items ++ xs)) (lines_ended (b.pending.items ++ ys)) p.answered q)

-- ---- bytes without a line end

-- none of them ends a line
abbrev pub HasNoEnd : List ℕ → Type 0
HasNoEnd [] = ⊤
HasNoEnd (x ∷ xs) = ((x == 10) ≡ false) × HasNoEnd xs

IsUnended-push : (waits : List ℕ) (x : ℕ) → IsUnended waits → (x == 10) ≡ false → IsUnended (waits ++ x ∷ [])
IsUnended-push waits x h other = record {
  none = ended-push waits x ∙ rw (h.none, h.all, other) refl;
  all = unended-push waits x ∙ rw (h.all, other) refl;
}

IsUnended-append : (waits xs : List ℕ) → IsUnended waits → HasNoEnd xs → IsUnended (waits ++ xs)
IsUnended-append waits [] h plain = subst IsUnended (sym (append-nil waits)) h
IsUnended-append waits (x ∷ xs) h plain =
    subst IsUnended (append_assoc waits (x ∷ []) xs) (IsUnended-append (waits ++ x ∷ []) xs (IsUnended-push waits x h plain.0) plain.1)

waits_unended : (a b : Session) (s t : SinkSeen) (xs : List ℕ) → AreTaken xs a b s t → IsUnended b.pending.items
waits_unended a b s t xs p = subst IsUnended (sym p.waiting) (IsUnended-unended (a.pending.items ++ xs))

-- the line that they are with what waits, once a line end comes
line_ends : (waits line : List ℕ) → IsUnended (waits ++ line) → lines_ended (waits ++ (line ++ 10 ∷ [])) ≡ (waits ++ line) ∷ []
line_ends waits line h =
    ap lines_ended (sym (append_assoc waits line (10 ∷ []))) ∙ ended-push (waits ++ line) 10 ∙ rw (h.none, h.all) refl

none_wait : (waits line : List ℕ) → unended (waits ++ (line ++ 10 ∷ [])) ≡ []
none_wait waits line = ap unended (sym (append_assoc waits line (10 ∷ []))) ∙ unended-push (waits ++ line) 10

-- a line more is answered
pub AreTaken-line : (a b c : Session) (s t u : SinkSeen) (xs line : List ℕ) → AreTaken xs a b s t → HasNoEnd line
    → AreAnswered ((b.pending.items ++ line) ∷ []) b.served c.served t u → c.pending.items ≡ [] → AreTaken (xs ++ (line ++ 10 ∷ [])) a c s u
AreTaken-line a b c s t u xs line p plain q emptied =
    let unended : IsUnended (b.pending.items ++ line) = IsUnended-append b.pending.items line (waits_unended a b s t xs p) plain in
    AreTaken-append a b c s t u xs (line ++ 10 ∷ []) p (record {
      answered = subst (λ (lines : List (List ℕ)). AreAnswered lines b.served c.served t u) (sym (line_ends b.pending.items line unended)) q;
      waiting = emptied ∙ sym (none_wait b.pending.items line);
    })

-- a line that isn't answered, and whatever comes after it
pub AreUnanswered-line : (why : Unanswered) (a b : Session) (s t u : SinkSeen) (xs line later : List ℕ) → AreTaken xs a b s t → HasNoEnd line
    → AreUnanswered why ((b.pending.items ++ line) ∷ []) b.served t u
    → AreUnanswered why (lines_ended (a.pending.items ++ (xs ++ ((line ++ 10 ∷ []) ++ later)))) a.served s u
AreUnanswered-line why a b s t u xs line later p plain q =
    let waits = b.pending.items in
    let unended_line : IsUnended (waits ++ line) = IsUnended-append waits line (waits_unended a b s t xs p) plain in
    let rest = unended (waits ++ (line ++ 10 ∷ [])) in
    AreUnanswered-taken why a b s t u xs ((line ++ 10 ∷ []) ++ later) p
    (subst (λ (lines : List (List ℕ)). AreUnanswered why lines b.served t u)
    (sym (ended-behind waits (line ++ 10 ∷ []) later rest refl
    ∙ ap (λ front. front ++ lines_ended (rest ++ later)) (line_ends waits line unended_line)))
    (AreUnanswered-later why b.served t u ((waits ++ line) ∷ []) (lines_ended (rest ++ later)) q))

-- bytes that end no line wait after those that are taken
pub AreTaken-rest : (a b c : Session) (s t : SinkSeen) (xs rest : List ℕ) → AreTaken xs a b s t → HasNoEnd rest
    → c.served ≡ b.served → c.pending.items ≡ b.pending.items ++ rest → AreTaken (xs ++ rest) a c s t
AreTaken-rest a b c s t xs rest p plain served waits =
    let unended : IsUnended (b.pending.items ++ rest) = IsUnended-append b.pending.items rest (waits_unended a b s t xs p) plain in
    AreTaken-append a b c s t t xs rest p (record {
      answered = rw (unended.none, served) (AreAnswered-none b.served t);
      waiting = waits ∙ sym unended.all;
    })

-- or there is no memory for them
pub LackMemory-rest : (a b : Session) (s t : SinkSeen) (xs rest : List ℕ) → AreTaken xs a b s t → HasNoEnd rest
    → LackMemory (lines_ended (a.pending.items ++ (xs ++ rest))) a.served s t
LackMemory-rest a b s t xs rest p plain =
    let unended : IsUnended (b.pending.items ++ rest) = IsUnended-append b.pending.items rest (waits_unended a b s t xs p) plain in
    AreUnanswered-taken Memory a b s t t xs rest p
    (subst (λ (lines : List (List ℕ)). LackMemory lines b.served t t) (sym unended.none)
    (LackMemory-answered b.served b.served t t [] (AreAnswered-none b.served t)))

-- ---- where a line ends

pub has_no_end : (xs : List ℕ) (n : ℕ) → n ≤ length xs → ((k : ℕ) → k < n → (get_or xs k 0 == 10) ≡ false) → HasNoEnd (take n xs)
has_no_end xs zero within other = tt
has_no_end [] (suc n) within other = tt
has_no_end (x ∷ xs) (suc n) within other =
    (other 0 (omega arith), has_no_end xs n (omega (arith, within)) (λ k below. other (suc k) (omega (arith, below))))

-- a line up to its end, and what comes after it
is_end : (x : ℕ) → (x == 10) ≡ true → x ≡ 10
is_end x is =
    elim (eqb_tells x 10) [
      | inl same ↦ same.1
      | inr other ↦ absurd (grind (arith, other.0, is))
    ]

pub around_end : (xs : List ℕ) (at : ℕ) → at < length xs → (get_or xs at 0 == 10) ≡ true → xs ≡ (take at xs ++ 10 ∷ []) ++ drop (at + 1) xs
around_end xs at within is =
    sym (take-append-drop (at + 1) xs)
    ∙ ap (λ front. front ++ drop (at + 1) xs) (take_more xs at 0 within ∙ ap (λ x. take at xs ++ x ∷ []) (is_end (get_or xs at 0) is))

other_than_true : (t : Bool) → (t ≡ true → ⊥) → t ≡ false
other_than_true true never = absurd (never refl)
other_than_true false never = refl

pub no_end_before : (xs : List ℕ) (n : ℕ) → n ≤ length xs → ((k : ℕ) → 0 ≤ k → k < n → (get_or xs k 0 == 10) ≡ true → ⊥) → HasNoEnd (take n xs)
no_end_before xs n within never =
    has_no_end xs n within (λ k below. other_than_true (get_or xs k 0 == 10) (never k (omega arith) below))

pub no_end_in : (xs : List ℕ) → ((k : ℕ) → 0 ≤ k → k < length xs → (get_or xs k 0 == 10) ≡ true → ⊥) → HasNoEnd xs
no_end_in xs never = subst HasNoEnd (take_all (length xs) xs (omega arith)) (no_end_before xs (length xs) (omega arith) never)
