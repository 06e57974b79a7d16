-- Pieces brought into texts by themselves, one by one.
use Rattle.std.proofs.Common.{◌≡◌, ◌∙◌, ℕ, ◌<◌, ◌≤◌, suc, Bool, true, false, cond, ◌&&◌, List, [], ◌∷◌, ◌++◌, length, Some, Result, Ok, Err, refl, sym, ap, arith, inl, inr, append_assoc}
use Rattle.std.specs.Prelude.{filter, nat_lt, is_some, unwrap_or, ◌⊎◌}
use Rattle.std.specs.List.{slice_get}
use Rattle.std.proofs.lemmas.Bool.{cases_lt}
use Rattle.lx_node.specs.declared.cause.Cause.{Cause}
use Rattle.lx_forest.specs.Forest.{Forest}
use Rattle.lx_draft.specs.Working.{Working}
use Rattle.lx_draft.specs.Faults.{after}
use Rattle.lx_edit.specs.Texts.{keys_from}
use Rattle.lx_blocks.specs.Ranges.{normal_at, characters_at}
use Rattle.lx_caret.specs.declared.pieces.Piece.{Piece}
use Rattle.lx_caret.specs.Formatting.{edges, isolated_key, Isolated, and_before}

-- the texts so far, before those of the pieces that are left
abbrev pub and_ahead : List ℕ → Isolated → Result Isolated Cause
and_ahead keys made = Ok (record { draft = made.draft; texts = keys ++ made.texts })

pub none_ahead : (r : Result Isolated Cause) → after r (and_ahead []) ≡ r
none_ahead (Ok made) = refl
none_ahead (Err cause) = refl

pub one_ahead : (r : Result Isolated Cause) (k : ℕ) (keys : List ℕ) → after (after r (and_before k)) (and_ahead keys) ≡ after r (and_ahead (keys ++ k ∷ []))
one_ahead (Ok made) k keys =
    ap (λ (ts : List ℕ). let m : Isolated = record { draft = made.draft; texts = ts } in let r : Result Isolated Cause = Ok m in r)
    (sym (append_assoc keys (k ∷ []) made.texts))
one_ahead (Err cause) k keys = refl

-- ---- the key of a piece

some_edge : (f : Forest) (p : Piece) → 0 < p.from → p.from < characters_at f p.key → (n : ℕ) × (length (edges f p) ≡ suc n)
some_edge f p behind inside = by_first (nat_lt 0 p.from) (nat_lt p.from (characters_at f p.key)) (grind (arith, behind)) (grind (arith, inside)) where
  by_first : (a b : Bool) → a ≡ true → b ≡ true
      → (n : ℕ)
      × (length
      (cond (a && b) (p.from ∷ filter (λ o. nat_lt 0 o && nat_lt o (characters_at f p.key)) (p.to ∷ []))
      (filter (λ o. nat_lt 0 o && nat_lt o (characters_at f p.key)) (p.to ∷ []))) ≡ suc n)
  by_first true true a b = (length (filter (λ o. nat_lt 0 o && nat_lt o (characters_at f p.key)) (p.to ∷ [])), refl)
  by_first true false a b = absurd (cc)
  by_first false b' a b = absurd (cc)

first_from : (next n m : ℕ) → m ≡ suc n → slice_get (keys_from next m) 0 ≡ Some next
first_from next n m is = ap (λ m. slice_get (keys_from next m) 0) is

-- the first new text begins where the piece does
pub first_is_new : (f : Forest) (p : Piece) (next : ℕ) (keys : List ℕ) → keys ≡ keys_from next (length (edges f p)) → 0 < p.from
    → p.from < characters_at f p.key → slice_get keys 0 ≡ Some next
first_is_new f p next keys are behind inside =
    let some = some_edge f p behind inside in
    ap (λ ks. slice_get ks 0) are ∙ first_from next some.0 (length (edges f p)) some.1

-- a piece of a normal text has this key, after the text was split
pub key_is : (w : Working) (p : Piece) (keys : List ℕ) (k : ℕ) → is_some (normal_at w.forest p.key) ≡ true
    → (0 < p.from → p.from < characters_at w.forest p.key)
    → keys ≡ keys_from w.next_key (length (edges w.forest p)) → k ≡ cond (nat_lt 0 p.from) (unwrap_or (slice_get keys 0) p.key) p.key → k ≡ isolated_key p w
key_is w p keys k normal inside are is =
    is ∙ by_start (cases_lt 0 p.from) ∙ sym (ap (λ b. cond (b && nat_lt 0 p.from) w.next_key p.key) normal) where
      by_start : (0 < p.from) ⊎ (p.from ≤ 0) → cond (nat_lt 0 p.from) (unwrap_or (slice_get keys 0) p.key) p.key ≡ cond (nat_lt 0 p.from) w.next_key p.key
      by_start (inl behind) = ap (λ o. cond (nat_lt 0 p.from) (unwrap_or o p.key) p.key) (first_is_new w.forest p w.next_key keys are behind (inside behind))
      by_start (inr none) = let away : nat_lt 0 p.from ≡ false = grind (arith, none) in rw away
