-- The nodes of references, gathered one after another.
use Rattle.std.proofs.Common.{◌≡◌, ℕ, List, [], ◌∷◌, ◌++◌, append_assoc, Result, Ok, Err, refl, ap, sym}
use Rattle.lx_node.specs.declared.cause.Cause.{Cause}
use Rattle.lx_step.specs.declared.reference.Reference.{Reference}
use Rattle.lx_draft.specs.Faults.{after}
use Rattle.lx_update.specs.Scripts.{Scripted, all_resolved}

-- after these keys, those of the references that are left
abbrev pub gathered : List ℕ → List Reference → Scripted → Result (List ℕ) Cause
gathered keys rest s = after (all_resolved rest s) (λ more. Ok (keys ++ more))

pub none_gathered : (all : List Reference) (s : Scripted) → all_resolved all s ≡ gathered [] all s
none_gathered all s = whole (all_resolved all s)
  where
    whole : (r : Result (List ℕ) Cause) → r ≡ after r (λ more. Ok ([] ++ more))
    whole (Ok more) = refl
    whole (Err cause) = refl

pub one_gathered : (keys : List ℕ) (k : ℕ) (r : Result (List ℕ) Cause)
    → after (after r (λ more. Ok (k ∷ more))) (λ more. Ok (keys ++ more)) ≡ after r (λ more. Ok ((keys ++ k ∷ []) ++ more))
one_gathered keys k (Ok more) = ap (λ l. Ok l) (sym (append_assoc keys (k ∷ []) more))
one_gathered keys k (Err cause) = refl
