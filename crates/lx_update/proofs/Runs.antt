-- What a dispatch comes to, from what its parts answer.
use Rattle.std.proofs.Common.{◌≡◌, ◌∙◌, ◌-◌, ℕ, zero, suc, Bool, true, List, Option, None, Some, Result, Ok, Err, refl, ap, sym, arith}
use Rattle.lx_node.specs.declared.cause.Cause.{Cause}
use Rattle.lx_node.specs.declared.cause.Cause.TheVariants.{DispatchDepth}
use Rattle.lx_node.specs.declared.cause.Fault.{Fault}
use Rattle.lx_node.specs.declared.cause.Fault.TheVariants as fault
use Rattle.lx_step.specs.BuiltIns.{built_in}
use Rattle.lx_step.specs.declared.built_in.BuiltIn.{BuiltIn}
use Rattle.lx_step.specs.declared.command.Payload.{Payload}
use Rattle.lx_step.specs.declared.listener.Listener.{Listener}
use Rattle.lx_bus.specs.Offers.{above, behind}
use Rattle.lx_draft.specs.Faults.{after, TellsStep}
use Rattle.lx_update.specs.Running.{Running, take_count, done_by, unless_handled, built_in_or, offered, dispatched}

-- what a part says of an error, the whole says, where it is refused for each cause for which the part is
pub told_of : {A B : Type 0} (fault : Fault) (part : Result A Cause) (whole : Result B Cause) → ((cause : Cause) → part ≡ Err cause → whole ≡ Err cause)
    → TellsStep fault part → TellsStep fault whole
told_of (fault.Cause cause) part whole goes told = goes cause told
told_of fault.Memory part whole goes told = tt

-- an answer whose flag is known
pub flagged : {r : Result (Running × Bool) Cause} {n : Running} {b known : Bool} → r ≡ Ok (n, b) → b ≡ known → r ≡ Ok (n, known)
flagged {n = n} answers is = answers ∙ ap (λ b. Ok (n, b)) is

-- ---- dispatches

one_less : (n : ℕ) → suc n - 1 ≡ n
one_less n = omega arith

-- what is done where no listener above editor has handled the command
abbrev pub done_else : ℕ → List Listener → List ℕ → Payload → Running → Result (Running × Bool) Cause
done_else left ls name sent = built_in_or (built_in name) (dispatched (left - 1) ls) sent (behind name ls)

dispatched_by : (left : ℕ) (ls : List Listener) (name : List ℕ) (sent : Payload) (m : Running) → (left ≡ 0 → ⊥)
    → dispatched left ls name sent m ≡ after (offered (dispatched (left - 1) ls) sent (above name ls) m) (unless_handled (done_else left ls name sent))
unfolding dispatched
dispatched_by zero ls name sent m more = absurd (more refl)
dispatched_by (suc left) ls name sent m more =
    ap (λ n. after (offered (dispatched n ls) sent (above name ls) m) (unless_handled (built_in_or (built_in name) (dispatched n ls) sent (behind name ls))))
    (sym (one_less left))

-- a dispatch goes on from what the listeners above editor answer
pub dispatched_first : {first : List Listener} {r : Result (Running × Bool) Cause} (left : ℕ) (ls : List Listener) (name : List ℕ) (sent : Payload)
    (m : Running) → (left ≡ 0 → ⊥) → first ≡ above name ls
    → offered (dispatched (left - 1) ls) sent first m ≡ r → dispatched left ls name sent m ≡ after r (unless_handled (done_else left ls name sent))
dispatched_first left ls name sent m more is answers =
    dispatched_by left ls name sent m more
    ∙ ap (λ r. after r (unless_handled (done_else left ls name sent))) (ap (λ os. offered (dispatched (left - 1) ls) sent os m) (sym is) ∙ answers)

-- none of them has handled it, this is what they leave, and this the built-in command of the name, if there is one
pub record IsPassed (left : ℕ) (ls : List Listener) (name : List ℕ) (sent : Payload) (m n : Running) (o : Option BuiltIn) : Type 0 where
  pub goes_on : dispatched left ls name sent m ≡ built_in_or o (dispatched (left - 1) ls) sent (behind name ls) n

pub passed_to : {text : List ℕ} {o : Option BuiltIn} (left : ℕ) (ls : List Listener) (name : List ℕ) (sent : Payload) (m n : Running)
    → dispatched left ls name sent m ≡ done_else left ls name sent n
    → o ≡ built_in text → text ≡ name → IsPassed left ls name sent m n o
passed_to left ls name sent m n e is same =
    record { goes_on = e ∙ ap (λ o. built_in_or o (dispatched (left - 1) ls) sent (behind name ls) n) (sym (is ∙ ap built_in same)) }

-- there is none
pub dispatched_behind : {left : ℕ} {ls last : List Listener} {name text : List ℕ} {sent : Payload} {m n : Running} {o : Option BuiltIn}
    → IsPassed left ls name sent m n o → o ≡ None
    → last ≡ behind text ls → text ≡ name → offered (dispatched (left - 1) ls) sent last n ≡ dispatched left ls name sent m
dispatched_behind {left} {ls} {name = name} {sent = sent} {n = n} passed none is same =
    ap (λ os. offered (dispatched (left - 1) ls) sent os n) (is ∙ ap (λ name. behind name ls) same)
    ∙ sym (passed.goes_on ∙ ap (λ o. built_in_or o (dispatched (left - 1) ls) sent (behind name ls) n) none)

-- there is one, which goes on from its count
pub dispatched_counted : {left : ℕ} {ls : List Listener} {name : List ℕ} {sent : Payload} {m n : Running} {o : Option BuiltIn} {command : BuiltIn}
    {r : Result Running Cause}
    → IsPassed left ls name sent m n o → o ≡ Some command → take_count n ≡ r
    → dispatched left ls name sent m ≡ after r (λ o. after (done_by command sent o) (λ p. Ok (p, true)))
dispatched_counted {left} {ls} {name} {sent} {n = n} {command = command} passed known counted =
    passed.goes_on
    ∙ ap (λ o. built_in_or o (dispatched (left - 1) ls) sent (behind name ls) n) known
    ∙ ap (λ r. after r (λ o. after (done_by command sent o) (λ p. Ok (p, true)))) counted

-- and then from what the command does
pub dispatched_done : {left : ℕ} {ls : List Listener} {name : List ℕ} {sent : Payload} {m n o : Running} {known : Option BuiltIn} {command : BuiltIn}
    {r : Result Running Cause}
    → IsPassed left ls name sent m n known → known ≡ Some command → take_count n ≡ Ok o → done_by command sent o ≡ r
    → dispatched left ls name sent m ≡ after r (λ p. Ok (p, true))
dispatched_done passed is counted done = dispatched_counted passed is counted ∙ ap (λ r. after r (λ p. Ok (p, true))) done

pub dispatched_deepest : (left : ℕ) (ls : List Listener) (name : List ℕ) (sent : Payload) (m : Running) → left ≡ 0
    → dispatched left ls name sent m ≡ Err DispatchDepth
unfolding dispatched
dispatched_deepest left ls name sent m deepest = ap (λ n. dispatched n ls name sent m) deepest
