-- What refuses a part refuses the whole.
use Rattle.std.proofs.Common.{◌≡◌, ◌∙◌, List, ℕ, Result, Ok, Err, ap, sym}
use Rattle.lx_trees.specs.Trees.{Trees}
use Rattle.lx_node.specs.declared.cause.Cause.{Cause}
use Rattle.std.specs.Result.{IfOk}
use Rattle.lx_node.specs.declared.cause.Cause.TheVariants.{BadState}
use Rattle.lx_node.specs.declared.cause.Fault.{Fault}
use Rattle.lx_node.specs.declared.cause.Fault.TheVariants as fault
use Rattle.lx_draft.specs.Faults.{TellsStep}
use Rattle.lx_json.specs.Reading.{Piece, and_then, told_under, with_rest}
use Rattle.lx_json.specs.Growing.{IsRefusedFor, IsUnder}

pub tells_as : {A : Type 0} (cause : Cause) (e : Fault) (r : Result A Cause) → IsRefusedFor cause e → r ≡ Err cause → TellsStep e r
tells_as cause (fault.Cause told) r is refused = refused ∙ ap (λ c. Err c) (sym is)
tells_as cause fault.Memory r is refused = tt

pub tells_same : {A : Type 0} (e : Fault) (part whole : Result A Cause) → whole ≡ part → TellsStep e part → TellsStep e whole
tells_same (fault.Cause cause) part whole same told = same ∙ told
tells_same fault.Memory part whole same told = tt

-- a place that is spelled so
pub tells_at : {A : Type 0} (place spelled : List ℕ) (e : Fault) (r : Result A Cause) → spelled ≡ place → IsRefusedFor (BadState spelled) e
    → r ≡ Err (BadState place) → TellsStep e r
tells_at place spelled e r same is refused = tells_as (BadState spelled) e r is (refused ∙ ap (λ place. Err (BadState place)) (sym same))

pub told_of : {X E : Type 0} (r : Result X E) (P Q : X → Type 0) → IfOk r P → ((x : X) → P x → Q x) → IfOk r Q
told_of (Ok x) P Q p then = then x p
told_of (Err e) P Q p then = tt

-- a front that is refused
pub tells_on : {A B : Type 0} (e : Fault) (first : Result A Cause) (next : A → Result B Cause) → TellsStep e first → TellsStep e (and_then first next)
tells_on (fault.Cause cause) first next told = ap (λ r. and_then r next) told
tells_on fault.Memory first next told = tt

-- the first of several trees
pub tells_first : (e : Fault) (first others : Result (Trees Piece) Cause) → TellsStep e first → TellsStep e (with_rest first others)
tells_first (fault.Cause cause) first others told = ap (λ r. with_rest r others) told
tells_first fault.Memory first others told = tt

-- a place further up
pub tells_up : {A : Type 0} (place : List ℕ) (e up : Fault) (r : Result A Cause) → IsUnder place e up → TellsStep e r → TellsStep up (told_under place r)
tells_up place (fault.Cause cause) (fault.Cause other) r is told = ap (told_under place) told ∙ ap (λ c. Err c) (sym is)
tells_up place fault.Memory (fault.Cause other) r is told = absurd is
tells_up place e fault.Memory r is told = tt

-- whatever refuses the one for a cause refuses the other
pub tells_where : {A B : Type 0} (e : Fault) (r : Result A Cause) (s : Result B Cause) → ((cause : Cause) → r ≡ Err cause → s ≡ Err cause) → TellsStep e r
    → TellsStep e s
tells_where (fault.Cause cause) r s each told = each cause told
tells_where fault.Memory r s each told = tt
