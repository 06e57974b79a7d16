-- From what a value says of itself to what the grammar asks of it.
use Rattle.std.proofs.Common.{◌≡◌, refl, subst, codes, ℕ, List, [], ◌∷◌, length, Bool, true, false, Some, ◌==◌, Result, Ok, Err}
use Rattle.serde_json.proofs.Views.{items_len-items_view}
use Rattle.serde_json.specs.Data.{Data, array}
use Rattle.serde_json.specs.Find.{get, as_array, as_bool}
use Rattle.serde_json.specs.View.{items_view}
use Rattle.serde_json.specs.declared.value.Value.{Value}
use Rattle.lx_node.specs.declared.cause.Cause.TheVariants.{BadLine, BadCommand}
use Rattle.lx_node.specs.declared.cause.Fault.{Fault}
use Rattle.lx_node.specs.declared.cause.Fault.TheVariants.{Cause as Refused, Memory}
use Rattle.std.specs.Option.{option_zip}
use Rattle.lx_step.specs.Script.{Script}
use Rattle.lx_step.specs.declared.line.Line.{Line}
use Rattle.lx_step.specs.declared.line.Form.{Form}
use Rattle.lx_step.specs.declared.line.Form.TheVariants.{Update, Defer, Flush, Dispatch, Rule, Listener as Listens, Load, Show, Clear}
use Rattle.lx_script.specs.Commands.{command_in}
use Rattle.lx_script.specs.Listeners.{listener_of}
use Rattle.lx_script.specs.Rules.{rule_of}
use Rattle.lx_script.specs.Steps.{script_in, truth_in}
use Rattle.lx_script.specs.Grammar.{IsJson, Asks, Makes, Reads, TellsLine, TellsNoJson, form_of, update_with, update_of, flush_told, flush_of, dispatch_form_of, rule_form_of, listener_form_of, show_of, clear_of, clearings}
use Rattle.lx_script.specs.References.{has_three}
use Rattle.lx_fields.specs.Values.{named, has_only, required}
use Rattle.lx_script.specs.Words.{questions}
use Rattle.lx_fields.proofs.Sound.{mapped, either, chained, tested, named_holds}

pub has_three-array : (d : Data) (vs : List Value) → Some (items_view vs) ≡ as_array d → has_three d ≡ (length vs == 3)
has_three-array (array ds) vs is = let same : items_view vs ≡ ds = cc in rw (← same, items_len-items_view vs) refl
has_three-array _ vs is = absurd (cc)

-- ---- what a value asks for

-- any form but that of a load
abbrev IsNoLoad : Form → Type 0
IsNoLoad (Load document) = ⊥
IsNoLoad form = Unit {0}

update_no_load : (steps : Script) (deferred : Bool) → IsNoLoad (update_with steps deferred)
update_no_load steps true = tt
update_no_load steps false = tt

flush_no_load : (truth : Bool) (form : Form) → flush_told truth ≡ Some form → IsNoLoad form
flush_no_load true form is = let same : Flush ≡ form = cc in subst IsNoLoad same tt
flush_no_load false form is = absurd (cc)

-- what the grammar of forms gives is no load
form_of-no_load : (d : Data) (form : Form) → form_of d ≡ Some form → IsNoLoad form
form_of-no_load d form is =
    let updates = option_zip (required (script_in false) (codes "update") d) (truth_in (get (codes "defer") d)) in
    let flushes = required as_bool (codes "flush") d in
    let rules = required rule_of (codes "rule") d in
    let listens = required listener_of (codes "listener") d in
    let shows = required (named questions) (codes "show") d in
    let clears = required (named clearings) (codes "clear") d in
    either IsNoLoad (update_of d) _
    (tested IsNoLoad (has_only (codes "at" ∷ codes "tags" ∷ codes "update" ∷ codes "defer" ∷ []) d) _
    (mapped IsNoLoad (λ p. update_with p.0 p.1) updates (λ p at. update_no_load p.0 p.1)))
    (either IsNoLoad (flush_of d) _
    (tested IsNoLoad (has_only (codes "at" ∷ codes "tags" ∷ codes "flush" ∷ []) d) _ (chained IsNoLoad flush_told flushes (λ truth at. flush_no_load truth)))
    (either IsNoLoad (dispatch_form_of d) _
    (tested IsNoLoad (has_only (codes "at" ∷ codes "tags" ∷ codes "dispatch" ∷ codes "payload" ∷ []) d) _
    (mapped IsNoLoad (λ command. Dispatch command) (command_in false d) (λ made at. tt)))
    (either IsNoLoad (rule_form_of d) _
    (tested IsNoLoad (has_only (codes "at" ∷ codes "rule" ∷ []) d) _ (mapped IsNoLoad (λ rule. Rule rule) rules (λ made at. tt)))
    (either IsNoLoad (listener_form_of d) _
    (tested IsNoLoad (has_only (codes "at" ∷ codes "listener" ∷ []) d) _ (mapped IsNoLoad (λ listener. Listens listener) listens (λ made at. tt)))
    (either IsNoLoad (show_of d) (clear_of d)
    (tested IsNoLoad (has_only (codes "at" ∷ codes "show" ∷ []) d) _ (mapped IsNoLoad (λ shown. Show shown) shows (λ made at. tt)))
    (tested IsNoLoad (has_only (codes "at" ∷ codes "clear" ∷ []) d) clears
    (chained IsNoLoad (named clearings) (get (codes "clear") d) (λ e there. named_holds IsNoLoad clearings (tt, tt) e)))))))) form is

asks : (d : Data) (form : Form) → IsNoLoad form → form_of d ≡ Some form → Asks d form
asks d (Update steps) other is = is
asks d (Defer steps) other is = is
asks d Flush other is = is
asks d (Dispatch command) other is = is
asks d (Rule rule) other is = is
asks d (Listens listener) other is = is
asks d (Load document) other is = absurd other
asks d (Show shown) other is = is
asks d Clear other is = is

-- a value asks for the form that the grammar of forms gives
pub asks_for : (d : Data) (form : Form) → form_of d ≡ Some form → Asks d form
asks_for d form is = asks d form (form_of-no_load d form is) is

-- ---- what the bytes ask for

-- what is made of the value that the bytes are says what they ask for
pub tells_of_json : (bytes : List ℕ) (d : Data) (result : Result Line Fault) → IsJson bytes d → Makes d result → TellsLine bytes result
unfolding Reads
tells_of_json bytes d (Ok line) is made = (d, is, made)
tells_of_json bytes d (Err (Refused BadLine)) is made = absurd made
tells_of_json bytes d (Err (Refused BadCommand)) is made = (d, is, made)
tells_of_json bytes d (Err (Refused other)) is made = absurd made
tells_of_json bytes d (Err Memory) is made = tt

-- bytes that are no JSON value say nothing else
pub tells_of_no_json : (bytes : List ℕ) (fault : Fault) → TellsNoJson bytes fault → TellsLine bytes (Err fault)
unfolding Reads
tells_of_no_json bytes (Refused BadLine) refused = refused
tells_of_no_json bytes (Refused other) refused = absurd refused
tells_of_no_json bytes Memory refused = tt
