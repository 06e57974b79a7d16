-- What a line of bytes asks for: the grammar of lines, over the JSON value that the bytes are.
use Rattle.std.specs.Prelude.{◌≡◌, ◌⊎◌, ◌||◌, ℕ, Bool, List, [], ◌∷◌, true, false, codes, IsUtf8, if◌then◌else◌, Option, None, Some, option_map, option_and_then, Result, Ok, Err}
use Rattle.std.specs.Option.{option_or, option_zip}
use Rattle.std.specs.Str.{bytes_eq}
use Rattle.serde_json.specs.Data.{Data}
use Rattle.serde_json.specs.Find.{get, as_bool, as_str}
use Rattle.serde_json.specs.Read.{read}
use Rattle.serde_json.specs.View.{view}
use Rattle.lx_node.specs.declared.cause.Cause.{Cause}
use Rattle.lx_node.specs.declared.cause.Cause.TheVariants.{BadLine, BadCommand}
use Rattle.lx_node.specs.declared.cause.Fault.{Fault}
use Rattle.lx_node.specs.declared.cause.Fault.TheVariants.{Cause as Refused, Memory}
use Rattle.lx_step.specs.declared.line.Form.{Form}
use Rattle.lx_step.specs.declared.line.Form.TheVariants.{Update, Defer, Flush, Dispatch, Rule, Listener as Listens, Load, Show, Clear}
use Rattle.lx_step.specs.declared.line.Line.{Line}
use Rattle.lx_step.specs.declared.line.Tags.{Tags}
use Rattle.lx_step.specs.Lines.{untagged}
use Rattle.lx_step.specs.Script.{Script}
use Rattle.lx_script.specs.Commands.{command_in}
use Rattle.lx_script.specs.Listeners.{listener_of}
use Rattle.lx_script.specs.Rules.{rule_of}
use Rattle.lx_script.specs.Steps.{script_in, truth_in}
use Rattle.lx_fields.specs.Values.{named, has_only, required, optional, number_within, list_of}
use Rattle.lx_script.specs.Words.{questions}

-- the bytes are this JSON value: UTF-8 that serde_json reads, which nests at most 127 deep
abbrev pub IsJson : List ℕ → Data → Type 0
IsJson bytes d = IsUtf8 bytes × (read bytes ≡ Some d)

-- The bytes are refused since they are no JSON value, or memory ran out.
abbrev pub TellsNoJson : List ℕ → Fault → Type 0
TellsNoJson bytes (Refused BadLine) = (d : Data) → IsJson bytes d → ⊥
TellsNoJson bytes (Refused other) = ⊥
TellsNoJson bytes Memory = Unit {0}

-- ---- how a line is recorded: any line may carry its time, and an update, a flush, a dispatch and a load may have tags

-- the last time that a line may carry: 2 to the power of 53, less 1
abbrev pub most_moment : ℕ
most_moment = 9007199254740991

-- the time of a line, if it carries one: "at"?:TIME
abbrev pub moment_of : Data → Option (Option ℕ)
moment_of d = optional (number_within 0 most_moment) (codes "at") d

-- whether the word is one of these tags
abbrev pub is_tagged : List ℕ → List (List ℕ) → Bool
is_tagged word [] = false
is_tagged word (tag ∷ tags) = bytes_eq tag word || is_tagged word tags

-- what tags say: other words than these three say nothing
abbrev pub tags_among : List (List ℕ) → Tags
tags_among words =
    record { historic = is_tagged (codes "historic") words; merge = is_tagged (codes "history-merge") words; push = is_tagged (codes "history-push") words }

-- what tags say, where a line without tags says nothing
abbrev pub tags_in : Option (List (List ℕ)) → Tags
tags_in None = untagged
tags_in (Some words) = tags_among words

-- the tags of a line: "tags"?:[TAG..]
abbrev pub tags_of : Data → Option Tags
tags_of d = option_map tags_in (optional (list_of as_str) (codes "tags") d)

-- ---- forms

-- an update, which waits where it is deferred
abbrev pub update_with : Script → Bool → Form
update_with steps true = Defer steps
update_with steps false = Update steps

-- an update: {"update":[STEP..],"defer"?:TRUTH}
abbrev pub update_of : Data → Option Form
update_of d =
    if has_only (codes "at" ∷ codes "tags" ∷ codes "update" ∷ codes "defer" ∷ []) d then
    option_map (λ p. update_with p.0 p.1) (option_zip (required (script_in false) (codes "update") d) (truth_in (get (codes "defer") d)))
    else None

-- a flush, where the member is true
abbrev pub flush_told : Bool → Option Form
flush_told true = Some Flush
flush_told false = None

-- a flush: {"flush":true}
abbrev pub flush_of : Data → Option Form
flush_of d = if has_only (codes "at" ∷ codes "tags" ∷ codes "flush" ∷ []) d then option_and_then flush_told (required as_bool (codes "flush") d) else None

-- a dispatch: {"dispatch":NAME,"payload"?:PAYLOAD}
abbrev pub dispatch_form_of : Data → Option Form
dispatch_form_of d =
    if has_only (codes "at" ∷ codes "tags" ∷ codes "dispatch" ∷ codes "payload" ∷ []) d then option_map (λ command. Dispatch command) (command_in false d) else None

-- a rule: {"rule":RULE}
abbrev pub rule_form_of : Data → Option Form
rule_form_of d = if has_only (codes "at" ∷ codes "rule" ∷ []) d then option_map (λ rule. Rule rule) (required rule_of (codes "rule") d) else None

-- a listener: {"listener":LISTENER}
abbrev pub listener_form_of : Data → Option Form
listener_form_of d =
    if has_only (codes "at" ∷ codes "listener" ∷ []) d then option_map (λ listener. Listens listener) (required listener_of (codes "listener") d) else None

-- a question: {"show":WORD}, where the word is one of the table `questions`
abbrev pub show_of : Data → Option Form
show_of d = if has_only (codes "at" ∷ codes "show" ∷ []) d then option_map (λ shown. Show shown) (required (named questions) (codes "show") d) else None

-- the word for what is cleared, in a table of one
abbrev pub clearings : List (List ℕ × Form)
clearings = (codes "history", Clear) ∷ []

-- what clears the history: {"clear":"history"}
abbrev pub clear_of : Data → Option Form
clear_of d = if has_only (codes "at" ∷ codes "clear" ∷ []) d then required (named clearings) (codes "clear") d else None

-- an update, a flush, a dispatch, a rule, a listener, a question, or what clears the history
abbrev pub form_of : Data → Option Form
form_of d =
    option_or (update_of d)
    (option_or (flush_of d)
    (option_or (dispatch_form_of d) (option_or (rule_form_of d) (option_or (listener_form_of d) (option_or (show_of d) (clear_of d))))))

-- the document of a load: {"load":DOCUMENT}, where any value is a document, and is read as it is loaded
abbrev pub document_in : Data → Option Data
document_in d = if has_only (codes "at" ∷ codes "tags" ∷ codes "load" ∷ []) d then get (codes "load") d else None

-- the value asks for this form: for a load by its document, and for any other by the grammar of that form
abbrev pub Asks : Data → Form → Type 0
Asks d (Load document) = document_in d ≡ Some (view document)
Asks d form = form_of d ≡ Some form

-- the value is of no form
pub record HasNoForm (d : Data) : Type 0 where
  pub no_form : form_of d ≡ None
  pub no_document : document_in d ≡ None

-- The value asks for nothing: it is of no form, or its time is none, or its tags are none.
abbrev pub AsksNothing : Data → Type 0
AsksNothing d = HasNoForm d ⊎ ((moment_of d ≡ None) ⊎ (tags_of d ≡ None))

-- a line of a form that the value asks for, with its time and its tags
pub record IsLineOf (d : Data) (line : Line) : Type 0 where
  pub asked : Asks d line.form
  pub moment : moment_of d ≡ Some line.at
  pub tags : tags_of d ≡ Some line.tags

-- Made of a value: the line that it asks for, a refusal as no command, or that memory runs out.
abbrev pub Makes : Data → Result Line Fault → Type 0
Makes d (Ok line) = IsLineOf d line
Makes d (Err (Refused BadCommand)) = AsksNothing d
Makes d (Err (Refused other)) = ⊥
Makes d (Err Memory) = Unit {0}

-- The bytes ask for this, or are refused for this cause.
unfoldable pub Reads : List ℕ → Result Line Cause → Type 0
Reads bytes (Ok line) = (d : Data) × IsJson bytes d × IsLineOf d line
Reads bytes (Err BadLine) = (d : Data) → IsJson bytes d → ⊥
Reads bytes (Err BadCommand) = (d : Data) × IsJson bytes d × AsksNothing d
Reads bytes (Err other) = ⊥

-- A reading for which memory suffices answers what the bytes ask for, or why they are refused.
abbrev pub TellsLine : List ℕ → Result Line Fault → Type 0
TellsLine bytes (Ok line) = Reads bytes (Ok line)
TellsLine bytes (Err (Refused cause)) = Reads bytes (Err cause)
TellsLine bytes (Err Memory) = Unit {0}
