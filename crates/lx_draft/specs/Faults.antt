-- Why an edit of a draft is refused, the first cause in the order in which they are looked for.
use Rattle.std.specs.Prelude.{ℕ, ◌+◌, ◌≡◌, ◌≢◌, ◌<◌, ◌≤◌, ◌==◌, nat_lt, if◌then◌else◌, Option, None, Some, Result, Ok, Err}
use Rattle.std.specs.Option.{option_or}
use Rattle.lx_trees.specs.Trees.{nil}
use Rattle.lx_node.specs.Strings.{capped}
use Rattle.lx_node.specs.declared.kind.Kind.{Kind}
use Rattle.lx_node.specs.declared.kind.Kind.TheVariants.{Text}
use Rattle.lx_node.specs.declared.fields.Fields.{Fields}
use Rattle.lx_node.specs.declared.fields.Fields.TheVariants as fields
use Rattle.lx_node.specs.declared.fields.TextFields.{TextFields}
use Rattle.lx_node.specs.declared.cause.Cause.{Cause}
use Rattle.lx_node.specs.declared.cause.Cause.TheVariants.{BadPlace, StepLimit, TooLarge, WrongKind}
use Rattle.lx_node.specs.declared.cause.Limit.{Limit}
use Rattle.lx_node.specs.declared.cause.Limit.TheVariants.{Written}
use Rattle.lx_node.specs.declared.cause.Fault.{Fault}
use Rattle.lx_node.specs.declared.cause.Fault.TheVariants as fault
use Rattle.lx_text.specs.Texts.{slice_fault}
use Rattle.lx_forest.specs.Forest.{Forest, Label}
use Rattle.lx_forest.specs.Lookups.{label_of, kind_of, size_of}
use Rattle.lx_links.specs.Faults.{unknown, bound_to, misfit}
use Rattle.lx_node.specs.Limits.{most_counts, most_written}
use Rattle.lx_draft.specs.Working.{Working}

-- `TooLarge`, where a number that was reached is beyond a limit
abbrev pub over_at : Limit → ℕ → ℕ → Option Cause
over_at limit most reached = if nat_lt most reached then Some (TooLarge limit reached) else None

-- `TooLarge`, where a number that was reached is beyond a limit: one above 2 ^ 64 - 1 is given as that one
abbrev pub over : Limit → ℕ → ℕ → Option Cause
over limit most reached = over_at limit most (capped reached)

-- `StepLimit`, where the update has taken all its counts
abbrev pub over_counts : Working → Option Cause
over_counts w = if w.counted == most_counts then Some StepLimit else None

-- `TooLarge`, where so many more scalar values would be too many
abbrev pub over_written : ℕ → Working → Option Cause
over_written more w = over Written most_written (w.written + more)

-- one count more, and then so many more scalar values, would be too many
abbrev pub over_limits : ℕ → Working → Option Cause
over_limits more w = option_or (over_counts w) (over_written more w)

-- so many more scalar values, which a machine counts like this, and another count are within the limits
pub record IsAdmitted (n more : ℕ) (w : Working) : Type 0 where
  pub same : n ≡ more
  pub allowed : over_limits more w ≡ None
  pub counts : w.counted < most_counts
  pub written : w.written + more ≤ most_written

-- `BadPlace`, where the parent has fewer children than the index
abbrev pub beyond : Forest → ℕ → ℕ → Option Cause
beyond f p index = if nat_lt (size_of f p) index then Some (BadPlace index) else None

-- why a node isn't put, the first cause: one of the two isn't there, the key can't go below the parent, the parent may
-- not hold it, or has fewer children
abbrev pub put_fault : ℕ → ℕ → ℕ → Forest → Option Cause
put_fault k p index f =
    option_or (unknown f k) (option_or (unknown f p)
    (option_or (bound_to f p k) (option_or (misfit (kind_of f p) (kind_of f k)) (beyond f p index))))

-- ---- texts

-- the fields of a text that isn't a tab, by its kind and what it has
abbrev pub text_fields : Kind → Fields → Option TextFields
text_fields Text (fields.Text text) = Some text
text_fields kind other = None

-- why a piece of a node's text can't be replaced: it isn't a text, or the offsets are wrong
abbrev pub piece_fault : Kind → Option TextFields → ℕ → ℕ → Option Cause
piece_fault kind None from to = Some (WrongKind kind)
piece_fault kind (Some text) from to = slice_fault text.text from to

-- the fields of the text that a label is, if it is one and no tab
abbrev pub text_in : Option Label → Option TextFields
text_in None = None
text_in (Some l) = text_fields l.kind l.fields

-- why a piece of what a label is can't be replaced
abbrev pub label_fault : Option Label → ℕ → ℕ → Option Cause
label_fault None from to = None
label_fault (Some l) from to = piece_fault l.kind (text_fields l.kind l.fields) from to

-- why a piece of a node's text can't be replaced: there is no such node, it is no text, or the offsets are wrong
abbrev pub splice_fault : ℕ → ℕ → ℕ → Forest → Option Cause
splice_fault k from to f = option_or (unknown f k) (label_fault (label_of f k) from to)

-- ---- answers

-- a step is refused for a cause, or leaves a state
abbrev pub answer : {A : Type 0} → Option Cause → A → Result A Cause
answer None a = Ok a
answer (Some cause) a = Err cause

-- an error of a call whose step is this: refused for the step's cause, or memory ran out
abbrev pub TellsStep : {A : Type 0} → Fault → Result A Cause → Type 0
TellsStep (fault.Cause cause) step = step ≡ Err cause
TellsStep fault.Memory step = Unit {0}

-- what an error leaves of a draft: refused for a cause, it is as it was and hasn't failed; after memory ran out it has
-- failed and has no nodes
abbrev pub Leaves : Fault → Working → Working → Type 0
Leaves (fault.Cause cause) old new = (new ≡ old) × (old.forest ≢ nil)
Leaves fault.Memory old new = new.forest ≡ nil

-- an error of a call that looks for what refuses an edit: the first cause, in a draft that hasn't failed, or the draft
-- has failed
abbrev pub StopsAt : Fault → Option Cause → Working → Type 0
StopsAt (fault.Cause cause) first w = (first ≡ Some cause) × (w.forest ≢ nil)
StopsAt fault.Memory first w = w.forest ≡ nil

-- an error of a call that this is the first cause to refuse: refused for it, or memory ran out
abbrev pub TellsFault : Fault → Option Cause → Type 0
TellsFault (fault.Cause cause) first = first ≡ Some cause
TellsFault fault.Memory first = Unit {0}

-- one step after another: the second is taken where the first isn't refused
abbrev pub after : {A B : Type 0} → Result A Cause → (A → Result B Cause) → Result B Cause
after (Ok a) next = next a
after (Err cause) next = Err cause
