-- What is looked for before a node is set to the fields that it has.
use Rattle.std.specs.Prelude.{ℕ, ◌≡◌, ◌≢◌, false, None, Some}
use Rattle.std.specs.Option.{option_or}
use Rattle.lx_trees.specs.Trees.{nil}
use Rattle.lx_node.specs.Strings.{characters_of}
use Rattle.lx_node.specs.declared.fields.Fields.{Fields}
use Rattle.lx_node.specs.declared.cause.Cause.{Cause}
use Rattle.lx_node.specs.declared.cause.Fault.{Fault}
use Rattle.lx_node.specs.declared.cause.Fault.TheVariants as fault
use Rattle.lx_forest.specs.Lookups.{has, fields_of, IsForest}
use Rattle.lx_links.specs.Faults.{unknown, set_fault}
use Rattle.lx_draft.specs.Working.{Working}
use Rattle.lx_draft.specs.Faults.{over_limits, IsAdmitted}

-- nothing speaks against a set of the fields that the node has, whose strings have so many scalar values
pub record MaySetAgain (more k : ℕ) (w : Working) : Type 0 where
  pub fields : Fields
  pub own : fields_of w.forest k ≡ Some fields
  pub fine : set_fault k fields w.forest ≡ None
  pub admitted : IsAdmitted more (characters_of fields) w
  pub in_order : IsForest w.forest

-- this is the first cause for which a set of the fields that the node has is refused; where there is no such node, of
-- any
pub record RefusesAgain (cause : Cause) (k : ℕ) (w : Working) : Type 0 where
  pub lives : w.forest ≢ nil
  pub there : (fields : Fields) → fields_of w.forest k ≡ Some fields
      → option_or (set_fault k fields w.forest) (over_limits (characters_of fields) w) ≡ Some cause
  pub gone : has k w.forest ≡ false → unknown w.forest k ≡ Some cause

-- a set of the fields that the node has is refused, or the draft has failed
abbrev pub StopsAgain : Fault → ℕ → Working → Type 0
StopsAgain (fault.Cause cause) k w = RefusesAgain cause k w
StopsAgain fault.Memory k w = w.forest ≡ nil
