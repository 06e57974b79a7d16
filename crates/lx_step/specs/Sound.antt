-- What steps hold that any node can have, whatever the forest is on which they run.
use Rattle.std.specs.Prelude.{◌≢◌, ◌≤◌, All}
use Rattle.lx_node.specs.declared.kind.Kind.{Kind}
use Rattle.lx_node.specs.declared.kind.Kind.TheVariants.{Root}
use Rattle.lx_node.specs.declared.fields.Fields.{Fields}
use Rattle.lx_node.specs.OfKind.{IsOfKind}
use Rattle.lx_step.specs.declared.line.Form.{Form}
use Rattle.lx_step.specs.declared.line.Form.TheVariants.{Update, Defer, Flush, Dispatch, Rule, Listener as Listens, Load, Show, Clear}
use Rattle.lx_step.specs.declared.step.Step.{Step}
use Rattle.lx_step.specs.declared.step.Step.TheVariants.{New, Set, Later}
use Rattle.lx_trees.specs.Trees.{nil, tree}
use Rattle.lx_step.specs.Script.{Head, Script}
use Rattle.lx_step.specs.Script as script
use Rattle.lx_step.specs.declared.listener.Listener.{Listener}
use Rattle.lx_step.specs.Patches.{IsInRange}

-- what a new node may be: of another kind than the root's, with fields of that kind
pub record MayBeNew (kind : Kind) (fields : Fields) : Type 0 where
  pub other : kind ≢ Root
  pub of_kind : IsOfKind kind fields

-- of a step but for those that it queues, a new node may be new, and members that are set have values within their
-- ranges
abbrev pub IsSoundHead : Head → Type 0
IsSoundHead (script.new kind fields name) = MayBeNew kind fields
IsSoundHead (script.set node patch) = All IsInRange patch.members
IsSoundHead _ = Unit {0}

-- all new nodes of a script may be new, and all members that it sets have values within their ranges
abbrev pub IsSoundScript : Script → Type 0
IsSoundScript nil = Unit {0}
IsSoundScript (tree head below rest) = IsSoundHead head × IsSoundScript below × IsSoundScript rest

-- what one step makes may be new, and what it sets is within the ranges, with all that it queues
abbrev pub IsSound : Step → Type 0
IsSound (New kind fields name) = MayBeNew kind fields
IsSound (Set node patch) = All IsInRange patch.members
IsSound (Later steps) = IsSoundScript steps
IsSound _ = Unit {0}

-- a listener has a priority from 0 to 4, and sound steps
pub record IsSoundListener (l : Listener) : Type 0 where
  pub priority : l.priority ≤ 4
  pub steps : IsSoundScript l.steps

-- the steps of an update are sound, also where it waits, and so is a listener: of rules and documents nothing is asked
abbrev pub IsSoundForm : Form → Type 0
IsSoundForm (Update steps) = IsSoundScript steps
IsSoundForm (Defer steps) = IsSoundScript steps
IsSoundForm Flush = Unit {0}
IsSoundForm (Dispatch command) = Unit {0}
IsSoundForm (Rule rule) = Unit {0}
IsSoundForm (Listens listener) = IsSoundListener listener
IsSoundForm (Load document) = Unit {0}
IsSoundForm (Show shown) = Unit {0}
IsSoundForm Clear = Unit {0}
