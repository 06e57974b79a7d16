-- Why an edit is refused, the first cause in the order in which they are looked for.
use Rattle.std.specs.Prelude.{ℕ, ◌≡◌, ◌≢◌, ◌==◌, ◌||◌, is_some, if◌then◌else◌, Option, None, Some}
use Rattle.std.specs.Option.{option_or}
use Rattle.lx_trees.specs.Trees.{nil}
use Rattle.lx_trees.specs.Siblings.{is_among}
use Rattle.lx_node.specs.Kinds.{may_hold}
use Rattle.lx_node.specs.OfKind.{is_of_kind}
use Rattle.lx_node.specs.declared.kind.Kind.{Kind}
use Rattle.lx_node.specs.declared.fields.Fields.{Fields}
use Rattle.lx_node.specs.declared.cause.Cause.{Cause}
use Rattle.lx_node.specs.declared.cause.Cause.TheVariants.{UnknownNode, WrongKind, BadPlace}
use Rattle.lx_node.specs.declared.cause.Named.TheVariants.{Key}
use Rattle.lx_node.specs.declared.cause.Fault.{Fault}
use Rattle.lx_node.specs.declared.cause.Fault.TheVariants as fault
use Rattle.lx_forest.specs.Forest.{Forest}
use Rattle.lx_forest.specs.Lookups.{has, kind_of, parent_of, children_of, is_within}

-- `UnknownNode`, where there is no node of the key
abbrev pub unknown : Forest → ℕ → Option Cause
unknown f k = if has k f then None else Some (UnknownNode (Key k))

-- `UnknownNode`, where a key is named of which there is no node
abbrev pub unknown_before : Forest → Option ℕ → Option Cause
unknown_before f None = None
unknown_before f (Some k) = unknown f k

-- `WrongKind`, where the fields aren't of the kind
abbrev pub wrong_fields : Option Kind → Fields → Option Cause
wrong_fields None fields = None
wrong_fields (Some kind) fields = if is_of_kind kind fields then None else Some (WrongKind kind)

-- why fields can't be set: there is no such node, or they aren't of its kind
abbrev pub set_fault : ℕ → Fields → Forest → Option Cause
set_fault k fields f = option_or (unknown f k) (wrong_fields (kind_of f k) fields)

-- `BadPlace`, where the node is below nothing
abbrev pub not_below : Forest → ℕ → Option Cause
not_below f k = if is_some (parent_of f k) then None else Some (BadPlace k)

-- why a node can't be taken out: it isn't there, or is below nothing
abbrev pub detach_fault : ℕ → Forest → Option Cause
detach_fault k f = option_or (unknown f k) (not_below f k)

-- `WrongKind`, where a parent of the one kind may not hold a child of the other
abbrev pub misfit : Option Kind → Option Kind → Option Cause
misfit (Some outer) (Some inner) = if may_hold outer inner then None else Some (WrongKind inner)
misfit _ _ = None

-- `BadPlace`, where the node is the root, or is below something, or the parent is in its tree
abbrev pub bound_to : Forest → ℕ → ℕ → Option Cause
bound_to f p k = if k == 0 || (is_some (parent_of f k) || is_within f k p) then Some (BadPlace k) else None

-- `BadPlace`, where what it is to come before isn't a child of the parent
abbrev pub no_child : Forest → ℕ → Option ℕ → Option Cause
no_child f p None = None
no_child f p (Some before) = if is_among before (children_of f p) then None else Some (BadPlace before)

-- why a node can't be put there: one isn't there, the parent may not hold it, it is bound, or the other is no child
abbrev pub place_fault : ℕ → Option ℕ → ℕ → Forest → Option Cause
place_fault p before k f =
    option_or (unknown f p)
    (option_or (unknown_before f before)
    (option_or (unknown f k)
    (option_or (misfit (kind_of f p) (kind_of f k)) (option_or (bound_to f p k) (no_child f p before)))))

-- what an edit of links leaves that answers an error: refused for its first cause, the links as they were; out of
-- memory, links that have failed
abbrev pub RefusesEdit : Forest → Option Cause → Forest → Fault → Type 0
RefusesEdit old first new (fault.Cause cause) = (old ≢ nil) × (first ≡ Some cause) × (new ≡ old)
RefusesEdit old first new fault.Memory = (old ≢ nil → first ≡ None) × (new ≡ nil)
