-- Which edits of a rule have nothing to do at a view.
use Rattle.std.specs.Prelude.{ℕ, ◌&&◌, not, Bool, true, false, List, [], ◌∷◌, Option, None, Some}
use Rattle.std.specs.List.{list_all, list_any}
use Rattle.lx_node.specs.Kinds.{may_hold, is_element, is_text}
use Rattle.lx_node.specs.OfKind.{is_of_kind}
use Rattle.lx_node.specs.Same.{same_fields}
use Rattle.lx_node.specs.declared.kind.Kind.{Kind}
use Rattle.lx_node.specs.declared.kind.Kind.TheVariants as kind
use Rattle.lx_node.specs.declared.fields.Fields.{Fields}
use Rattle.lx_node.specs.declared.node.View.{View}
use Rattle.lx_step.specs.Patches.{patched, is_in_range}
use Rattle.lx_step.specs.declared.member.Member.{Member}
use Rattle.lx_step.specs.declared.rule.NewNode.{NewNode}
use Rattle.lx_step.specs.declared.rule.SelfEdit.{SelfEdit}
use Rattle.lx_step.specs.declared.rule.SelfEdit.TheVariants.{Set, Add, Remove, Replace, Wrap, Unwrap, Before, After, Child, MergeNext}
use Rattle.lx_rules.specs.Types.{same_kind, is_kind}

-- whether a kind is the root's
unfoldable pub is_root : Kind → Bool
is_root kind.Root = true
is_root _ = false

-- whether there is a parent that may hold such a child
abbrev pub is_held : Option Kind → Kind → Bool
is_held None inner = false
is_held (Some outer) inner = may_hold outer inner

-- whether a new node has fields of its kind
abbrev pub is_suited : NewNode → Bool
is_suited new = is_of_kind new.kind new.fields

-- ---- what would happen

-- whether fields were made, and are others than these
abbrev pub differs : Option Fields → Fields → Bool
differs None old = false
differs (Some made) old = not (same_fields made old)

-- Whether members change the fields of a node: their numbers are within their ranges, all of them can be set on the
-- kind, and what they make of the fields is something else.
abbrev pub changes : Kind → List Member → Fields → Bool
changes kind members old = list_all is_in_range members && differs (patched kind members old) old

-- whether a text has characters
abbrev pub has_text : List ℕ → Bool
has_text [] = false
has_text (c ∷ text) = true

-- whether a new node may be where this one is, and this one isn't the root
abbrev pub may_stand : View → NewNode → Bool
may_stand v new = is_suited new && (not (is_root v.kind) && is_held v.parent new.kind)

-- Whether an edit has something to do at a view: it is one that the kinds allow, and its end isn't reached.
abbrev pub has_work : View → SelfEdit → Bool
has_work v (Set patch) = changes v.kind patch.members v.fields
has_work v (Add text) = is_text v.kind && has_text text
has_work v Remove = not (is_root v.kind)
has_work v (Replace new) = may_stand v new && (not (same_kind v.kind new.kind) && list_all (may_hold new.kind) v.children)
has_work v (Wrap new) = may_stand v new && (not (is_kind v.parent new.kind) && may_hold new.kind v.kind)
has_work v Unwrap = is_element v.kind && (not (is_root v.kind) && list_all (is_held v.parent) v.children)
has_work v (Before new) = may_stand v new && not (is_kind v.prev new.kind)
has_work v (After new) = may_stand v new && not (is_kind v.next new.kind)
has_work v (Child new) = is_suited new && (may_hold v.kind new.kind && not (list_any (same_kind new.kind) v.children))
has_work v MergeNext = is_element v.kind && is_kind v.next v.kind

-- whether what an edit has to do depends on the node's fields or its children, and not only on the kinds around it
abbrev pub looks_within : SelfEdit → Bool
looks_within (Set patch) = true
looks_within (Replace new) = true
looks_within Unwrap = true
looks_within (Child new) = true
looks_within edit = false

-- whether an edit has nothing to do at a view
unfoldable pub idle_at : View → SelfEdit → Bool
idle_at v edit = not (has_work v edit)
