-- What an edit of a rule does, and the rules at a node.
use Rattle.std.specs.Prelude.{ℕ, ◌≢◌, ◌&&◌, Bool, false, if◌then◌else◌, List, [], map, Option, None, Some, Result, Ok}
use Rattle.lx_node.specs.Kinds.{is_element}
use Rattle.lx_node.specs.OfKind.{IsOfKind}
use Rattle.lx_node.specs.declared.kind.Kind.{Kind}
use Rattle.lx_node.specs.declared.kind.Kind.TheVariants.{Root}
use Rattle.lx_node.specs.declared.fields.Fields.{Fields}
use Rattle.lx_node.specs.declared.node.View.{View}
use Rattle.lx_node.specs.declared.cause.Cause.{Cause}
use Rattle.lx_step.specs.Patches.{patched}
use Rattle.lx_step.specs.declared.member.Member.{Member}
use Rattle.lx_step.specs.declared.rule.NewNode.{NewNode}
use Rattle.lx_step.specs.declared.rule.SelfEdit.{SelfEdit}
use Rattle.lx_step.specs.declared.rule.SelfEdit.TheVariants.{Set, Add, Remove, Replace, Wrap, Unwrap, Before, After, Child, MergeNext}
use Rattle.lx_forest.specs.Forest.{Label}
use Rattle.lx_forest.specs.Lookups.{label_of, kind_of, size_of, next_of, is_attached}
use Rattle.lx_forest.specs.Views.{view_of}
use Rattle.lx_draft.specs.Working.{Working}
use Rattle.lx_draft.specs.Faults.{after}
use Rattle.lx_draft.specs.Steps.{new_step, set_step, splice_step, put_step}
use Rattle.lx_draft.specs.Beside.{put_before_step, put_behind_step}
use Rattle.lx_edit.specs.InTurn.{in_turn}
use Rattle.lx_edit.specs.Conditions.{length_at}
use Rattle.lx_edit.specs.Edits.{remove_step, children_step, replace_step, wrap_step, unwrap_step}
use Rattle.lx_rules.specs.Answers.{Answers, asked}
use Rattle.lx_rules.specs.Idle.{has_work}

-- ---- one edit

-- fields are written where there are some
abbrev pub written : Option Fields → ℕ → Working → Result Working Cause
written None k w = Ok w
written (Some fields) k w = set_step k fields w

-- a node's fields with a patch's members written, where its kind has all of them
abbrev pub patched_in : Option Label → List Member → Option Fields
patched_in None members = None
patched_in (Some l) members = patched l.kind members l.fields

-- the fields of a new node are of its kind, and it isn't a root
pub record CanBeMade (new : NewNode) : Type 0 where
  pub other : new.kind ≢ Root
  pub of_kind : IsOfKind new.kind new.fields

-- a new node, and then a step with its key
abbrev pub with_made : NewNode → (ℕ → Working → Result Working Cause) → Working → Result Working Cause
with_made new next w = after (new_step new.kind new.fields w) (next w.next_key)

-- whether there is a kind, and it is an element's
abbrev pub is_element_at : Option Kind → Bool
is_element_at None = false
is_element_at (Some kind) = is_element kind

-- the children of the next sibling come to a node, and the sibling is removed
abbrev pub merged : ℕ → Option ℕ → Working → Result Working Cause
merged k None w = Ok w
merged k (Some next) w = after (children_step next k w) (remove_step next)

-- what an edit does to the node of a key
unfoldable pub act_step : SelfEdit → ℕ → Working → Result Working Cause
act_step (Set patch) k w = written (patched_in (label_of w.forest k) patch.members) k w
act_step (Add text) k w = splice_step k (length_at w.forest k) (length_at w.forest k) text w
act_step Remove k w = remove_step k w
act_step (Replace new) k w =
    with_made new (λ made v. replace_step k made (is_element new.kind && is_element_at (kind_of w.forest k)) v) w
act_step (Wrap new) k w = with_made new (λ made. wrap_step k made) w
act_step Unwrap k w = unwrap_step k w
act_step (Before new) k w = with_made new (λ made. put_before_step made k) w
act_step (After new) k w = with_made new (λ made. put_behind_step made k) w
act_step (Child new) k w = with_made new (λ made v. put_step made k (size_of v.forest k) v) w
act_step MergeNext k w = merged k (next_of w.forest k) w

-- ---- the rules at a node

-- whether an edit has something to do at a view, if there is one
abbrev pub has_work_at : Option View → SelfEdit → Bool
has_work_at None edit = false
has_work_at (Some v) edit = has_work v edit

-- an edit at a node, passed over where it is idle at the node's present view, and where the node isn't in the root's
-- tree any more
unfoldable pub edit_step : ℕ → SelfEdit → Working → Result Working Cause
edit_step k edit w =
    if is_attached w.forest k && has_work_at (view_of w.forest k) edit then act_step edit k w else Ok w

-- the edits that a rule answers at a view, if there is one
abbrev pub answered_at : Option View → Answers → List SelfEdit
answered_at None rule = []
answered_at (Some v) rule = rule v

-- a rule at a node: the edits that it answers at the node's view, in turn
unfoldable pub rule_step : ℕ → Answers → Working → Result Working Cause
rule_step k rule w = in_turn (edit_step k) (answered_at (view_of w.forest k) rule) w

-- the answers of rules, each at its types alone
abbrev pub all_asked : {T : Type 0} → (T → ℕ) → (T → Answers) → List T → List Answers
all_asked rows answers rules = map (λ rule. asked (rows rule) (answers rule)) rules

-- all rules at a node, in their order
unfoldable pub rules_step : List Answers → ℕ → Working → Result Working Cause
rules_step rules k w = in_turn (rule_step k) rules w
