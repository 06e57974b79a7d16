-- Scripts: steps that run one after another on a draft.
use Rattle.std.specs.Prelude.{ℕ, ◌==◌, ◌||◌, nat_lt, if◌then◌else◌, List, [], ◌∷◌, chars, codes, length, Option, None, Some, Result, Ok, Err}
use Rattle.std.specs.Option.{option_or}
use Rattle.std.specs.FinMap.{get}
use Rattle.lx_trees.specs.Siblings.{names_without}
use Rattle.lx_node.specs.declared.kind.Kind.{Kind}
use Rattle.lx_node.specs.declared.fields.Fields.{Fields}
use Rattle.lx_node.specs.declared.fields.Fields.TheVariants as fields
use Rattle.lx_node.specs.declared.cause.Cause.{Cause}
use Rattle.lx_node.specs.declared.cause.Cause.TheVariants.{BadCommand, UnknownNode, WrongKind, BadPlace}
use Rattle.lx_node.specs.declared.cause.Named.{Named}
use Rattle.lx_node.specs.declared.cause.Named.TheVariants as named
use Rattle.lx_node.specs.declared.cause.Point.{Point}
use Rattle.lx_select.specs.declared.selection.Selection.{Selection}
use Rattle.lx_select.specs.declared.selection.Selection.TheVariants as selection
use Rattle.lx_forest.specs.Forest.{Forest, Label}
use Rattle.lx_forest.specs.Lookups.{has, label_of, kind_of, fields_of, parent_of, children_of, size_of, is_within}
use Rattle.lx_links.specs.Faults.{misfit}
use Rattle.lx_step.specs.declared.member.Member.{Member}
use Rattle.lx_step.specs.declared.reference.Reference.{Reference}
use Rattle.lx_step.specs.declared.reference.Reference.TheVariants as reference
use Rattle.lx_step.specs.declared.reference.PointRef.{PointRef}
use Rattle.lx_step.specs.declared.reference.SelectionRef.{SelectionRef}
use Rattle.lx_step.specs.declared.reference.SelectionRef.TheVariants as chosen
use Rattle.lx_step.specs.declared.step.Step.{Step}
use Rattle.lx_step.specs.declared.step.Step.TheVariants as step
use Rattle.lx_step.specs.Patches.{patched}
use Rattle.lx_draft.specs.Working.{Working}
use Rattle.lx_draft.specs.Faults.{answer, after}
use Rattle.lx_draft.specs.Steps.{new_step, set_step, take_step, put_step, mark_step, select_step}
use Rattle.lx_edit.specs.Edits.{remove_step, replace_step, wrap_step, unwrap_step, children_step}
use Rattle.lx_edit.specs.Texts.{split_step, join_step}
use Rattle.lx_blocks.specs.Blocks.{block_of}
use Rattle.lx_update.specs.Appending.{appended}
use Rattle.lx_update.specs.Naming.{Naming, names_bound}

-- What a script works on: a draft, and the names that its steps have given to nodes.
pub record Scripted : Type 0 where
  pub draft : Working
  pub names : Naming

-- a draft with these names
abbrev pub scripted : Working → Naming → Scripted
scripted w names = record { draft = w; names = names }

-- ---- references

-- the node of a range's anchor
abbrev pub anchor_of : Selection → Option ℕ
anchor_of (selection.Range anchor focus format) = Some anchor.key
anchor_of other = None

-- the node of a range's focus
abbrev pub focus_node : Selection → Option ℕ
focus_node (selection.Range anchor focus format) = Some focus.key
focus_node other = None

-- the text block of a node, if there is one
abbrev pub block_around : Forest → Option ℕ → Option ℕ
block_around f None = None
block_around f (Some k) = block_of f k

-- the key of the node that a reference means, if it means one
abbrev pub key_for : Reference → Scripted → Option ℕ
key_for (reference.Key k) s = Some k
key_for reference.Anchor s = anchor_of s.draft.selection
key_for reference.Focus s = focus_node s.draft.selection
key_for reference.Block s = block_around s.draft.forest (anchor_of s.draft.selection)
key_for (reference.Name name) s = get s.names name

-- what is said to be unknown where a reference means no node that is there
abbrev pub said_of : Reference → Named
said_of (reference.Key k) = named.Key k
said_of reference.Anchor = named.Name (chars (codes "@anchor"))
said_of reference.Focus = named.Name (chars (codes "@focus"))
said_of reference.Block = named.Name (chars (codes "@block"))
said_of (reference.Name name) = named.Name name

-- a node that is there, or else the refusal with what is said to be unknown
abbrev pub node_there : Forest → Option ℕ → Named → Result ℕ Cause
node_there f None said = Err (UnknownNode said)
node_there f (Some k) said = if has k f then Ok k else Err (UnknownNode said)

-- the node that a reference means, or the refusal
unfoldable pub resolved : Reference → Scripted → Result ℕ Cause
resolved r s = node_there s.draft.forest (key_for r s) (said_of r)

-- ---- steps

-- an edit of the draft, which leaves the names
abbrev pub on_draft : (Working → Result Working Cause) → Scripted → Result Scripted Cause
on_draft edit s = after (edit s.draft) (λ w. Ok (scripted w s.names))

-- an edit of the draft that makes nodes, of which the first gets the name
abbrev pub naming : Option (List ℕ) → (Working → Result Working Cause) → Scripted → Result Scripted Cause
naming name edit s = after (edit s.draft) (λ w. Ok (scripted w (names_bound name (Some s.draft.next_key) s.names)))

-- an edit of the draft at the node of a reference
abbrev pub at_node : Reference → (ℕ → Working → Result Working Cause) → Scripted → Result Scripted Cause
at_node r edit s = after (resolved r s) (λ k. on_draft (edit k) s)

-- an edit of the draft at the nodes of two references, which are resolved from left to right
abbrev pub at_nodes : Reference → Reference → (ℕ → ℕ → Working → Result Working Cause) → Scripted → Result Scripted Cause
at_nodes r q edit s = after (resolved r s) (λ k. after (resolved q s) (λ p. on_draft (edit k p) s))

-- ---- put

-- why an index is refused: it is above the number of children beside the node
abbrev pub too_far : Option ℕ → ℕ → Option Cause
too_far None size = None
too_far (Some index) size = if nat_lt size index then Some (BadPlace index) else None

-- why a place is refused for a node: the node is the root, or has the place in its tree
abbrev pub inside_itself : Forest → ℕ → ℕ → Option Cause
inside_itself f k p = if k == 0 || is_within f k p then Some (BadPlace k) else None

-- why a node can't be put at a place, the first cause: also where the place may not hold it
abbrev pub move_fault : ℕ → ℕ → Option ℕ → Forest → Option Cause
move_fault k p index f =
    option_or (inside_itself f k p) (option_or (misfit (kind_of f p) (kind_of f k))
    (too_far index (length (names_without k (children_of f p)))))

-- a node is taken out, where it is below something
abbrev pub loosened : Option ℕ → ℕ → Working → Result Working Cause
loosened None k w = Ok w
loosened (Some p) k w = take_step k w

-- the index that is given, or else the end
abbrev pub index_or : Option ℕ → ℕ → ℕ
index_or None size = size
index_or (Some index) size = index

-- the step `put`: a node goes below another, at an index or at the end
unfoldable pub script_put_step : ℕ → ℕ → Option ℕ → Working → Result Working Cause
script_put_step k p index w =
    after (answer (move_fault k p index w.forest) w) (λ v.
    after (loosened (parent_of v.forest k) k v) (λ loose. put_step k p (index_or index (size_of loose.forest p)) loose))

-- ---- set

-- the fields that a patch made of a node's, or the node's kind, on which one of its members can't be set
abbrev pub patched_or : Kind → Option Fields → Result Fields Cause
patched_or kind None = Err (WrongKind kind)
patched_or kind (Some made) = Ok made

-- a node's fields with a patch's members written
abbrev pub repatched : List Member → Option Label → Result Fields Cause
repatched members None = Ok fields.Bare
repatched members (Some l) = patched_or l.kind (patched l.kind members l.fields)

-- the step `set`: a node's fields get the members of a patch
unfoldable pub script_set_step : List Member → ℕ → Working → Result Working Cause
script_set_step members k w = after (repatched members (label_of w.forest k)) (λ made. set_step k made w)

-- ---- split

-- the name for the first new text of a split: without an offset there is none that could get it
abbrev pub name_of_first : List ℕ → Option (List ℕ) → Option (List ℕ)
name_of_first [] name = None
name_of_first (o ∷ offsets) name = name

-- the step `split`: a text is split at offsets, and the first new text gets the name
abbrev pub script_split_step : Reference → List ℕ → Option (List ℕ) → Scripted → Result Scripted Cause
script_split_step node offsets name s = after (resolved node s) (λ k. naming (name_of_first offsets name) (split_step k offsets) s)

-- ---- select

-- the point on a node of this key
abbrev pub point_at : ℕ → PointRef → Point
point_at k p = record { key = k; offset = p.offset; kind = p.kind }

-- the format of a text or tab, and 0 of any other node
abbrev pub format_of_fields : Option Fields → ℕ
format_of_fields (Some (fields.Text text)) = text.format
format_of_fields other = 0

-- the format that is given, or else that of a node
abbrev pub format_or : Option ℕ → Forest → ℕ → ℕ
format_or None f k = format_of_fields (fields_of f k)
format_or (Some format) f k = format

-- the nodes of references, from left to right
abbrev pub all_resolved : List Reference → Scripted → Result (List ℕ) Cause
all_resolved [] s = Ok []
all_resolved (r ∷ rs) s = after (resolved r s) (λ k. after (all_resolved rs s) (λ ks. Ok (k ∷ ks)))

-- the range that is named, whose nodes are resolved from anchor to focus
abbrev pub range_for : PointRef → PointRef → Option ℕ → Scripted → Result Selection Cause
range_for anchor focus format s =
    after (resolved anchor.node s) (λ a. after (resolved focus.node s) (λ b.
    Ok (selection.Range (point_at a anchor) (point_at b focus) (format_or format s.draft.forest a))))

-- the cells that are named, whose nodes are resolved from the table on
abbrev pub cells_for : Reference → Reference → Reference → Scripted → Result Selection Cause
cells_for table anchor focus s =
    after (resolved table s) (λ t. after (resolved anchor s) (λ a. after (resolved focus s) (λ b. Ok (selection.Cells t a b))))

-- the selection that is named
abbrev pub selection_for : SelectionRef → Scripted → Result Selection Cause
selection_for chosen.Nothing s = Ok selection.Nothing
selection_for (chosen.Range anchor focus format) s = range_for anchor focus format s
selection_for (chosen.Nodes nodes) s = after (all_resolved nodes s) (λ keys. Ok (selection.Nodes keys))
selection_for (chosen.Cells table anchor focus) s = cells_for table anchor focus s

-- the selection is made, unless it was refused
abbrev pub then_selected : Result Selection Cause → Scripted → Result Scripted Cause
then_selected named s = after named (λ sel. on_draft (select_step sel) s)

-- the step `select`
abbrev pub script_select_step : SelectionRef → Scripted → Result Scripted Cause
script_select_step named s = then_selected (selection_for named s) s

-- ---- the steps, but for those that do a command, dispatch one or queue others, which are defined where a line runs

-- what a step does to what a script works on
abbrev pub effect_of : Step → Scripted → Result Scripted Cause
effect_of (step.Append text) s = on_draft (appended text) s
effect_of (step.New kind fields name) s = naming name (new_step kind fields) s
effect_of (step.Put node into index) s = at_nodes node into (λ k p. script_put_step k p index) s
effect_of (step.Remove node) s = at_node node remove_step s
effect_of (step.Replace node other keep) s = at_nodes node other (λ k o. replace_step k o keep) s
effect_of (step.Set node patch) s = at_node node (script_set_step patch.members) s
effect_of (step.Mark node) s = at_node node mark_step s
effect_of (step.Split node offsets name) s = script_split_step node offsets name s
effect_of (step.Join node other) s = at_nodes node other join_step s
effect_of (step.Wrap node outer) s = at_nodes node outer wrap_step s
effect_of (step.Unwrap node) s = at_node node unwrap_step s
effect_of (step.Children from into) s = at_nodes from into children_step s
effect_of (step.Select named) s = script_select_step named s
effect_of other s = Err BadCommand
