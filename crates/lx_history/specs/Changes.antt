-- What kind of typing a commit was, and what it does to the history.
use Rattle.std.specs.Prelude.{ℕ, ◌+◌, ◌==◌, ◌&&◌, Bool, true, false, not, is_some, if◌then◌else◌, filter, List, [], ◌∷◌, ◌++◌, Option, None, Some}
use Rattle.std.specs.Option.{option_eq}
use Rattle.lx_node.specs.Same.{same_mode, same_text_fields}
use Rattle.lx_node.specs.declared.fields.Fields.{Fields}
use Rattle.lx_node.specs.declared.fields.Fields.TheVariants as fields
use Rattle.lx_node.specs.declared.fields.TextFields.{TextFields}
use Rattle.lx_node.specs.declared.cause.Point.{Point}
use Rattle.lx_node.specs.declared.cause.PointKind.{PointKind}
use Rattle.lx_node.specs.declared.cause.PointKind.TheVariants as point
use Rattle.lx_draft.specs.Selecting.{length_told}
use Rattle.lx_marks.specs.Marks.{Marked}
use Rattle.lx_select.specs.Same.{same_point}
use Rattle.lx_select.specs.declared.selection.Selection.{Selection}
use Rattle.lx_select.specs.declared.selection.Selection.TheVariants as selection
use Rattle.lx_forest.specs.Forest.{Forest}
use Rattle.lx_forest.specs.Lookups.{has, fields_of, parent_of}
use Rattle.lx_draft.specs.declared.state.State.{State}
use Rattle.lx_history.specs.declared.kinds.Change.{Change}
use Rattle.lx_history.specs.declared.kinds.Change.TheVariants.{Other, Insert, DeleteBefore, DeleteAfter}

-- ---- carets and texts

-- the place of a range whose ends are the same
abbrev pub caret_of : Selection → Option Point
caret_of (selection.Range anchor focus format) = if same_point anchor focus then Some anchor else None
caret_of other = None

-- whether the point counts characters
abbrev pub is_in_text : Point → Bool
is_in_text p = is_text p.kind
  where
    is_text : PointKind → Bool
    is_text point.Text = true
    is_text point.Element = false

-- the text in fields, if they have one
abbrev pub fields_of_text : Option Fields → Option TextFields
fields_of_text (Some (fields.Text text)) = Some text
fields_of_text other = None

-- what a text or tab has, in a tree
abbrev pub text_fields_at : Forest → ℕ → Option TextFields
text_fields_at f k = fields_of_text (fields_of f k)

-- how many characters a text has, and 0 where there is none
abbrev pub characters_in_text : Option TextFields → ℕ
characters_in_text None = 0
characters_in_text (Some text) = length_told text.text

-- ---- what changed: the marked texts and tabs, and the elements that were marked themselves, other than the root

-- the elements that were marked themselves, other than the root
abbrev pub marked_elements : List (ℕ × Bool) → List ℕ
marked_elements [] = []
marked_elements (e ∷ es) = if e.1 && not (e.0 == 0) then e.0 ∷ marked_elements es else marked_elements es

-- what changed: the marked texts and tabs of a tree, and its elements that were marked themselves
abbrev pub changed_keys : Forest → Marked → List ℕ
changed_keys f m = filter (λ k. is_some (text_fields_at f k)) m.leaves ++ filter (λ k. has k f) (marked_elements m.elements)

-- ---- the kind of typing

-- the typing of a first letter: the text of the caret is new, and the caret is after its one character
abbrev pub starts : Forest → Forest → Point → Change
starts old new b = if not (has b.key old) && (characters_in_text (text_fields_at new b.key) == 1) && (b.offset == 1) then Insert else Other

-- the kind of typing from a text's length m and the caret's place a to the length n and the place b
abbrev pub length_typing : ℕ → ℕ → ℕ → ℕ → Change
length_typing m n a b =
    if (n == m + 1) && (b == a + 1) then Insert else
    (if (n + 1 == m) && (a == b + 1) then DeleteBefore else (if (n + 1 == m) && (a == b) then DeleteAfter else Other))

-- the kind of typing in a text that is in both states with equal mode
abbrev pub text_typing : Option TextFields → Option TextFields → Point → Point → Change
text_typing (Some old) (Some new) a b =
    if same_mode old.mode new.mode && is_in_text a && (a.key == b.key) then length_typing (length_told old.text) (length_told new.text) a.offset b.offset else Other
text_typing _ _ a b = Other

-- the kind of typing by what changed: nothing, one node, or more
abbrev pub keys_typing : List ℕ → Forest → Forest → Point → Point → Change
keys_typing [] old new a b = Other
keys_typing (k ∷ []) old new a b = text_typing (text_fields_at old k) (text_fields_at new k) a b
keys_typing (k ∷ l ∷ others) old new a b = starts old new b

-- the kind of typing between two carets, the second of which is in a text
abbrev pub typed_between : Option Point → Option Point → State → State → Marked → Change
typed_between (Some a) (Some b) before after marks = if is_in_text b then keys_typing (changed_keys after.links marks) before.links after.links a b else Other
typed_between _ _ before after marks = Other

-- what kind of typing a commit was
unfoldable pub typing_of : State → State → Marked → Change
typing_of before after marks = typed_between (caret_of before.selection) (caret_of after.selection) before after marks

-- ---- what it does to the history

-- whether two commits are typing of the same kind
abbrev pub is_typing : Change → Change → Bool
is_typing Insert Insert = true
is_typing DeleteBefore DeleteBefore = true
is_typing DeleteAfter DeleteAfter = true
is_typing _ _ = false

-- whether two texts are there, and have equal fields
abbrev pub is_same_text : Option TextFields → Option TextFields → Bool
is_same_text (Some old) (Some new) = same_text_fields old new
is_same_text _ _ = false

-- whether exactly one leaf is marked, a text or tab of both states, with equal fields and in the same place of the tree
abbrev pub is_touched_alone : List ℕ → Forest → Forest → Bool
is_touched_alone (k ∷ []) old new =
    is_same_text (text_fields_at old k) (text_fields_at new k) && option_eq (λ p q. p == q) (parent_of old k) (parent_of new k)
is_touched_alone _ old new = false

-- whether nothing is selected
abbrev pub selects_nothing : Selection → Bool
selects_nothing selection.Nothing = true
selects_nothing other = false

-- whether nothing is marked
abbrev pub is_unmarked : Marked → Bool
is_unmarked m = is_empty m.leaves && is_empty m.elements
  where
    is_empty : {A : Type 0} → List A → Bool
    is_empty [] = true
    is_empty (a ∷ others) = false
