-- The words of the grammar, and what they stand for.
use Rattle.std.specs.Prelude.{Option, option_and_then, ℕ, List, [], ◌∷◌, codes}
use Rattle.serde_json.specs.Data.{Data}
use Rattle.serde_json.specs.Find.{as_str}
use Rattle.lx_node.specs.declared.kind.Kind.{Kind}
use Rattle.lx_node.specs.declared.kind.Kind.TheVariants.{Root}
use Rattle.lx_node.specs.declared.cause.PointKind.{PointKind}
use Rattle.lx_node.specs.declared.cause.PointKind.TheVariants as point
use Rattle.lx_step.specs.declared.line.Shown.{Shown}
use Rattle.lx_step.specs.declared.line.Shown.TheVariants as shown
use Rattle.lx_fields.specs.Words.{kind_in, made_kinds}
use Rattle.lx_script.specs.declared.words.ConditionWord.{ConditionWord}
use Rattle.lx_script.specs.declared.words.ConditionWord.TheVariants as condition
use Rattle.lx_script.specs.declared.words.EditWord.{EditWord}
use Rattle.lx_script.specs.declared.words.EditWord.TheVariants as edit
use Rattle.lx_script.specs.declared.words.Verb.{Verb}
use Rattle.lx_script.specs.declared.words.Verb.TheVariants as verb

-- the kind whose type a string is
abbrev pub kind_named : Data → Option Kind
kind_named d = option_and_then (kind_in made_kinds) (as_str d)

-- the kind whose type a string is, where the root's type is one too
abbrev pub type_named : Data → Option Kind
type_named d = option_and_then (kind_in (Root ∷ made_kinds)) (as_str d)

-- the words for what a point's offset counts
abbrev pub point_kinds : List (List ℕ × PointKind)
point_kinds = (codes "text", point.Text) ∷ (codes "element", point.Element) ∷ []

-- the words for what a line may ask to be shown
abbrev pub questions : List (List ℕ × Shown)
questions =
    (codes "state", shown.State) ∷ (codes "view", shown.View) ∷ (codes "selection", shown.Selection)
    ∷ (codes "history", shown.History) ∷ (codes "slice", shown.Slice) ∷ []

-- the words by which steps are told apart
abbrev pub verbs : List (List ℕ × Verb)
verbs =
    (codes "append", verb.Append) ∷ (codes "new", verb.New) ∷ (codes "put", verb.Put) ∷ (codes "remove", verb.Remove)
    ∷ (codes "replace", verb.Replace) ∷ (codes "set", verb.Set) ∷ (codes "mark", verb.Mark) ∷ (codes "split", verb.Split)
    ∷ (codes "join", verb.Join) ∷ (codes "wrap", verb.Wrap) ∷ (codes "unwrap", verb.Unwrap) ∷ (codes "children", verb.Children)
    ∷ (codes "select", verb.Select) ∷ (codes "do", verb.Do) ∷ (codes "dispatch", verb.Dispatch) ∷ (codes "later", verb.Later) ∷ []

-- the words by which the conditions of rules are told apart
abbrev pub condition_words : List (List ℕ × ConditionWord)
condition_words =
    (codes "text", condition.Text) ∷ (codes "contains", condition.Contains) ∷ (codes "shorter", condition.Shorter)
    ∷ (codes "format", condition.Format) ∷ (codes "parent", condition.Parent) ∷ (codes "previous", condition.Previous)
    ∷ (codes "next", condition.Next) ∷ (codes "childless", condition.Childless) ∷ []

-- the words by which the edits of rules are told apart
abbrev pub edit_words : List (List ℕ × EditWord)
edit_words =
    (codes "set", edit.Set) ∷ (codes "add", edit.Add) ∷ (codes "remove", edit.Remove) ∷ (codes "replace", edit.Replace)
    ∷ (codes "wrap", edit.Wrap) ∷ (codes "unwrap", edit.Unwrap) ∷ (codes "before", edit.Before) ∷ (codes "after", edit.After)
    ∷ (codes "child", edit.Child) ∷ (codes "mergenext", edit.MergeNext) ∷ []
