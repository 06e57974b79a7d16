-- What the summary says of the state at a session's end.
use Rattle.std.proofs.Common.{◌≡◌, ◌∙◌, ℕ, false, List, length, subst, [], ◌∷◌, refl, ap, arith}
use Rattle.std.specs.Prelude.{min}
use Rattle.serde_json.specs.Data.{Data}
use Rattle.serde_json.specs.Written.{compact_text, has_float}
use Rattle.lx_node.specs.Limits.{last_u32}
use Rattle.lx_trees.specs.NamedTrees.{total}
use Rattle.lx_trees.specs.Trees.{nil, tree}
use Rattle.lx_host.specs.Hosts.{HostTree, shape_of}
use Rattle.lx_host.specs.Html.{first_tree, html_of}
use Rattle.lx_select.specs.declared.selection.Selection.{Selection}
use Rattle.lx_forest.specs.Forest.{Forest}
use Rattle.lx_forest.specs.Lookups.{roots}
use Rattle.lx_forest.specs.Weights.{weight}
use Rattle.lx_reconcile.specs.Allowed.{Shows}
use Rattle.lx_render.specs.Render.{render}
use Rattle.lx_links.specs.Characters.{characters_in}
use Rattle.lx_draft.specs.Freezing.{tree_characters}
use Rattle.lx_editor.specs.Editor.{Editor, new_editor}
use Rattle.lx_editor.specs.Standing.{IsState}
use Rattle.lx_editor.proofs.Limits.{few_characters, all_in_tree}
use Rattle.lx_arguments.specs.declared.options.Generated.{Generated}
use Rattle.lx_generator.specs.declared.summary.Summary.{Summary}
use Rattle.lx_generator.specs.declared.tally.Tally.{Tally}
use Rattle.lx_generator.specs.Sessions.{IsSession, IsSummary, summary_of, view_text}
use Rattle.lx_generator.specs.Summaries.{summary_data, summary_text}

-- ---- characters

pub characters_are : (f : Forest) (s : Selection) (k : ℕ) → IsState f s k → min (weight characters_in f) last_u32 ≡ tree_characters f
characters_are f s k state =
    let few = few_characters f s k state in
    let same = all_in_tree f s k state in
    rw (← same) (omega arith)

-- ---- the view

first_whole : (f : Forest) → roots f ≡ 0 ∷ [] → first_tree (render f) ≡ render f
first_whole nil only = absurd (cc)
first_whole (tree l below nil) only = refl
first_whole (tree l below (tree m under rest)) only = absurd (cc)

-- what is printed of the view is the rendering of the tree
pub printed : (f : Forest) (s : Selection) (k : ℕ) (view : HostTree) → IsState f s k → Shows view f
    → html_of (first_tree (shape_of view.hosts)) ≡ html_of (render f)
printed f s k view state shown = ap (λ hosts. html_of (first_tree hosts)) shown ∙ ap html_of (first_whole f state.alone)

-- ---- the summary

-- a summary whose parts are those of the editor
abbrev pub summary_with : ℕ → Tally → ℕ → ℕ → ℕ → ℕ → ℕ → Summary
summary_with lines t characters nodes redo undo view = record {
  characters = characters;
  commits = t.commits;
  idle = t.idle;
  lines = lines;
  nodes = nodes;
  redo = redo;
  refused = t.refused;
  undo = undo;
  view = view;
}

pub summary_is : (lines : ℕ) (e : Editor) (t : Tally) (characters nodes redo undo view : ℕ) → characters ≡ tree_characters e.tree → nodes ≡ total e.tree
    → redo ≡ length e.history.redo → undo ≡ length e.history.undo → view ≡ length (view_text e)
    → summary_with lines t characters nodes redo undo view ≡ summary_of lines e t
summary_is lines e t characters nodes redo undo view all total_is redo_is undo_is view_is = rw (all, total_is, redo_is, undo_is, view_is) refl

has_no_float : (s : Summary) → has_float (summary_data s) ≡ false
unfolding summary_data
has_no_float s = refl

-- the bytes of its object are its text
pub text_of_summary : (s : Summary) (d : Data) (bytes : List ℕ) → d ≡ summary_data s → (has_float d ≡ false → bytes ≡ compact_text d)
    → bytes ≡ summary_text s
unfolding summary_text
text_of_summary s d bytes is written = written (ap has_float is ∙ has_no_float s) ∙ ap compact_text is

pub is_told : (session : Generated) (delay : ℕ) (old last : Editor) (t : Tally) (summary : Summary) (bytes : List ℕ) → old ≡ new_editor false delay
    → IsSession session old last t → summary ≡ summary_of session.lines last t → bytes ≡ summary_text summary → IsSummary session delay bytes
unfolding IsSummary
is_told session delay old last t summary bytes new ran summary_are bytes_are = (
  last,
  t,
  subst (λ (e : Editor). IsSession session e last t) new ran,
  bytes_are ∙ ap summary_text summary_are,
)
