-- What is read of a document as lists come and go.
use Rattle.std.specs.Prelude.{ℕ, ◌≡◌, Bool, true, not, if◌then◌else◌, List, [], ◌∷◌, Ok}
use Rattle.std.specs.List.{list_any}
use Rattle.lx_node.specs.Kinds.{may_hold, is_inline, is_item}
use Rattle.lx_node.specs.declared.kind.ListType.{ListType}
use Rattle.lx_select.specs.declared.selection.Selection.{Selection}
use Rattle.lx_forest.specs.Forest.{Forest}
use Rattle.lx_forest.specs.Lookups.{children_of, IsHeld}
use Rattle.lx_draft.specs.Working.{Working}
use Rattle.lx_draft.specs.Covering.{IsReady}
use Rattle.lx_blocks.specs.Blocks.{is_at}
use Rattle.lx_list.specs.Listing.{make_list_step}
use Rattle.lx_list.specs.Dissolving.{remove_list_step}
use Rattle.lx_edit_laws.specs.Reading.{read_below}

-- whether those of a list that pass a test come before all others
abbrev pub stand_first : (ℕ → Bool) → List ℕ → Bool
stand_first test [] = true
stand_first test (k ∷ ks) = if test k then stand_first test ks else not (list_any test ks)

-- in each item of a draft, also of trees beside the root's, the inline children come before the lists
pub record InlinesFirst (f : Forest) : Type 0 where
  pub each : (item : ℕ) → is_at is_item f item ≡ true → stand_first (is_at is_inline f) (children_of f item) ≡ true

-- a draft hasn't failed, its next key and those above are free, and each node holds what it may
pub record IsSoundDraft (w : Working) : Type 0 where
  pub ready : IsReady w
  pub held : IsHeld may_hold w.forest

-- below the root the same characters are read in two drafts, in the same order
abbrev pub ReadsAs : Working → Working → Type 0
ReadsAs w v = read_below v.forest 0 ≡ read_below w.forest 0

-- lines that are made items read the same, and so do lists that are removed where inline children come first in each
-- item
pub record ListsComeAndGo : Type 0 where
  -- lines that are made items read the same, whatever is selected, and whatever lists there are
  pub made : (type : ListType) (w v : Working) → IsSoundDraft w → make_list_step type w ≡ Ok v → ReadsAs w v
  -- and so do lists that are made paragraphs, where inline children come first
  pub removed : (w v : Working) → IsSoundDraft w → InlinesFirst w.forest → remove_list_step w ≡ Ok v → ReadsAs w v
  -- neither brings an inline child after a list
  pub made_first : (type : ListType) (w v : Working) → IsSoundDraft w → InlinesFirst w.forest → make_list_step type w ≡ Ok v → InlinesFirst v.forest
  pub removed_first : (w v : Working) → IsSoundDraft w → InlinesFirst w.forest → remove_list_step w ≡ Ok v → InlinesFirst v.forest
  -- so a list that is made and removed again reads the same, wherever the selection is by then
  pub again : (type : ListType) (w v u : Working) (s : Selection) → IsSoundDraft w → InlinesFirst w.forest → make_list_step type w ≡ Ok v
      → remove_list_step (record v { selection = s }) ≡ Ok u → ReadsAs w u
