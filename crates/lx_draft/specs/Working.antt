-- What a draft is, while an update works on it.
use Rattle.std.specs.Prelude.{ℕ, ◌+◌, ◌≤◌, ◌<◌, ◌≡◌, true, false, Some}
use Rattle.lx_trees.specs.NamedTrees.{total}
use Rattle.lx_marks.specs.Marks.{Marked, unmarked}
use Rattle.lx_select.specs.declared.selection.Selection.{Selection}
use Rattle.lx_node.specs.Limits.{most_counts, most_written, most_depth, most_nodes, most_characters, most_key}
use Rattle.lx_forest.specs.Forest.{Forest}
use Rattle.lx_forest.specs.Lookups.{has, is_attached, depth}
use Rattle.lx_draft.specs.Sizes.{tree_characters, AreShort}

-- a draft: its forest and its selection, the next new node's key, all that was marked and what of it is still to be
-- handled, and how many counts, primitive edits and written scalar values there were
pub record Working : Type 0 where
  pub forest : Forest
  pub selection : Selection
  pub next_key : ℕ
  pub marks : Marked
  pub fresh : Marked
  pub counted : ℕ
  pub edits : ℕ
  pub written : ℕ

-- an update may start from the forest with this next key: every key is below it, and it, the number of nodes, their
-- depth and their characters are within the limits of a committed state, in which nothing is detached
pub record MayStart (f : Forest) (next_key : ℕ) : Type 0 where
  pub next : next_key ≤ most_key
  pub free : (q : ℕ) → next_key ≤ q → has q f ≡ false
  pub few : total f ≤ most_nodes
  pub whole : (q : ℕ) → has q f ≡ true → is_attached f q ≡ true
  pub shallow : (q d : ℕ) → depth f q ≡ Some d → d ≤ most_depth
  pub characters : tree_characters f ≤ most_characters

-- what a draft starts as
abbrev pub started : Forest → Selection → ℕ → Working
started f selection next_key =
    record {
      forest = f;
      selection = selection;
      next_key = next_key;
      marks = unmarked;
      fresh = unmarked;
      counted = 0;
      edits = 0;
      written = 0;
    }

-- the texts of a draft are as short as what it has written makes them
abbrev pub TextsAreShort : Working → Type 0
TextsAreShort w = AreShort w.forest w.written

-- what holds of every draft: each new node takes a count, so that keys and nodes are bounded, and its texts are short
pub record IsWorking (w : Working) : Type 0 where
  pub counted : w.counted ≤ most_counts
  pub edits : w.edits ≤ w.counted
  pub written : w.written ≤ most_written
  pub first : 0 < w.next_key
  pub next : w.next_key ≤ most_key + w.counted
  pub free : (q : ℕ) → w.next_key ≤ q → has q w.forest ≡ false
  pub few : total w.forest ≤ most_nodes + w.counted
  pub short : TextsAreShort w

-- a count that was taken leaves room for a new node
pub record HasRoom (w : Working) : Type 0 where
  pub next : w.next_key < most_key + w.counted
  pub few : total w.forest < most_nodes + w.counted
