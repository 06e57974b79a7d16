-- What it means to delete at an edge of a block: its line is joined with the one beside it.
use Rattle.std.specs.Prelude.{ℕ, ◌≡◌, ◌≢◌, ◌++◌, ◌⊎◌, Bool, true, false, List, ◌∷◌, None, Some, Ok}
use Rattle.lx_node.specs.Kinds.{is_inline, is_text_block}
use Rattle.lx_node.specs.declared.cause.Point.{Point}
use Rattle.lx_node.specs.declared.kind.Kind.TheVariants.{Rule, Table}
use Rattle.lx_select.specs.declared.selection.Selection.TheVariants.{Range}
use Rattle.lx_text.specs.Texts.{text_length}
use Rattle.lx_trees.specs.Siblings.{names_without}
use Rattle.lx_forest.specs.Forest.{Forest}
use Rattle.lx_forest.specs.Lookups.{is_within, kind_of, label_of, parent_of, children_of, size_of}
use Rattle.lx_forest.specs.Suited.{IsSuited}
use Rattle.lx_draft.specs.Working.{Working}
use Rattle.lx_edit.specs.Edits.{element_point}
use Rattle.lx_blocks.specs.Blocks.{is_at, block_of}
use Rattle.lx_caret.specs.Deleting.{has_more, leaf_beside, stop_before, stop_behind, delete_character_step, delete_word_step}
use Rattle.lx_caret_laws.specs.Carets.{IsSound}
use Rattle.lx_caret_laws.specs.Reading.{read_in, place_in}

-- a character or a word is deleted on this side of the caret
abbrev pub Deletes : Bool → Working → Working → Type 0
Deletes back w v = (delete_character_step back w ≡ Ok v) ⊎ (delete_word_step back w ≡ Ok v)

-- a block of one line: a paragraph, heading, quote or item, each of whose children is inline
pub record IsLine (f : Forest) (k : ℕ) : Type 0 where
  pub kind : is_at is_text_block f k ≡ true
  pub inline : (c : ℕ) → parent_of f c ≡ Some k → is_at is_inline f c ≡ true

-- Two lines are children of one node, with others before and behind them: the second comes right after the first. The fields of
-- each node are of its kind, as they always are.
pub record AreLines (parent first second : ℕ) (w : Working) : Type 0 where
  pub sound : IsSound w
  pub suited : IsSuited w.forest
  pub before : List ℕ
  pub behind : List ℕ
  pub children : children_of w.forest parent ≡ before ++ (first ∷ (second ∷ behind))
  pub first_line : IsLine w.forest first
  pub second_line : IsLine w.forest second

-- the caret is at a point in a block, on this side of which there is no character in its own node, and no other leaf in the block
pub record IsAtEdge (back : Bool) (block : ℕ) (p : Point) (format : ℕ) (w : Working) : Type 0 where
  pub caret : w.selection ≡ Range p p format
  pub within : block_of w.forest p.key ≡ Some block
  pub characters : has_more back w.forest p p.kind ≡ false
  pub leaf : leaf_beside back w.forest block p ≡ None

-- Two lines became one: the first reads what both read, one after the other, and has the children of both. The second is no child
-- of their parent any more. In every other node, such as the root, the same is read as before. Every node has its label, and each
-- other one has its children.
pub record AreJoined (parent first second : ℕ) (before behind : List ℕ) (w v : Working) : Type 0 where
  pub read : read_in v.forest first ≡ read_in w.forest first ++ read_in w.forest second
  pub children : children_of v.forest first ≡ children_of w.forest first ++ children_of w.forest second
  pub left : children_of v.forest parent ≡ before ++ (first ∷ behind)
  pub elsewhere : (b : ℕ) → b ≢ first → b ≢ second → read_in v.forest b ≡ read_in w.forest b
  pub labels : (q : ℕ) → label_of v.forest q ≡ label_of w.forest q
  pub others : (q : ℕ) → q ≢ parent → q ≢ first → q ≢ second → children_of v.forest q ≡ children_of w.forest q

-- the caret, of this format, is in a node of the draft v, right after all that was read in the node before, in the draft w
pub record IsBehindAll (k format : ℕ) (w v : Working) : Type 0 where
  pub point : Point
  pub caret : v.selection ≡ Range point point format
  pub inside : is_within v.forest k point.key ≡ true
  pub place : place_in v.forest k point ≡ text_length (read_in w.forest k)

-- A line is what deleting back at the start of another meets, wherever the two are. The fields of each node are of its kind.
pub record IsMetBack (first second : ℕ) (w : Working) : Type 0 where
  pub sound : IsSound w
  pub suited : IsSuited w.forest
  pub first_line : IsLine w.forest first
  pub second_line : IsLine w.forest second
  pub met : stop_before w.forest second ≡ Some first

-- A line was joined with another, wherever the two are: the first reads what both read, one after the other, and has the children of
-- both. The second has no parent any more. A node that holds both reads the same as before, if it read nothing between the end of
-- the first and the start of the second. One that holds neither reads the same too, and has its children. Every node has its label.
pub record AreJoinedApart (first second : ℕ) (w v : Working) : Type 0 where
  pub read : read_in v.forest first ≡ read_in w.forest first ++ read_in w.forest second
  pub children : children_of v.forest first ≡ children_of w.forest first ++ children_of w.forest second
  pub gone : parent_of v.forest second ≡ None
  pub around : (b : ℕ) → is_within w.forest b first ≡ true → is_within w.forest b second ≡ true
      → place_in w.forest b (element_point first (size_of w.forest first)) ≡ place_in w.forest b (element_point second 0)
      → read_in v.forest b ≡ read_in w.forest b
  pub aside : (b : ℕ) → is_within w.forest b first ≡ false → is_within w.forest b second ≡ false →
      (read_in v.forest b ≡ read_in w.forest b) × (children_of v.forest b ≡ children_of w.forest b)
  pub labels : (q : ℕ) → label_of v.forest q ≡ label_of w.forest q

-- A rule went: it is no child any more, every node has its label, and the same is read in each as before.
pub record IsRuleGone (rule : ℕ) (w v : Working) : Type 0 where
  pub children : (q : ℕ) → children_of v.forest q ≡ names_without rule (children_of w.forest q)
  pub labels : (q : ℕ) → label_of v.forest q ≡ label_of w.forest q
  pub read : (b : ℕ) → read_in v.forest b ≡ read_in w.forest b

-- what is deleted at an edge of a block
pub record JoiningKeepsText : Type 0 where
  -- back at the start of the second of two lines they are joined, and the caret is between what was read in the first and what was
  -- read in the second
  pub back : (parent first second format : ℕ) (p : Point) (w v : Working) → (are : AreLines parent first second w)
      → IsAtEdge true second p format w → Deletes true w v
      → AreJoined parent first second are.before are.behind w v × IsBehindAll first format w v
  -- and so they are forward at the end of the first
  pub on : (parent first second format : ℕ) (p : Point) (w v : Working) → (are : AreLines parent first second w)
      → IsAtEdge false first p format w → Deletes false w v
      → AreJoined parent first second are.before are.behind w v × IsBehindAll first format w v
  -- so they are where they are children of two nodes, such as a paragraph and the last item of the list before it
  pub back_apart : (first second format : ℕ) (p : Point) (w v : Working) → IsMetBack first second w → IsAtEdge true second p format w
      → Deletes true w v → AreJoinedApart first second w v × IsBehindAll first format w v
  pub on_apart : (first second format : ℕ) (p : Point) (w v : Working) → IsMetBack first second w → stop_behind w.forest first ≡ Some second
      → IsAtEdge false first p format w → Deletes false w v → AreJoinedApart first second w v × IsBehindAll first format w v
  -- nothing changes where no line, rule or table comes on that side in the root or the cell that the block is in ..
  pub first_block : (block format : ℕ) (p : Point) (w v : Working) → IsAtEdge true block p format w → stop_before w.forest block ≡ None
      → Deletes true w v → v ≡ w
  pub last_block : (block format : ℕ) (p : Point) (w v : Working) → IsAtEdge false block p format w → stop_behind w.forest block ≡ None
      → Deletes false w v → v ≡ w
  -- .. or where a table does
  pub behind_table : (block table format : ℕ) (p : Point) (w v : Working) → IsAtEdge true block p format w
      → stop_before w.forest block ≡ Some table → kind_of w.forest table ≡ Some Table → Deletes true w v → v ≡ w
  pub before_table : (block table format : ℕ) (p : Point) (w v : Working) → IsAtEdge false block p format w
      → stop_behind w.forest block ≡ Some table → kind_of w.forest table ≡ Some Table → Deletes false w v → v ≡ w
  -- a rule there goes instead
  pub behind_rule : (block rule format : ℕ) (p : Point) (w v : Working) → IsSound w → IsSuited w.forest → IsAtEdge true block p format w
      → stop_before w.forest block ≡ Some rule → kind_of w.forest rule ≡ Some Rule → Deletes true w v → IsRuleGone rule w v
  pub before_rule : (block rule format : ℕ) (p : Point) (w v : Working) → IsSound w → IsSuited w.forest → IsAtEdge false block p format w
      → stop_behind w.forest block ≡ Some rule → kind_of w.forest rule ≡ Some Rule → Deletes false w v → IsRuleGone rule w v
