-- What it means to join two texts.
use Rattle.std.specs.Prelude.{ℕ, ◌≡◌, ◌≢◌, ◌≤◌, ◌++◌, true, List, [], ◌∷◌, Some, Ok}
use Rattle.lx_trees.specs.Siblings.{is_among, names_without}
use Rattle.lx_node.specs.declared.kind.Kind.TheVariants.{Text}
use Rattle.lx_node.specs.declared.fields.TextFields.{TextFields}
use Rattle.lx_node.specs.Limits.{last_u32}
use Rattle.lx_text.specs.Texts.{text_length}
use Rattle.lx_node.specs.Kinds.{may_hold}
use Rattle.lx_forest.specs.Lookups.{has, spot, label_of, parent_of, children_of, IsHeld}
use Rattle.lx_draft.specs.Working.{Working}
use Rattle.lx_draft.specs.Covering.{IsReady}
use Rattle.lx_draft.specs.Faults.{text_in}
use Rattle.lx_draft.specs.Steps.{text_replaced}
use Rattle.lx_edit.specs.InTurn.{in_turn}
use Rattle.lx_edit.specs.Texts.{join_step}
use Rattle.lx_edit_laws.specs.Reading.{text_at, read_below, PlacesAreKept}
use Rattle.lx_edit_laws.specs.Splits.{IsSplit}

-- a text of the draft w was joined with the one after it, which left the draft v
pub record IsJoined (first second : ℕ) (w v : Working) : Type 0 where
  pub ready : IsReady w
  pub joined : join_step first second w ≡ Ok v
  -- offsets are numbers of a u32, and so can say every place of a text that is no longer
  pub fits : text_length (text_at w.forest first ++ text_at w.forest second) ≤ last_u32

-- what a join leaves: the first with both texts, the second gone, all else as it was, points at their places and the
-- same to be read; and pieces of a split that are joined again give the old tree
pub record JoinsAreTold : Type 0 where
  -- the first has both texts, one after the other ..
  pub text : (first second : ℕ) (w v : Working) → IsJoined first second w v →
      text_at v.forest first ≡ text_at w.forest first ++ text_at w.forest second
  -- .. and is as it was but for that
  pub alike : (first second : ℕ) (w v : Working) (text : TextFields) → IsJoined first second w v → text_in (label_of w.forest first) ≡ Some text →
      label_of v.forest first ≡ Some (record { key = first; kind = Text; fields = text_replaced text (text_at v.forest first) })
  -- the second is gone from the children of their parent, and no other child is
  pub order : (first second : ℕ) (w v : Working) (p : ℕ) → IsJoined first second w v → parent_of w.forest first ≡ Some p →
      children_of v.forest p ≡ names_without second (children_of w.forest p)
  -- every node that the edit isn't about stays where it was, as it was
  pub others : (first second : ℕ) (w v : Working) (q : ℕ) → IsJoined first second w v → has q w.forest ≡ true →
      is_among q (first ∷ second ∷ []) ≢ true → parent_of w.forest first ≢ Some q → spot v.forest q ≡ spot w.forest q
  -- each point in the two texts keeps its place in them
  pub points : (first second : ℕ) (w v : Working) → IsJoined first second w v → PlacesAreKept (first ∷ second ∷ []) (first ∷ []) w v
  -- and below any other node the same is read, where each node holds what it may, so that nothing is below a text
  pub read : (first second : ℕ) (w v : Working) (b : ℕ) → IsJoined first second w v → IsHeld may_hold w.forest → has b w.forest ≡ true →
      is_among b (first ∷ second ∷ []) ≢ true → read_below v.forest b ≡ read_below w.forest b
  -- the pieces of a split that are joined again give the old tree
  pub undone : (k : ℕ) (offsets new : List ℕ) (w v u : Working) (q : ℕ) → IsSplit k offsets (k ∷ new) w v → in_turn (join_step k) new v ≡ Ok u →
      has q w.forest ≡ true → spot u.forest q ≡ spot w.forest q
