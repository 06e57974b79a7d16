-- What it means to wrap a node, to unwrap it, to replace it, and to move its children.
use Rattle.std.specs.Prelude.{ℕ, ◌≡◌, ◌≢◌, ◌++◌, true, [], ◌∷◌, Some, Ok}
use Rattle.lx_forest.specs.Lookups.{parent_of, children_of}
use Rattle.lx_draft.specs.Working.{Working}
use Rattle.lx_draft.specs.Covering.{IsReady}
use Rattle.lx_edit.specs.Edits.{children_step, replace_step, wrap_step, unwrap_step}
use Rattle.lx_edit_laws.specs.Reading.{read_below, in_place_of}

-- a node of the draft w was wrapped in another that has no children, which left the draft v
pub record IsWrapped (k outer : ℕ) (w v : Working) : Type 0 where
  pub ready : IsReady w
  pub empty : children_of w.forest outer ≡ []
  pub wrapped : wrap_step k outer w ≡ Ok v

-- what wrapping, unwrapping, replacing and moving children leave: which children are where, and the same to be read;
-- and unwrapping undoes wrapping
pub record WrapsAreTold : Type 0 where
  -- a wrapped node is the outer one's only child, and the outer one is in its place
  pub within : (k outer : ℕ) (w v : Working) → IsWrapped k outer w v → children_of v.forest outer ≡ k ∷ []
  pub place : (k outer : ℕ) (w v : Working) (p : ℕ) → IsWrapped k outer w v → parent_of w.forest k ≡ Some p →
      children_of v.forest p ≡ in_place_of k (outer ∷ []) (children_of w.forest p)
  -- below any other node the same is read
  pub wrap_read : (k outer : ℕ) (w v : Working) (b : ℕ) → IsWrapped k outer w v → b ≢ outer →
      read_below v.forest b ≡ read_below w.forest b
  pub unwrap_read : (k : ℕ) (w v : Working) (b : ℕ) → IsReady w → unwrap_step k w ≡ Ok v → b ≢ k →
      read_below v.forest b ≡ read_below w.forest b
  -- the children of an unwrapped node are in its place, in their order
  pub unwrapped : (k p : ℕ) (w v : Working) → IsReady w → unwrap_step k w ≡ Ok v → parent_of w.forest k ≡ Some p → children_of w.forest k ≢ [] →
      children_of v.forest p ≡ in_place_of k (children_of w.forest k) (children_of w.forest p)
  -- to unwrap what was wrapped gives the old forest
  pub undone : (k outer : ℕ) (w v u : Working) → IsWrapped k outer w v → unwrap_step outer v ≡ Ok u → u.forest ≡ w.forest
  -- children that go elsewhere go after those that are there, and keep their order
  pub moved : (from to : ℕ) (w v : Working) → IsReady w → from ≢ to → children_step from to w ≡ Ok v →
      children_of v.forest to ≡ children_of w.forest to ++ children_of w.forest from
  -- and so do those that a node keeps that stands for another
  pub replaced : (k with : ℕ) (w v : Working) → IsReady w → replace_step k with true w ≡ Ok v →
      children_of v.forest with ≡ children_of w.forest with ++ children_of w.forest k
