-- What comes into the trees of some keys.
use Rattle.std.specs.Prelude.{ℕ, ◌≡◌, ◌⊎◌, ◌||◌, Bool, true, false, List, [], ◌∷◌, length, Ok}
use Rattle.lx_trees.specs.Siblings.{is_among}
use Rattle.lx_forest.specs.Forest.{Forest}
use Rattle.lx_forest.specs.Lookups.{is_within, children_of}
use Rattle.lx_draft.specs.Working.{Working}
use Rattle.lx_marks.specs.Marks.{is_touched}
use Rattle.lx_draft.specs.Covering.{IsReady, AreCovered}
use Rattle.lx_draft.specs.Beside.{put_before_step}
use Rattle.lx_edit.specs.Edits.{remove_step, children_step, replace_step, wrap_step, unwrap_step}
use Rattle.lx_edit.specs.Texts.{split_step, join_step, join_around_step, keys_from}

-- whether q is in the tree of one of these keys
abbrev pub is_under : Forest → List ℕ → ℕ → Bool
is_under f [] q = false
is_under f (k ∷ ks) q = is_within f k q || is_under f ks q

-- of what a draft became: whatever is in the trees of these keys was there before, or is marked anew
pub record IsHomed (ks : List ℕ) (w v : Working) : Type 0 where
  pub covered : AreCovered w v
  pub home : (q : ℕ) → is_under v.forest ks q ≡ true → (is_under w.forest ks q ≡ true) ⊎ (is_touched v.fresh q ≡ true)

-- each of the first keys is among the others
abbrev pub AreAmong : List ℕ → List ℕ → Type 0
AreAmong ks others = (k : ℕ) → is_among k ks ≡ true → is_among k others ≡ true

-- an edit that puts no other keys than these brings nothing else into their trees that it doesn't mark
pub record EditsAreHomed : Type 0 where
  pub remove : (ks : List ℕ) (k : ℕ) (w v : Working) → IsReady w → remove_step k w ≡ Ok v → IsHomed ks w v
  pub replace : (ks : List ℕ) (k with : ℕ) (keep : Bool) (w v : Working) → IsReady w → is_among with ks ≡ true
      → ((u : Working) → put_before_step with k w ≡ Ok u → keep ≡ true → AreAmong (children_of u.forest k) ks)
      → replace_step k with keep w ≡ Ok v → IsHomed ks w v
  pub wrap : (ks : List ℕ) (k outer : ℕ) (w v : Working) → IsReady w → is_among outer ks ≡ true → is_among k ks ≡ true → wrap_step k outer w ≡ Ok v → IsHomed ks w v
  pub unwrap : (ks : List ℕ) (k : ℕ) (w v : Working) → IsReady w → AreAmong (children_of w.forest k) ks → unwrap_step k w ≡ Ok v → IsHomed ks w v
  pub children : (ks : List ℕ) (from to : ℕ) (w v : Working) → IsReady w → AreAmong (children_of w.forest from) ks → children_step from to w ≡ Ok v → IsHomed ks w v
  pub split : (ks : List ℕ) (k : ℕ) (offsets : List ℕ) (w v : Working) → IsReady w → AreAmong (keys_from w.next_key (length offsets)) ks → split_step k offsets w ≡ Ok v → IsHomed ks w v
  pub join : (ks : List ℕ) (first second : ℕ) (w v : Working) → IsReady w → join_step first second w ≡ Ok v → IsHomed ks w v
  pub join_around : (ks : List ℕ) (k : ℕ) (w v : Working) → IsReady w → join_around_step k w ≡ Ok v → IsHomed ks w v
