-- What numbering can rely on: the draft began with a forest whose items have their numbers, and its marks show what changed
-- since.
use Rattle.std.specs.Prelude.{ℕ, ◌≡◌, true}
use Rattle.lx_marks.specs.Marks.{unmarked}
use Rattle.lx_forest.specs.Forest.{Forest}
use Rattle.lx_forest.specs.Lookups.{has, is_attached, IsForest}
use Rattle.lx_draft.specs.Working.{Working}
use Rattle.lx_draft.specs.Covering.{Covers, KindsStay}
use Rattle.lx_list.specs.Numbered.{AreListsNumbered}

-- there was a forest before in which nothing was detached and each item had its number; the draft's marks cover all
-- that changed since, and no node is of another kind
pub record BeganNumbered (w : Working) : Type 0 where
  pub before : Forest
  pub in_order : IsForest before
  pub whole : (q : ℕ) → has q before ≡ true → is_attached before q ≡ true
  pub numbered : AreListsNumbered before
  pub marks : Covers before unmarked w.forest w.marks
  pub kinds : KindsStay before w.forest
