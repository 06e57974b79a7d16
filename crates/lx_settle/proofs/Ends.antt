-- The laws of settling.
use Rattle.std.proofs.Common.{◌≡◌, ℕ, true, [], sym, subst, inl, inr}
use Rattle.lx_marks.specs.Marks.{unmarked, is_touched}
use Rattle.lx_forest.specs.Lookups.{is_attached}
use Rattle.lx_draft.specs.Working.{Working}
use Rattle.lx_draft.specs.Covering.{AreElements, IsReady}
use Rattle.lx_settle.specs.Laws.{SettlingEnds}
use Rattle.lx_settle.specs.Rested.{is_due}
use Rattle.lx_settle.proofs.Covers.{settled_marked}
use Rattle.lx_settle.proofs.Rest.{rests}
use Rattle.lx_settle.proofs.Joining.{IsJoining, joins}
use Rattle.lx_settle.proofs.Begun.{joining_begun}
use Rattle.lx_settle.proofs.Swept.{rested_swept, joined_swept}

no_elements : (u : Working) → u.fresh ≡ unmarked → AreElements u.forest u.fresh
no_elements u e = subst (AreElements u.forest) (sym e) (record { each = λ q flag. absurd (cc) })

-- where every node of the tree is marked, all is still to be joined
all_pending : (w : Working) → ((q : ℕ) → is_attached w.forest q ≡ true → is_touched w.fresh q ≡ true) → AreElements w.forest w.fresh → IsReady w
    → IsJoining [] w
all_pending w all sorted ready = record {
  full = λ q there. inr (inr (all q there));
  apart = λ q n there next. inr (inl (inr (all q there)));
  sorted = sorted;
  ready = ready;
}

pub settling_ends : SettlingEnds
settling_ends = record {
  rests = λ rules u w v same c e. rests rules w v c.ready (λ q marked. subst (λ m. is_due m q ≡ true) (c.same same) marked) e;
  joins = λ rules u w v r alone j none c e. joins rules w v (joining_begun u w j r alone c (no_elements u none)) e;
  joins_marked = λ rules u w v none c all e. joins rules w v (all_pending w all (c.elements (no_elements u none)) c.ready) e;
  covers = λ rules u w v c e. settled_marked rules u w v c e;
  rested_swept = λ rules f m h r. rested_swept rules f m h r;
  joined_swept = λ f h j. joined_swept f h j;
}
