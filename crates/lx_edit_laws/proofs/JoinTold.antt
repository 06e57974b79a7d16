-- The laws of joins.
use Rattle.lx_draft.specs.Working.{Working}
use Rattle.lx_edit_laws.proofs.JoinPoints.{points_joined}
use Rattle.lx_edit_laws.proofs.JoinRead.{read_joined}
use Rattle.lx_edit_laws.proofs.JoinSpots.{children_left, label_like, spot_other, text_first}
use Rattle.lx_edit_laws.proofs.JoinSteps.{AreJoined, are_joined}
use Rattle.lx_edit_laws.proofs.JoinUndone.{joined_again}
use Rattle.lx_edit_laws.specs.Joins.{IsJoined, JoinsAreTold}
use Rattle.std.proofs.Common.{ℕ}

pub joins_told : JoinsAreTold
joins_told = record {
  text = λ first second w v j. text_first first second w v j.ready.in_order (is_join first second w v j);
  alike = λ first second w v text j is. label_like first second w v j.ready.in_order (is_join first second w v j) text is;
  order = λ first second w v p j up. children_left first second w v j.ready.in_order (is_join first second w v j) p;
  others = λ first second w v q j there apart above. spot_other first second w v j.ready.in_order (is_join first second w v j) q apart above;
  points = λ first second w v j. points_joined first second w v j.ready.in_order (is_join first second w v j) j.fits;
  read = λ first second w v b j held there apart. read_joined first second w v j.ready.in_order held (is_join first second w v j) b apart;
  undone = λ k offsets new w v u q s e old. joined_again k offsets new w v u q s e old;
} where
  is_join : (first second : ℕ) (w v : Working) → IsJoined first second w v → AreJoined first second w v
  is_join first second w v j = are_joined first second w v j.ready.in_order j.fits j.joined
