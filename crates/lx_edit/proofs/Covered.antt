-- Each composite edit is covered by what it marks, since the steps are that it is made of.
use Rattle.lx_draft.specs.Covering.{IsReady, AreCovered}
use Rattle.lx_draft.proofs.Covered.{covered-then}
use Rattle.lx_draft.proofs.CoveredSteps.{covered-pointed, covered-new, covered-set, covered-splice, covered-take, covered-put}
use Rattle.lx_edit.specs.Laws.{EditsAreCovered}
use Rattle.lx_edit.proofs.Paths.{IsPath, every, remove_path, replace_path, wrap_path, unwrap_path, children_path, split_path, join_path, join_around_path}

pub covered_path : IsPath IsReady AreCovered (λ k. Unit {0})
covered_path = record {
  ready = λ w v c. c.ready;
  selected = λ w s r. covered-pointed w s r;
  composed = λ u v w a b. covered-then u v w a b;
  new = λ kind fields w v r e. covered-new kind fields w v r e;
  set = λ k fields w v r e. covered-set k fields w v r e;
  splice = λ k from to new w v r e. covered-splice k from to new w v r e;
  take = λ k w v r e. covered-take k w v r e;
  put = λ k p index w v may r e. covered-put k p index w v r e;
}

pub covered-edits : EditsAreCovered
covered-edits = record {
  turns = λ step each ks. every covered_path step ks each;
  remove = λ k. remove_path covered_path k;
  replace = λ k with keep w v r e. replace_path covered_path k with keep w v r tt (λ u put kept c among. tt) e;
  wrap = λ k outer. wrap_path covered_path k outer tt tt;
  unwrap = λ k w v r e. unwrap_path covered_path k w v r (λ c among. tt) e;
  children = λ from to w v r e. children_path covered_path from to w v r (λ c among. tt) e;
  split = λ k offsets w v r e. split_path covered_path k offsets w v r (λ q among. tt) e;
  join = λ first second. join_path covered_path first second;
  join_around = λ k. join_around_path covered_path k;
}
