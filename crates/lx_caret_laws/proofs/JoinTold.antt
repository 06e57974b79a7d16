-- What is deleted at an edge of a block: all its laws.
use Rattle.lx_caret_laws.proofs.FarSteps.{apart_at_end, apart_at_start}
use Rattle.lx_caret_laws.proofs.JoinMet.{deletes_joins, none_before, none_behind, rule_before, rule_behind, table_before, table_behind}
use Rattle.lx_caret_laws.proofs.JoinSteps.{joined_at_end, joined_at_start}
use Rattle.lx_caret_laws.proofs.RuleGone.{rule_gone}
use Rattle.lx_caret_laws.specs.Joining.{JoiningKeepsText}
use Rattle.std.proofs.Common.{false, true}

pub told-joining : JoiningKeepsText
told-joining = record {
  back = λ parent first second format p w v are is e. joined_at_start parent first second format p w v are is e;
  on = λ parent first second format p w v are is e. joined_at_end parent first second format p w v are is e;
  back_apart = λ first second format p w v met is e. apart_at_start first second format p w v met is e;
  on_apart = λ first second format p w v met found is e. apart_at_end first second format p w v met found is e;
  first_block = λ block format p w v is none e. none_before block w v none (deletes_joins true block p format w v is e).joins;
  last_block = λ block format p w v is none e. none_behind block w v none (deletes_joins false block p format w v is e).joins;
  behind_table = λ block table format p w v is found kind e.
      table_before block table w v found kind (deletes_joins true block p format w v is e).joins;
  before_table = λ block table format p w v is found kind e.
      table_behind block table w v found kind (deletes_joins false block p format w v is e).joins;
  behind_rule = λ block rule format p w v sound suited is found kind e.
      rule_gone rule w v sound suited kind (rule_before block rule w v found kind (deletes_joins true block p format w v is e).joins);
  before_rule = λ block rule format p w v sound suited is found kind e.
      rule_gone rule w v sound suited kind (rule_behind block rule w v found kind (deletes_joins false block p format w v is e).joins);
}
