use Rattle.lx_forest.proofs.Within.{is_within-with_new, is_within-with_fields, is_within-take_out, is_within-put_in, is_within-drop_detached}
use Rattle.lx_forest.proofs.trees_follow.Goals as goal

pub returns : goal.returns
returns c = record { new = is_within-with_new; set = is_within-with_fields; take = is_within-take_out; put = is_within-put_in; drop = is_within-drop_detached }
