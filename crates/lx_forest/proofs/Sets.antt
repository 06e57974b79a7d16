-- The laws of each edit as sets, which a function's tactic may name.
use Rattle.lx_forest.proofs.Edits.{count-with_new, count-with_fields, count-take_out, count-put_in, spot-with_new, spot-with_fields, spot-take_out, spot-put_in, spot-drop_detached}
use Rattle.lx_forest.proofs.Lookups.{kind_of-with_new, kind_of-with_fields, kind_of-take_out, kind_of-put_in, kind_of-drop_detached, parent_of-with_new, parent_of-with_fields, parent_of-take_out, parent_of-put_in, parent_of-drop_detached, children_of-with_new, children_of-with_fields, children_of-take_out, children_of-put_in, children_of-drop_detached}
use Rattle.lx_forest.proofs.Order.{IsForest-with_new, IsForest-with_fields, IsForest-take_out, IsForest-put_in, IsForest-drop_detached}
use Rattle.lx_forest.proofs.Records.{record_at-with_new, record_at-with_fields, record_at-take_out, record_at-put_in, record_at-drop_detached}
use Rattle.lx_forest.proofs.Within.{is_attached-with_new, is_attached-take_out, is_attached-put_in, is_attached-drop_detached, is_within-with_fields}

-- what is read of a key after an edit
pub ruleset after_new = (IsForest-with_new, count-with_new, kind_of-with_new, parent_of-with_new, children_of-with_new, is_attached-with_new)

pub ruleset after_set = (IsForest-with_fields, count-with_fields, kind_of-with_fields, parent_of-with_fields, children_of-with_fields, is_within-with_fields)

pub ruleset after_take = (IsForest-take_out, count-take_out, kind_of-take_out, parent_of-take_out, children_of-take_out, is_attached-take_out)

pub ruleset after_put = (IsForest-put_in, count-put_in, kind_of-put_in, parent_of-put_in, children_of-put_in, is_attached-put_in)

pub ruleset after_drop = (IsForest-drop_detached, kind_of-drop_detached, parent_of-drop_detached, children_of-drop_detached, is_attached-drop_detached)

-- where a key is after an edit, and its links
pub ruleset spots_after = (spot-with_new, spot-with_fields, spot-take_out, spot-put_in, spot-drop_detached)

pub ruleset records_after = (record_at-with_new, record_at-with_fields, record_at-take_out, record_at-put_in, record_at-drop_detached)
