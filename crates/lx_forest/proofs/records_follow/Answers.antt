use Rattle.lx_forest.proofs.Records.{record_at-with_new, record_at-with_fields, record_at-take_out, record_at-put_in, record_at-drop_detached}
use Rattle.lx_forest.proofs.records_follow.Goals as goal

pub returns : goal.returns
returns c = record { new = record_at-with_new; set = record_at-with_fields; take = record_at-take_out; put = record_at-put_in; drop = record_at-drop_detached }
