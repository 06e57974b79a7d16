use Rattle.lx_trees.proofs.Records.{record_at-with_new, record_at-mapped, record_at-take_out, record_at-put_in, record_at-without}
use Rattle.lx_trees.proofs.records_follow.Goals as goal

pub returns : goal.returns
returns g c = λ name. record {
  new = record_at-with_new name;
  relabel = record_at-mapped name;
  take = record_at-take_out name;
  put = record_at-put_in name;
  gone = record_at-without name;
}
