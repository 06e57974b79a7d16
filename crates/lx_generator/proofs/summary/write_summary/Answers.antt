use Rattle.lx_generator.proofs.Told.{text_of_summary}
use Rattle.lx_generator.proofs.summary.write_summary.Goals as goal

pub returns : goal.returns
returns c = text_of_summary c.args.summary _ _ c.in_ok-value.ensures c.in_ok-to_vec.ensures.text
