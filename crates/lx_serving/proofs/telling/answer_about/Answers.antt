use Rattle.lx_serving.proofs.Whole.{text_about}
use Rattle.lx_serving.proofs.telling.answer_about.Goals as goal

pub returns : goal.returns
returns c =
    text_about c.args.about c.args.state.now.links c.args.outlined.now.events _ c.in_ok-to_vec.field-0.items c.in_ok-value.ensures c.in_ok-to_vec.ensures.text
