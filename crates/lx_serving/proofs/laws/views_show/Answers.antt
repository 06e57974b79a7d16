use Rattle.std.proofs.Common.{[]}
use Rattle.lx_serving.proofs.Showing.{led, shown}
use Rattle.lx_serving.proofs.laws.views_show.Goals as goal

pub returns-clause-led : goal.returns-clause-led
returns-clause-led c old s lines bytes p = led old s lines bytes [] p

pub returns-clause-shown : goal.returns-clause-shown
returns-clause-shown c options lines bytes s earlier is p = shown c.views_lag.ensures options lines bytes s earlier is p
