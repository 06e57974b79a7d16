use Rattle.lx_script.specs.Replies.{reply_data}
use Rattle.lx_script.proofs.write.put_reply.Goals as goal

pub returns-in-Registered : goal.returns-in-Registered
unfolding reply_data
returns-in-Registered c = rw c.in-Registered.is c.put_number_alone-in-Registered.ensures
