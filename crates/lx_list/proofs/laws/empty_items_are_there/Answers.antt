use Rattle.lx_list.proofs.Broken.{empty_items}
use Rattle.lx_list.proofs.laws.empty_items_are_there.Goals as goal

pub returns : goal.returns
returns c = empty_items
