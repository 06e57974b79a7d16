-- What steps do to the nodes that they name.
use Rattle.std.specs.Prelude.{ℕ, Result}
use Rattle.lx_node.specs.declared.cause.Cause.{Cause}
use Rattle.lx_draft.specs.Working.{Working}
use Rattle.lx_draft.specs.Steps.{mark_step}
use Rattle.lx_edit.specs.Edits.{remove_step, replace_step, wrap_step, unwrap_step, children_step}
use Rattle.lx_edit.specs.Texts.{join_step}
use Rattle.lx_update.specs.declared.stepping.NodeEdit.{NodeEdit}
use Rattle.lx_update.specs.declared.stepping.NodeEdit.TheVariants as node
use Rattle.lx_update.specs.declared.stepping.PairEdit.{PairEdit}
use Rattle.lx_update.specs.declared.stepping.PairEdit.TheVariants as pair
use Rattle.lx_update.specs.Scripts.{script_put_step, script_set_step}

-- what a step does to the node that it names
abbrev pub of_node : NodeEdit → ℕ → Working → Result Working Cause
of_node node.Remove = remove_step
of_node (node.Set patch) = script_set_step patch.now.members
of_node node.Mark = mark_step
of_node node.Unwrap = unwrap_step

-- what a step does to the two nodes that it names
abbrev pub of_pair : PairEdit → ℕ → ℕ → Working → Result Working Cause
of_pair (pair.Put index) = λ k p. script_put_step k p index
of_pair (pair.Replace keep) = λ k o. replace_step k o keep
of_pair pair.Join = join_step
of_pair pair.Wrap = wrap_step
of_pair pair.Children = children_step
