use Rattle.std.proofs.Common.{◌≡◌}
use Rattle.serde_json.specs.View.{members_view}
use Rattle.lx_script.specs.NewNodes.{may_all_be_given}
use Rattle.lx_script.proofs.new_nodes.may_all_be_given.Given as goal

abbrev pub invariant-members : goal.invariant-members
invariant-members l = may_all_be_given l.kind (members_view l.name-iterator) ≡ may_all_be_given l.kind (members_view l.object.entries)
