use Rattle.std.proofs.Common.{◌≡◌}
use Rattle.serde_json.specs.View.{members_view}
use Rattle.lx_fields.specs.Words.{names}
use Rattle.lx_fields.proofs.InOrder.{given_each}
use Rattle.lx_fields.proofs.fields.give_each.Given as goal

abbrev pub invariant-members : goal.invariant-members
invariant-members l =
    given_each l.kind names (members_view l.text-iterator) l.fields ≡ given_each l.kind names (members_view l.members.entries) l.initial.fields
