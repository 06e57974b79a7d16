use Rattle.std.proofs.Common.{◌≡◌, ◌++◌, option_map}
use Rattle.serde_json.specs.View.{members_view}
use Rattle.lx_script.specs.Patches.{patch_members}
use Rattle.lx_script.proofs.patches.patch_members.Given as goal

abbrev pub invariant-members : goal.invariant-members
invariant-members l =
    option_map (λ more. l.made.items ++ more) (patch_members (members_view l.name-iterator)) ≡ patch_members (members_view l.object.entries)
