use Rattle.std.proofs.Common.{◌∙◌, ap, codes, option_map}
use Rattle.serde_json.specs.View.{view}
use Rattle.serde_json.proofs.Views.{view-Object, view-lookup}
use Rattle.lx_script.proofs.read.taken_load.Goals as goal

pub returns-in-Object : goal.returns-in-Object
returns-in-Object c =
    rw (c.in-Object.is, view-Object c.in-Object.members) (ap (option_map view) c.remove.ensures.value ∙ view-lookup (codes "load") c.in-Object.members.entries)
