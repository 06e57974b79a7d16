-- What numbering leaves of a forest.
use Rattle.std.proofs.Common.{◌≡◌, Ok}
use Rattle.lx_node.specs.Kinds.{may_hold}
use Rattle.lx_forest.specs.Lookups.{IsForest, IsHeld}
use Rattle.lx_forest.specs.Suited.{IsSuited}
use Rattle.lx_draft.specs.Working.{Working}
use Rattle.lx_list.specs.Numbering.{number_step}
use Rattle.lx_list.specs.Numbered.{AreListsNumbered}
use Rattle.lx_list.specs.Laws.{IsRenumbered}
use Rattle.lx_list.proofs.Alike.{IsAlike, view-alike, simple-alike, next-alike}
use Rattle.lx_list.proofs.Numbered.{numbered-number}
use Rattle.lx_list.proofs.Kept.{HasItems-held}

renumbered_by : (w v : Working) → AreListsNumbered v.forest → IsAlike w.forest v.forest → IsRenumbered w.forest v.forest
renumbered_by w v numbered alike = record {
  numbered = numbered;
  views = view-alike w.forest v.forest alike;
  texts = simple-alike w.forest v.forest alike;
  neighbours = next-alike w.forest v.forest alike;
  attached = alike.within 0;
}

pub renumbered : (w v : Working) → IsForest w.forest → IsHeld may_hold w.forest → IsSuited w.forest → number_step w ≡ Ok v → IsRenumbered w.forest v.forest
renumbered w v h held suited e = let both = numbered-number w v h (HasItems-held w.forest held suited) e in renumbered_by w v both.0 both.1
