-- What is deleted at once.
use Rattle.std.specs.Prelude.{ℕ, Bool, if◌then◌else◌, [], Option, None, Some, Result}
use Rattle.lx_node.specs.declared.cause.Cause.{Cause}
use Rattle.lx_draft.specs.Working.{Working}
use Rattle.lx_draft.specs.Steps.{splice_step}
use Rattle.lx_edit.specs.Edits.{remove_step}
use Rattle.lx_caret.specs.declared.deleting.Stretch.{Stretch}
use Rattle.lx_caret.specs.declared.deleting.Stretch.TheVariants.{Cluster, Word}
use Rattle.lx_caret.specs.Deleting.{Reach, cluster_reach, word_reach}

-- where a cluster or a word begins before an offset, or ends after it
abbrev pub reach_of : Stretch → Bool → Reach
reach_of Cluster back = cluster_reach back
reach_of Word back = word_reach back

-- what is between an offset of a text and the end of a stretch is cut out; the text goes whole where there is no end
abbrev pub erased_to : Bool → ℕ → ℕ → Option ℕ → Working → Result Working Cause
erased_to back k at None w = remove_step k w
erased_to back k at (Some end) w = if back then splice_step k end at [] w else splice_step k at end [] w
