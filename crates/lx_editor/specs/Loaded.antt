-- What loading a document makes of an editor.
use Rattle.std.specs.Prelude.{◌≢◌, ℕ, Option, Result}
use Rattle.serde_json.specs.Data.{Data}
use Rattle.lx_node.specs.declared.cause.Cause.{Cause}
use Rattle.lx_json.specs.Importing.{imported}
use Rattle.lx_editor.specs.declared.recording.Recording.{Recording}
use Rattle.lx_editor.specs.declared.outcome.Outcome.{Outcome}
use Rattle.lx_editor.specs.declared.outcome.Outcome.TheVariants.{Idle}
use Rattle.lx_editor.specs.Editor.{Editor}
use Rattle.lx_editor.specs.Registered.{left_with}
use Rattle.lx_editor.specs.Updated.{Settled, IsMadeOf}

-- What is left for a commit of the draft that a document makes, whose new nodes get the editor's next keys; or why it makes
-- none.
unfoldable pub left_by_load : Editor → Data → Result Settled (Cause × Option ℕ)
left_by_load old document = left_with old.rules (imported document old.next_key)

-- The outcome that a load may have, and the editor that it may leave. A document is always something new, since every node
-- of it is marked. It doesn't take in what is pending, which is dropped where it commits, and stays where it is refused.
unfoldable pub IsLoaded : Editor → Data → Recording → Outcome → Editor → Type 0
IsLoaded old document how outcome new = IsMadeOf (left_by_load old document) old how outcome new × (outcome ≢ Idle)
