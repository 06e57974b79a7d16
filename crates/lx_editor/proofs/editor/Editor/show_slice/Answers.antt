use Rattle.lx_editor.specs.Editor.{Editor}
use Rattle.lx_editor.specs.Standing.{editor_of}
use Rattle.lx_editor.proofs.Sliced.{points_attached}
use Rattle.lx_editor.proofs.editor.Editor.show_slice.Goals as goal

pub slice-requires : goal.slice-requires
slice-requires c = let e : Editor = editor_of c.self.inside in points_attached e.tree e.selection e.next_key c.self.invariant.valid.state
