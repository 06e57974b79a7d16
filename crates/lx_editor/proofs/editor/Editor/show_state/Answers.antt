use Rattle.std.proofs.Common.{◌∙◌, ap}
use Rattle.serde_json.specs.Written.{has_float}
use Rattle.lx_json.proofs.Whole.{exported-whole}
use Rattle.lx_editor.proofs.editor.Editor.show_state.Goals as goal

pub write_state-requires : goal.write_state-requires
write_state-requires c = record { whole = ap has_float c.in_ok-document.ensures.written ∙ exported-whole c.args.self.now.tree }
