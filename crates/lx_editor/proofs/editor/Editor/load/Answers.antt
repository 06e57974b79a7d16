use Rattle.serde_json.specs.View.{view}
use Rattle.lx_editor.specs.Gathering.{recording}
use Rattle.lx_editor.specs.Loaded.{IsLoaded}
use Rattle.lx_editor.proofs.Said.{outcome_said}
use Rattle.lx_editor.proofs.editor.Editor.load.Goals as goal

pub returns-clause-loaded : goal.returns-clause-loaded
returns-clause-loaded c =
    outcome_said c.load_saying.result
    (λ outcome. IsLoaded c.args.self.now (view c.args.document.now) (recording c.args.tags c.args.moment) outcome c.load_saying.new.self)
    c.load_saying.ensures.loaded
