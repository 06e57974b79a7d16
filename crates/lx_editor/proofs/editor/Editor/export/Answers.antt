use Rattle.std.proofs.Common.{◌≢◌, ℕ, ◌+◌, ◌<◌, ◌≤◌, [], IfOk, subst}
use Rattle.serde_json.specs.View.{view}
use Rattle.lx_node.specs.Limits.{most_key}
use Rattle.lx_trees.specs.NamedTrees.{total}
use Rattle.lx_forest.specs.Lookups.{children_of}
use Rattle.lx_json.specs.Back.{ReadsBack}
use Rattle.lx_editor.specs.Editor.{Editor}
use Rattle.lx_editor.specs.Standing.{editor_of}
use Rattle.lx_editor.proofs.Limits.{within_first}
use Rattle.lx_editor.proofs.editor.Editor.export.Goals as goal

pub returns-clause-back : goal.returns-clause-back
returns-clause-back c =
    let e : Editor = editor_of c.self.inside in
    subst (λ (d : Editor). (next : ℕ) → 0 < next → next + total d.tree ≤ most_key + 1 → children_of d.tree 0 ≢ []
    → IfOk c.export.result (λ document. ReadsBack (view document) next d.tree)) c.self.view_is
    (λ next first room some. c.export.ensures.back next first room some (within_first e.tree e.next_key c.self.invariant.valid.state.within))
