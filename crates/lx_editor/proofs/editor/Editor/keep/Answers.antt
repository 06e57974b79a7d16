use Rattle.std.proofs.Common.{sym, subst}
use Rattle.lx_editor.specs.Editor.{Editor}
use Rattle.lx_editor.specs.Gathering.{started_of, IsPending}
use Rattle.lx_editor.specs.Standing.{editor_of}
use Rattle.lx_editor.proofs.Waiting.{pending_valid}
use Rattle.lx_editor.proofs.editor.Editor.keep.Goals as goal

pub invariant_of-self : goal.invariant_of-self
invariant_of-self c = record {
  valid = pending_valid (editor_of c.self.inside) c.args.pending.value c.self.invariant.valid
      (subst (λ (e : Editor). IsPending (started_of e) c.args.pending.value) (sym c.self.view_is) c.requires);
  told = c.self.invariant.told;
}
