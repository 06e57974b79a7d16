use Rattle.std.proofs.Common.{sym, subst}
use Rattle.lx_history.specs.History.{History}
use Rattle.lx_history.specs.Told.{IsAway}
use Rattle.lx_editor.proofs.Updated.{new_valid}
use Rattle.lx_editor.proofs.editor.Editor.new.Goals as goal

pub invariant_of-result : goal.invariant_of-result
invariant_of-result c =
    let made = c.in_ok-new.field-0 in
    record {
      valid =
          new_valid made.links made.selection c.in_ok-new-2.field-0.tree c.in_ok-new-3.field-0.history c.args.delay c.in_ok-built_in_rules.field-0.items
          c.in_ok-new-4.field-0 c.args.tells_view
          c.in_ok-new.ensures.links c.in_ok-new.ensures.selection c.in_ok-new-2.ensures c.in_ok-new-3.ensures c.in_ok-new.ensures.start;
      told = subst (λ (h : History). IsAway h.current c.in_ok-new-3.field-0.strays made.links) (sym c.in_ok-new-3.ensures) tt;
    }
