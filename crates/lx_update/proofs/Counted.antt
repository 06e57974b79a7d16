-- No step of a script takes counts back.
use Rattle.std.proofs.Common.{◌≡◌, ◌+◌, ℕ, Ok, ap, arith}
use Rattle.lx_select.specs.declared.selection.Selection.{Selection}
use Rattle.lx_draft.specs.Working.{Working}
use Rattle.lx_draft.specs.Steps.{count_step, mark_step, select_step}
use Rattle.lx_edit.proofs.Climbed.{answered}
use Rattle.lx_edit.proofs.Counted.{Any, KeepsCounts, counted_path}
use Rattle.lx_update.proofs.Paths.{IsScriptPath}

pub count-counted : (w v : Working) → count_step w ≡ Ok v → v.counted ≡ w.counted + 1
unfolding count_step
count-counted w v e = ap (λ (x : Working). x.counted) (answered _ _ v e)

mark-counted : (k : ℕ) (w v : Working) → mark_step k w ≡ Ok v → v.counted ≡ w.counted + 1
unfolding mark_step
mark-counted k w v e = ap (λ (x : Working). x.counted) (answered _ _ v e)

select-counted : (s : Selection) (w v : Working) → select_step s w ≡ Ok v → v.counted ≡ w.counted
unfolding select_step
select-counted s w v e = ap (λ (x : Working). x.counted) (answered _ _ v e)

pub counted_scripts : IsScriptPath Any KeepsCounts
counted_scripts = record {
  path = counted_path;
  count = λ w v d e. omega (arith, count-counted w v e);
  mark = λ k w v d e. omega (arith, mark-counted k w v e);
  select = λ s w v d e. omega (arith, select-counted s w v e);
}
