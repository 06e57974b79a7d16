-- Marks show whatever a line changes.
use Rattle.std.proofs.Common.{◌≡◌, Result, Ok, subst}
use Rattle.lx_node.specs.declared.cause.Cause.{Cause}
use Rattle.lx_draft.specs.Covering.{IsReady, AreCovered}
use Rattle.lx_draft.proofs.CoveredSteps.{covered-count, covered-mark, covered-select}
use Rattle.lx_edit.proofs.Covered.{covered_path}
use Rattle.lx_edit.proofs.Paths.{self}
use Rattle.lx_update.specs.Running.{Running, on_script, take_count}
use Rattle.lx_update.specs.Commands.{command_step}
use Rattle.lx_update.specs.Scripts.{Scripted, on_draft, effect_of}
use Rattle.lx_update.proofs.CommandPaths.{command_reaches}
use Rattle.lx_update.proofs.Paced.{count_taken, left_as}
use Rattle.lx_update.proofs.Paths.{IsScriptPath, Reaches, effect_path}
use Rattle.lx_update.proofs.Stays.{IsKept, IsOfScripts}

covered_scripts : IsScriptPath IsReady AreCovered
covered_scripts = record {
  path = covered_path;
  count = λ w v r e. covered-count w v r e;
  mark = λ k w v r e. covered-mark k w v r e;
  select = λ selection w v r e. covered-select selection w v r e;
}

abbrev pub IsReadyRunning : Running → Type 0
IsReadyRunning m = IsReady m.script.draft

abbrev pub AreCoveredRunning : Running → Running → Type 0
AreCoveredRunning m n = AreCovered m.script.draft n.script.draft

covered_count : (m n : Running) → IsReadyRunning m → take_count m ≡ Ok n → AreCoveredRunning m n
covered_count m n ready e = covered-count m.script.draft n.script.draft ready (count_taken m n e).draft

covered_on : (edit : Scripted → Result Scripted Cause) (m n : Running) → Reaches IsReady AreCovered edit → IsReadyRunning m → on_script edit m ≡ Ok n
    → AreCoveredRunning m n
covered_on edit m n reaches ready e =
    left_as (AreCoveredRunning m n) edit m n (λ t f is. subst (λ (x : Running). AreCoveredRunning m x) is (reaches m.script t ready f)) e

pub covered : IsKept IsReadyRunning AreCoveredRunning
covered = record {
  ready = λ m n c. c.ready;
  same = λ m ready. self covered_path m.script.draft ready;
  on = λ m n o a b. covered_path.composed m.script.draft n.script.draft o.script.draft a b;
  counted = λ m n ready e. covered_count m n ready e;
  plain = λ s m n ready e. covered_on (effect_of s) m n (effect_path covered_scripts s) ready e;
  does = λ command sent m n ready e. covered_on (on_draft (command_step command sent)) m n (command_reaches covered_scripts command sent) ready e;
  later = λ m n steps sent ready e. covered_count m n ready e;
}

pub covered_queue : IsOfScripts IsReadyRunning AreCoveredRunning
covered_queue m queue ready = self covered_path m.script.draft ready
