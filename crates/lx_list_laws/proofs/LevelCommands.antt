-- The commands, where they go by one line alone, are steps at that line.
use Rattle.std.proofs.Common.{◌≡◌, ◌∙◌, ℕ, [], ◌∷◌, Result, Ok, sym, ap}
use Rattle.lx_node.specs.declared.cause.Cause.{Cause}
use Rattle.lx_draft.specs.Working.{Working}
use Rattle.lx_draft.specs.Faults.{after}
use Rattle.lx_edit.specs.InTurn.{in_turn}
use Rattle.lx_edit.proofs.Climbed.{first_part}
use Rattle.lx_blocks.specs.Lines.{selected_lines}
use Rattle.lx_list.specs.Lines.{step_if_there, each_line}
use Rattle.lx_list.specs.Indenting.{indented, indent_step}
use Rattle.lx_list.specs.Outdenting.{outdented, outdent_step}
use Rattle.lx_edit_laws.proofs.WrapSteps.{was_same}
use Rattle.lx_list_laws.specs.Levels.{GoesAndComes, SelectsAlone, CommandsGoAndCome}

at_line : (step : ℕ → Working → Result Working Cause) (x : ℕ) (w v : Working) → SelectsAlone x w → each_line step w ≡ Ok v → step x w ≡ Ok v
unfolding each_line in_turn
at_line step x w v s e =
    let lines : in_turn (step_if_there step) (selected_lines w.forest s.range) w ≡ Ok v =
    sym (ap (λ r. after r (λ range. in_turn (step_if_there step) (selected_lines w.forest range) w)) s.is) ∙ e in
    let one : in_turn (step_if_there step) (x ∷ []) w ≡ Ok v = sym (ap (λ ks. in_turn (step_if_there step) ks w) s.line) ∙ lines in
    let a = first_part (step_if_there step x w) (in_turn (step_if_there step) []) v one in
    let there : step_if_there step x w ≡ Ok v = a.1 ∙ ap Ok (was_same a.0 v a.2) in rw s.attached at there

pub commands_go : (x : ℕ) (w v u : Working) → CommandsGoAndCome x w v u → GoesAndComes x w v u
unfolding indent_step outdent_step
commands_go x w v u s = record {
  ready = s.ready;
  held = s.held;
  item = s.item;
  deeper = at_line indented x w v s.before s.deeper;
  up = at_line outdented x v u s.between s.up;
}
