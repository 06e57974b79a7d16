-- No step takes more counts than there are: an instance of what holds of all that is made of steps.
use Rattle.std.proofs.Common.{◌≡◌, ◌∙◌, ◌+◌, ◌≤◌, ℕ, Bool, true, false, cond, eqb, List, length, Option, None, Some, Ok, refl, ap, arith}
use Rattle.std.specs.Option.{option_or}
use Rattle.std.proofs.lemmas.Bool.Decides.{eqb_tells}
use Rattle.lx_node.specs.Limits.{most_counts}
use Rattle.lx_node.specs.Strings.{characters_of}
use Rattle.lx_node.specs.declared.kind.Kind.{Kind}
use Rattle.lx_node.specs.declared.fields.Fields.{Fields}
use Rattle.lx_node.specs.declared.cause.Cause.{Cause}
use Rattle.lx_node.specs.declared.cause.Cause.TheVariants.{StepLimit}
use Rattle.lx_select.specs.declared.selection.Selection.{Selection}
use Rattle.lx_forest.specs.Forest.{Forest}
use Rattle.lx_links.specs.Faults.{unknown, set_fault, detach_fault}
use Rattle.lx_draft.specs.Working.{Working}
use Rattle.lx_draft.specs.Faults.{answer, over_counts, over_written, over_limits, put_fault, splice_fault}
use Rattle.lx_draft.specs.Steps.{marked_if, count_step, new_step, set_step, splice_step, take_step, put_step, mark_step, select_step}
use Rattle.lx_draft.proofs.Put.{both_none}
use Rattle.lx_edit.proofs.Climbed.{answered}
use Rattle.lx_edit.proofs.Counted.{Any}
use Rattle.lx_edit.proofs.Joined.{unrefused}
use Rattle.lx_edit.proofs.Paths.{IsPath}
use Rattle.lx_update.proofs.Paths.{IsScriptPath}

abbrev pub KeepsMost : Working → Working → Type 0
KeepsMost w v = w.counted ≤ most_counts → v.counted ≤ most_counts

one_within : (n most : ℕ) → n ≤ most → cond (eqb n most) (Some StepLimit) None ≡ None → n + 1 ≤ most
one_within n most few e = grind (arith, eqb_tells n most, few, e)

-- a count that was taken was left
counts_within : (w v x : Working) (first : Option Cause) → answer first x ≡ Ok v → (first ≡ None → over_counts w ≡ None) → x.counted ≡ w.counted + 1
    → KeepsMost w v
counts_within w v x first e left once few =
    let is : v.counted ≡ w.counted + 1 = ap (λ (y : Working). y.counted) (answered first x v e) ∙ once in
    let within : w.counted + 1 ≤ most_counts = one_within w.counted most_counts few (left (unrefused first x v e)) in
    omega (arith, is, within)

second_of : (first second : Option Cause) → option_or first second ≡ None → second ≡ None
second_of first second none = (both_none first second none).1

of_limits : (more : ℕ) (w : Working) → over_limits more w ≡ None → over_counts w ≡ None
of_limits more w none = (both_none (over_counts w) (over_written more w) none).0

marked_if-counted : (b : Bool) (f : Forest) (k : ℕ) (w : Working) → (marked_if b f k w).counted ≡ w.counted
marked_if-counted true f k w = refl
marked_if-counted false f k w = refl

new_within : (kind : Kind) (fields : Fields) (w v : Working) → new_step kind fields w ≡ Ok v → KeepsMost w v
unfolding new_step
new_within kind fields w v e = counts_within w v _ (over_limits (characters_of fields) w) e (of_limits (characters_of fields) w) refl

set_within : (k : ℕ) (fields : Fields) (w v : Working) → set_step k fields w ≡ Ok v → KeepsMost w v
unfolding set_step
set_within k fields w v e =
    counts_within w v _ (option_or (set_fault k fields w.forest) (over_limits (characters_of fields) w)) e
    (λ none. of_limits (characters_of fields) w (second_of (set_fault k fields w.forest) (over_limits (characters_of fields) w) none))
    (marked_if-counted _ w.forest k _)

splice_within : (k from to : ℕ) (new : List ℕ) (w v : Working) → splice_step k from to new w ≡ Ok v → KeepsMost w v
unfolding splice_step
splice_within k from to new w v e =
    counts_within w v _ (option_or (splice_fault k from to w.forest) (over_limits (length new) w)) e
    (λ none. of_limits (length new) w (second_of (splice_fault k from to w.forest) (over_limits (length new) w) none))
    (marked_if-counted _ w.forest k _)

take_within : (k : ℕ) (w v : Working) → take_step k w ≡ Ok v → KeepsMost w v
unfolding take_step
take_within k w v e = counts_within w v _ (option_or (detach_fault k w.forest) (over_counts w)) e (second_of (detach_fault k w.forest) (over_counts w)) refl

put_within : (k p index : ℕ) (w v : Working) → put_step k p index w ≡ Ok v → KeepsMost w v
unfolding put_step
put_within k p index w v e =
    counts_within w v _ (option_or (put_fault k p index w.forest) (over_counts w)) e (second_of (put_fault k p index w.forest) (over_counts w)) refl

within_path : IsPath Any KeepsMost (λ k. Unit {0})
within_path = record {
  ready = λ w v c. tt;
  selected = λ w s r few. few;
  composed = λ u v w a b few. b (a few);
  new = λ kind fields w v r e. new_within kind fields w v e;
  set = λ k fields w v r e. set_within k fields w v e;
  splice = λ k from to new w v r e. splice_within k from to new w v e;
  take = λ k w v r e. take_within k w v e;
  put = λ k p index w v may r e. put_within k p index w v e;
}

pub count_within : (w v : Working) → count_step w ≡ Ok v → KeepsMost w v
unfolding count_step
count_within w v e = counts_within w v _ (over_counts w) e (λ none. none) refl

mark_within : (k : ℕ) (w v : Working) → mark_step k w ≡ Ok v → KeepsMost w v
unfolding mark_step
mark_within k w v e = counts_within w v _ (option_or (unknown w.forest k) (over_counts w)) e (second_of (unknown w.forest k) (over_counts w)) refl

select_within : (s : Selection) (w v : Working) → select_step s w ≡ Ok v → KeepsMost w v
unfolding select_step
select_within s w v e few =
    let is : v.counted ≡ w.counted = ap (λ (y : Working). y.counted) (answered _ _ v e) in
    omega (arith, is, few)

pub within_scripts : IsScriptPath Any KeepsMost
within_scripts = record {
  path = within_path;
  count = λ w v d e. count_within w v e;
  mark = λ k w v d e. mark_within k w v e;
  select = λ s w v d e. select_within s w v e;
}
