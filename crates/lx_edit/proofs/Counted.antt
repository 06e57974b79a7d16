-- No edit takes counts back: an instance of what holds of all that is made of steps.
use Rattle.std.proofs.Common.{◌≡◌, ◌+◌, ◌≤◌, ℕ, Bool, true, false, List, length, refl, ap, arith, Ok, ◌∙◌}
use Rattle.lx_node.specs.Strings.{characters_of}
use Rattle.lx_node.specs.declared.kind.Kind.{Kind}
use Rattle.lx_node.specs.declared.fields.Fields.{Fields}
use Rattle.lx_select.specs.declared.selection.Selection.{Selection}
use Rattle.lx_forest.specs.Forest.{Forest}
use Rattle.lx_forest.specs.Lookups.{fields_of, label_of}
use Rattle.lx_draft.specs.Working.{Working}
use Rattle.lx_draft.specs.Steps.{differ, marked_if, fields_written, set_points, splice_points, label_with_piece, new_step, set_step, splice_step, put_step}
use Rattle.lx_edit.proofs.Climbed.{answered, taken-counted}
use Rattle.lx_edit.proofs.Paths.{IsPath}

-- at least as many counts were taken
abbrev pub KeepsCounts : Working → Working → Type 0
KeepsCounts w v = w.counted ≤ v.counted

-- any draft
abbrev pub Any : Working → Type 0
Any w = Unit {0}

one_more : (w v : Working) → v.counted ≡ w.counted + 1 → KeepsCounts w v
one_more w v e = omega (arith, e)

new-counted : (kind : Kind) (fields : Fields) (w v : Working) → new_step kind fields w ≡ Ok v → v.counted ≡ w.counted + 1
unfolding new_step
new-counted kind fields w v e = ap (λ (x : Working). x.counted) (answered _ _ v e)

marked-counted : (b : Bool) (f : Forest) (k : ℕ) (w : Working) → (marked_if b f k w).counted ≡ w.counted
marked-counted true f k w = refl
marked-counted false f k w = refl

refielded-counted : (k : ℕ) (fields : Fields) (more : ℕ) (moved : Selection → Selection) (w : Working)
    → (fields_written k fields more moved w).counted ≡ w.counted + 1
refielded-counted k fields more moved w = marked-counted (differ (fields_of w.forest k) fields) w.forest k _

set-counted : (k : ℕ) (fields : Fields) (w v : Working) → set_step k fields w ≡ Ok v → v.counted ≡ w.counted + 1
unfolding set_step
set-counted k fields w v e =
    ap (λ (x : Working). x.counted) (answered _ _ v e) ∙ refielded-counted k fields (characters_of fields) (set_points k fields) w

splice-counted : (k from to : ℕ) (new : List ℕ) (w v : Working) → splice_step k from to new w ≡ Ok v → v.counted ≡ w.counted + 1
unfolding splice_step
splice-counted k from to new w v e =
    ap (λ (x : Working). x.counted) (answered _ _ v e)
    ∙ refielded-counted k (label_with_piece (label_of w.forest k) from to new) (length new) (splice_points k from to new) w

put-counted : (k p index : ℕ) (w v : Working) → put_step k p index w ≡ Ok v → v.counted ≡ w.counted + 1
unfolding put_step
put-counted k p index w v e = ap (λ (x : Working). x.counted) (answered _ _ v e)

pub counted_path : IsPath Any KeepsCounts (λ k. Unit {0})
counted_path = record {
  ready = λ w v c. tt;
  selected = λ w s r. omega arith;
  composed = λ u v w a b. omega (arith, a, b);
  new = λ kind fields w v r e. one_more w v (new-counted kind fields w v e);
  set = λ k fields w v r e. one_more w v (set-counted k fields w v e);
  splice = λ k from to new w v r e. one_more w v (splice-counted k from to new w v e);
  take = λ k w v r e. one_more w v (taken-counted k w v e);
  put = λ k p index w v may r e. one_more w v (put-counted k p index w v e);
}
