-- An index is looked for only where a point is on the node.
use Rattle.std.proofs.Common.{ℕ, ◌≡◌, ◌∙◌, false, Option, None, Some, refl, sym, ap}
use Rattle.lx_forest.specs.Lookups.{parent_of, index_of}
use Rattle.lx_select.specs.declared.selection.Selection.{Selection}
use Rattle.lx_select.specs.Selection.{has_point_on, ends_of}
use Rattle.lx_select.specs.Rules.{carry_moves}
use Rattle.lx_select.proofs.Apart.{carried-apart}
use Rattle.lx_draft.specs.Working.{Working}
use Rattle.lx_edit.specs.Edits.{brought_up}
use Rattle.lx_edit.specs.Brought.{BringsUp}

pub brought_same : (k : ℕ) (w : Working) (index : Option ℕ) → index ≡ index_of w.forest k → BringsUp k w index
brought_same k w index e = record { same = λ v. ap (λ i. brought_up k (parent_of w.forest k) i (ends_of w.selection) v) e }

-- where none is, nothing is brought up
nothing_brought : (k : ℕ) (p index : Option ℕ) (s : Selection) (v : Working) → has_point_on k s ≡ false → brought_up k p index (ends_of s) v ≡ v
nothing_brought k (Some p) (Some index) s v e = ap (λ now. record v { selection = now }) (carried-apart k (carry_moves k p index) s v.selection e)
nothing_brought k None index s v e = refl
nothing_brought k (Some p) None s v e = refl

pub brought_apart : (k : ℕ) (w : Working) (index : Option ℕ) → has_point_on k w.selection ≡ false → index ≡ None → BringsUp k w index
brought_apart k w index away none =
    record {
      same = λ v. nothing_brought k (parent_of w.forest k) index w.selection v away
          ∙ sym (nothing_brought k (parent_of w.forest k) (index_of w.forest k) w.selection v away);
    }
