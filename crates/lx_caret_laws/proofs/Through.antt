-- A command that first removes what is selected from one text to another, and then goes on at the caret.
use Rattle.lx_blocks.specs.Ranges.{if_normal, lies, normal_at}
use Rattle.lx_caret.proofs.Fit.{after_tells}
use Rattle.lx_caret.specs.Lying.{EachPoint}
use Rattle.lx_caret.specs.Removing.{remove_text_step}
use Rattle.lx_caret_laws.proofs.SelectedOver.{AllOver, all_over}
use Rattle.lx_caret_laws.proofs.TypedOver.{normal_mode, removes_nothing}
use Rattle.lx_caret_laws.specs.Carets.{IsSound}
use Rattle.lx_caret_laws.specs.Spans.{IsSelectedOver}
use Rattle.lx_draft.specs.Faults.{after, text_in}
use Rattle.lx_draft.specs.Working.{Working}
use Rattle.lx_edit.specs.Edits.{text_point}
use Rattle.lx_forest.specs.Lookups.{label_of}
use Rattle.lx_node.specs.Limits.{most_written}
use Rattle.lx_node.specs.declared.cause.Cause.{Cause}
use Rattle.lx_node.specs.declared.cause.Point.{Point}
use Rattle.lx_node.specs.declared.fields.TextFields.{TextFields}
use Rattle.lx_text.specs.Texts.{front_of}
use Rattle.std.proofs.Common.{None, Ok, Result, Some, ap, cond, subst, sym, true, ℕ, ◌∙◌, ◌≡◌, ◌≤◌}

-- the draft between: what is selected was removed, and the same command goes on at the caret
pub record Through {A : Type 0} (s e i j format : ℕ) (one other : TextFields) (next : Working → Result A Cause) (w : Working) (v : A) : Type 0 where
  pub draft : Working
  pub over : AllOver s e i j format one other w draft
  pub normal : normal_at draft.forest s ≡ Some (record one { text = front_of i one.text })
  pub sound : IsSound draft
  pub again : after (remove_text_step draft) next ≡ Ok v

pub through : {A : Type 0} (next : Working → Result A Cause) (s e i j format : ℕ) (one other : TextFields) (w : Working) (v : A)
    → IsSelectedOver s e i j format one other w → after (remove_text_step w) next ≡ Ok v → Through s e i j format one other next w v
through next s e i j format one other w v is done =
    let first = after_tells (remove_text_step w) next v done in
    let u : Working = first.0 in
    let o = all_over s e i j format one other w u is first.1.0 in
    let start : Point = text_point s i in
    let place : lies u.forest start ≡ true = (subst (EachPoint (λ p. lies u.forest p ≡ true)) o.caret o.fit.lying).0 in
    let left : TextFields = record one { text = front_of i one.text } in
    record {
      draft = u;
      over = o;
      normal = ap (λ l. if_normal (text_in l)) o.over.first
          ∙ ap (λ b. cond b (Some left) None) (normal_mode (text_in (label_of w.forest s)) one is.first_normal);
      sound = record {
        ready = o.fit.ready;
        held = o.fit.held;
        short = o.fit.short;
        written = subst (λ n. n ≤ most_written) (sym o.over.written) is.sound.written;
      };
      again = ap (λ x. after x next) (removes_nothing start format u o.caret place) ∙ first.1.1;
    }
