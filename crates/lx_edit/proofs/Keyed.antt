-- The next key after a text was cut.
use Rattle.std.proofs.Common.{◌≡◌, ◌∙◌, ◌+◌, ℕ, Bool, true, false, List, [], Option, None, Some, Result, Ok, refl, sym, ap}
use Rattle.lx_node.specs.declared.kind.Kind.{Kind}
use Rattle.lx_node.specs.declared.kind.Kind.TheVariants.{Text}
use Rattle.lx_node.specs.declared.cause.Cause.{Cause}
use Rattle.lx_select.specs.Rules.{split_moves}
use Rattle.lx_node.specs.declared.fields.Fields.{Fields}
use Rattle.lx_forest.specs.Forest.{Forest}
use Rattle.lx_forest.specs.Lookups.{parent_of, index_of}
use Rattle.lx_draft.specs.Working.{Working}
use Rattle.lx_draft.specs.Steps.{new_step, splice_step, put_step, marked_if}
use Rattle.lx_draft.specs.Faults.{answer, after, splice_fault}
use Rattle.lx_draft.specs.Beside.{behind_at, put_behind_step}
use Rattle.lx_edit.specs.Conditions.{length_at}
use Rattle.lx_edit.specs.Edits.{pointed}
use Rattle.lx_edit.specs.Texts.{tail_of, tail_made, cut_in_two}
use Rattle.lx_edit.proofs.Climbed.{answered, first_part}

pub new-next_key : (kind : Kind) (fields : Fields) (w v : Working) → new_step kind fields w ≡ Ok v → v.next_key ≡ w.next_key + 1
unfolding new_step
new-next_key kind fields w v e = ap (λ x. x.next_key) (answered _ _ v e)

marked_if-next_key : (b : Bool) (f : Forest) (k : ℕ) (w : Working) → (marked_if b f k w).next_key ≡ w.next_key
marked_if-next_key true f k w = refl
marked_if-next_key false f k w = refl

pub splice-next_key : (k from to : ℕ) (new : List ℕ) (w v : Working) → splice_step k from to new w ≡ Ok v → v.next_key ≡ w.next_key
unfolding splice_step
splice-next_key k from to new w v e = ap (λ x. x.next_key) (answered _ _ v e) ∙ marked_if-next_key _ w.forest k _

pub put-next_key : (k p index : ℕ) (w v : Working) → put_step k p index w ≡ Ok v → v.next_key ≡ w.next_key
unfolding put_step
put-next_key k p index w v e = ap (λ x. x.next_key) (answered _ _ v e)

behind_at-next_key : (k other : ℕ) (p index : Option ℕ) (w v : Working) → behind_at k other p index w ≡ Ok v → v.next_key ≡ w.next_key
behind_at-next_key k other None index w v e = cc
behind_at-next_key k other (Some p) None w v e = cc
behind_at-next_key k other (Some p) (Some index) w v e = put-next_key k p (index + 1) w v e

pub behind-next_key : (k other : ℕ) (w v : Working) → put_behind_step k other w ≡ Ok v → v.next_key ≡ w.next_key
unfolding put_behind_step
behind-next_key k other w v e = behind_at-next_key k other (parent_of w.forest other) (index_of w.forest other) w v e

-- ---- a cut

tail-next_key : (k offset : ℕ) (w v : Working) → tail_made k offset w ≡ Ok v → v.next_key ≡ w.next_key + 1
unfolding tail_made
tail-next_key k offset w v e =
    let a = first_part (answer (splice_fault k offset (length_at w.forest k) w.forest) w)
    (λ x. after (new_step Text (tail_of x.forest k offset) x) (λ made. Ok (pointed (split_moves k offset x.next_key) made))) v e in
    let b = first_part (new_step Text (tail_of a.0.forest k offset) a.0) (λ made. Ok (pointed (split_moves k offset a.0.next_key) made)) v a.2 in
    let same : a.0 ≡ w = answered (splice_fault k offset (length_at w.forest k) w.forest) w a.0 a.1 in
    let made : pointed (split_moves k offset a.0.next_key) b.0 ≡ v =
    let f : ◌≡◌ {A = Result Working Cause} (Ok (pointed (split_moves k offset a.0.next_key) b.0)) (Ok v) = b.2 in cc in
    ap (λ (x : Working). x.next_key) (sym made) ∙ new-next_key Text (tail_of a.0.forest k offset) a.0 b.0 b.1 ∙ ap (λ (x : Working). x.next_key + 1) same

pub cut-next_key : (k offset : ℕ) (w v : Working) → cut_in_two k offset w ≡ Ok v → v.next_key ≡ w.next_key + 1
unfolding cut_in_two
cut-next_key k offset w v e =
    let a = first_part (tail_made k offset w) (λ made. after (splice_step k offset (length_at w.forest k) [] made) (put_behind_step w.next_key k)) v e in
    let b = first_part (splice_step k offset (length_at w.forest k) [] a.0) (put_behind_step w.next_key k) v a.2 in
    behind-next_key w.next_key k b.0 v b.2 ∙ splice-next_key k offset (length_at w.forest k) [] a.0 b.0 b.1 ∙ tail-next_key k offset w a.0 a.1
