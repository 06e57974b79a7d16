-- Steps that are refused only where no count is left, or too much would be written.
use Rattle.std.proofs.Common.{◌≡◌, ◌∙◌, ℕ, ◌≤◌, Bool, true, false, cond, List, [], ◌∷◌, length, Option, None, Some, Result, Ok, Err, refl, sym, ap, subst, arith, inl, inr}
use Rattle.std.specs.Prelude.{is_some}
use Rattle.std.specs.Option.{option_or}
use Rattle.lx_node.specs.Kinds.{may_hold}
use Rattle.lx_node.specs.Strings.{characters_of}
use Rattle.lx_node.specs.declared.kind.Kind.{Kind}
use Rattle.lx_node.specs.declared.fields.Fields.{Fields}
use Rattle.lx_node.specs.declared.cause.Cause.{Cause}
use Rattle.lx_node.specs.declared.cause.Cause.TheVariants.{StepLimit, TooLarge}
use Rattle.lx_node.specs.declared.cause.Limit.TheVariants.{Written}
use Rattle.lx_forest.specs.Forest.{Forest}
use Rattle.lx_forest.specs.Lookups.{label_of, kind_of, parent_of, size_of, holds, ancestors}
use Rattle.lx_forest.specs.Edits.{CanPut}
use Rattle.lx_forest.proofs.Lookups.{has-child}
use Rattle.lx_forest.proofs.Walks.{cases_option}
use Rattle.lx_links.specs.Faults.{set_fault, detach_fault, bound_to, misfit}
use Rattle.lx_draft.specs.Working.{Working}
use Rattle.lx_draft.specs.Faults.{answer, after, over_counts, over_written, over_limits, beyond, put_fault, splice_fault}
use Rattle.lx_draft.specs.Steps.{made, new_step, fields_written, set_points, set_step, label_with_piece, splice_points, splice_step, node_taken, take_step, node_placed, put_step}
use Rattle.lx_edit.specs.Edits.{goes_too, sent_away, removed, remove_step}
use Rattle.lx_edit.proofs.Climbed.{sent_away-forest}
use Rattle.lx_settle.specs.Exhausted.{is_exhausted}

-- a step whose every refusal is such
abbrev pub Exhausts : Result Working Cause → Type 0
Exhausts r = (cause : Cause) → r ≡ Err cause → is_exhausted cause ≡ true

-- ... and a condition
abbrev pub ExhaustsFor : Option Cause → Type 0
ExhaustsFor o = (cause : Cause) → o ≡ Some cause → is_exhausted cause ≡ true

pub exhausts_ok : (w : Working) → Exhausts (Ok w)
exhausts_ok w cause e = absurd (cc)

pub exhausts_then : (r : Result Working Cause) (next : Working → Result Working Cause) → Exhausts r → ((u : Working) → r ≡ Ok u → Exhausts (next u))
    → Exhausts (after r next)
exhausts_then (Ok u) next first second cause e = second u refl cause e
exhausts_then (Err other) next first second cause e = first cause e

pub exhausts_allowed : (o : Option Cause) (w : Working) (next : Working → Result Working Cause) → o ≡ None → Exhausts (next w)
    → Exhausts (after (answer o w) next)
exhausts_allowed None w next none c cause e = c cause e
exhausts_allowed (Some x) w next none c cause e = absurd (cc)

-- ---- limits

for_none : (o : Option Cause) → o ≡ None → ExhaustsFor o
for_none o none cause e = absurd (let both : ◌≡◌ {A = Option Cause} None (Some cause) = sym none ∙ e in cc)

for_either : (a b : Option Cause) → ExhaustsFor a → ExhaustsFor b → ExhaustsFor (option_or a b)
for_either None b first second cause e = second cause e
for_either (Some x) b first second cause e = first cause e

counts_by : (b : Bool) → ExhaustsFor (cond b (Some StepLimit) None)
counts_by true cause e = let same : StepLimit ≡ cause = cc in subst (λ c. is_exhausted c ≡ true) same refl
counts_by false cause e = absurd (cc)

written_by : (b : Bool) (n : ℕ) → ExhaustsFor (cond b (Some (TooLarge Written n)) None)
written_by true n cause e = let same : TooLarge Written n ≡ cause = cc in subst (λ c. is_exhausted c ≡ true) same refl
written_by false n cause e = absurd (cc)

for_counts : (w : Working) → ExhaustsFor (over_counts w)
for_counts w = counts_by _

for_limits : (more : ℕ) (w : Working) → ExhaustsFor (over_limits more w)
for_limits more w = for_either (over_counts w) (over_written more w) (for_counts w) (written_by _ _)

answered_for : (o : Option Cause) (w : Working) → ExhaustsFor o → Exhausts (answer o w)
answered_for None w h cause e = absurd (cc)
answered_for (Some x) w h cause e = let same : x ≡ cause = cc in h cause (ap (λ c. Some c) same)

-- ---- steps of a draft

pub new_exhausts : (kind : Kind) (fields : Fields) (w : Working) → Exhausts (new_step kind fields w)
unfolding new_step
new_exhausts kind fields w = answered_for (over_limits (characters_of fields) w) (made kind fields w) (for_limits (characters_of fields) w)

pub set_exhausts : (k : ℕ) (fields : Fields) (w : Working) → set_fault k fields w.forest ≡ None → Exhausts (set_step k fields w)
unfolding set_step
set_exhausts k fields w none =
    answered_for (option_or (set_fault k fields w.forest) (over_limits (characters_of fields) w))
    (fields_written k fields (characters_of fields) (set_points k fields) w)
    (for_either (set_fault k fields w.forest) (over_limits (characters_of fields) w) (for_none (set_fault k fields w.forest) none)
    (for_limits (characters_of fields) w))

pub splice_exhausts : (k from to : ℕ) (new : List ℕ) (w : Working) → splice_fault k from to w.forest ≡ None → Exhausts (splice_step k from to new w)
unfolding splice_step
splice_exhausts k from to new w none =
    answered_for (option_or (splice_fault k from to w.forest) (over_limits (length new) w))
    (fields_written k (label_with_piece (label_of w.forest k) from to new) (length new) (splice_points k from to new) w)
    (for_either (splice_fault k from to w.forest) (over_limits (length new) w) (for_none (splice_fault k from to w.forest) none) (for_limits (length new) w))

-- a node that is below another
detach_none : (f : Forest) (k p : ℕ) → parent_of f k ≡ Some p → detach_fault k f ≡ None
detach_none f k p below = rw (has-child f k p below, below) refl

pub take_exhausts : (k p : ℕ) (w : Working) → parent_of w.forest k ≡ Some p → Exhausts (take_step k w)
unfolding take_step
take_exhausts k p w below =
    answered_for (option_or (detach_fault k w.forest) (over_counts w)) (node_taken k w)
    (for_either (detach_fault k w.forest) (over_counts w) (for_none (detach_fault k w.forest) (detach_none w.forest k p below)) (for_counts w))

-- a place where it can be put, and its parent may hold it
pub misfit_none : (outer inner : Option Kind) → holds may_hold outer inner ≡ true → misfit outer inner ≡ None
misfit_none None inner e = refl
misfit_none (Some outer) None e = refl
misfit_none (Some outer) (Some inner) e = rw e refl

beyond_none : (f : Forest) (p index : ℕ) → index ≤ size_of f p → beyond f p index ≡ None
beyond_none f p index e = grind (arith, e)

pub bound_none : (f : Forest) (p k : ℕ) → CanPut p k f → bound_to f p k ≡ None
bound_none f p k can = grind (arith, can.other, can.detached, can.outside)

put_none : (k p index : ℕ) (f : Forest) → CanPut p k f → holds may_hold (kind_of f p) (kind_of f k) ≡ true → index ≤ size_of f p → put_fault k p index f ≡ None
put_none k p index f can fits within =
    rw (can.there, can.parent, bound_none f p k can, misfit_none (kind_of f p) (kind_of f k) fits) (beyond_none f p index within)

pub put_exhausts : (k p index : ℕ) (w : Working) → CanPut p k w.forest → holds may_hold (kind_of w.forest p) (kind_of w.forest k) ≡ true
    → index ≤ size_of w.forest p → Exhausts (put_step k p index w)
unfolding put_step
put_exhausts k p index w can fits within =
    answered_for (option_or (put_fault k p index w.forest) (over_counts w)) (node_placed k p index w)
    (for_either (put_fault k p index w.forest) (over_counts w) (for_none (put_fault k p index w.forest) (put_none k p index w.forest can fits within))
    (for_counts w))

-- ---- remove

some_parent : (f : Forest) (k : ℕ) → is_some (parent_of f k) ≡ true → (p : ℕ) × (parent_of f k ≡ Some p)
some_parent f k e = elim (cases_option (parent_of f k)) [
  | inl none ↦ absurd (grind (arith, none, e))
  | inr (p, is) ↦ (p, is)
]

sent_parent : (k p : ℕ) (w : Working) → parent_of w.forest k ≡ Some p → parent_of (sent_away k w).forest k ≡ Some p
sent_parent k p w below = ap (λ f. parent_of f k) (sent_away-forest k w) ∙ below

goes_on : (goes : Bool) (inner : Option Kind) (p : ℕ) (rest : List ℕ) (u : Working) → goes_too inner u.forest p ≡ goes
    → ((q : ℕ) → parent_of u.forest p ≡ Some q → Exhausts (removed p rest u)) → Exhausts (cond goes (removed p rest u) (Ok u))
goes_on true inner p rest u is next = let q = some_parent u.forest p (grind (arith, is)) in next q.0 q.1
goes_on false inner p rest u is next = exhausts_ok u

removed_exhausts : (k q : ℕ) (above : List ℕ) (w : Working) → parent_of w.forest k ≡ Some q → Exhausts (removed k above w)
removed_exhausts k q [] w below = take_exhausts k q (sent_away k w) (sent_parent k q w below)
removed_exhausts k q (p ∷ rest) w below =
    exhausts_then (take_step k (sent_away k w)) (λ u. cond (goes_too (kind_of w.forest k) u.forest p) (removed p rest u) (Ok u))
    (take_exhausts k q (sent_away k w) (sent_parent k q w below))
    (λ u e. goes_on (goes_too (kind_of w.forest k) u.forest p) (kind_of w.forest k) p rest u refl (λ x above. removed_exhausts p x rest u above))

pub remove_exhausts : (k p : ℕ) (w : Working) → parent_of w.forest k ≡ Some p → Exhausts (remove_step k w)
unfolding remove_step
remove_exhausts k p w below = removed_exhausts k p (ancestors w.forest k) w below
