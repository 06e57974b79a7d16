-- A text that is joined with what is around it: each removal and each joining takes counts, so that the number of times
-- is never used up.
use Rattle.std.proofs.Common.{◌≡◌, ◌∙◌, ◌+◌, ◌<◌, ◌≤◌, ℕ, zero, suc, Bool, true, false, cond, List, [], ◌∷◌, Option, None, Some, Result, Ok, Err, refl, ap, sym, subst, arith, eqb}
use Rattle.std.specs.Option.{option_or}
use Rattle.std.proofs.lemmas.Bool.Decides.{nat_tests}
use Rattle.lx_node.specs.declared.cause.Cause.{Cause}
use Rattle.lx_node.specs.declared.cause.Cause.TheVariants.{StepLimit}
use Rattle.lx_node.specs.declared.cause.Fault.{Fault}
use Rattle.lx_node.specs.Limits.{most_counts}
use Rattle.lx_draft.specs.Working.{Working}
use Rattle.lx_draft.specs.Faults.{answer, after, over_counts, text_in}
use Rattle.lx_edit.specs.Standing.{Refuses}
use Rattle.lx_edit.proofs.Standing.{refuses_all}
use Rattle.lx_draft.specs.Steps.{take_step, splice_step, marked_if}
use Rattle.lx_forest.specs.Forest.{Forest}
use Rattle.lx_forest.specs.Lookups.{kind_of, label_of, ancestors}
use Rattle.lx_select.specs.Rules.{join_moves}
use Rattle.lx_edit.specs.declared.around.Found.TheVariants.{Nothing, Empty, Alike}
use Rattle.lx_edit.specs.Edits.{pointed, sent_away, goes_too, removed, remove_step}
use Rattle.lx_edit.specs.Conditions.{length_at, join_fault}
use Rattle.lx_edit.specs.Texts.{enough, text_or_none, found_behind, found_before, joined_behind, joined_before, join_on, join_back, texts_joined, join_step}
use Rattle.lx_edit.proofs.Climbed.{answered, first_part, sent_away-counted}

-- ---- counts

-- more were taken, and not too many
pub record Grows (w v : Working) : Type 0 where
  pub more : w.counted < v.counted
  pub within : v.counted ≤ most_counts

pub unrefused : {A : Type 0} (o : Option Cause) (a v : A) → answer o a ≡ Ok v → o ≡ None
unrefused None a v e = refl
unrefused (Some cause) a v e = cc

second_none : (a b : Option Cause) → option_or a b ≡ None → b ≡ None
second_none None b e = e
second_none (Some cause) b e = cc

not_all : (n : ℕ) → n ≤ most_counts → cond (eqb n most_counts) (Some StepLimit) None ≡ None → n + 1 ≤ most_counts
not_all n few e = grind (arith, nat_tests, few, e)

-- what takes a count where one is left
counts_once : (first : Option Cause) (w v x : Working) → answer (option_or first (over_counts w)) x ≡ Ok v → x.counted ≡ w.counted + 1 → w.counted ≤ most_counts
    → Grows w v
counts_once first w v x e once few =
    let is : v.counted ≡ w.counted + 1 = ap (λ y. y.counted) (answered _ x v e) ∙ once in
    let left : w.counted + 1 ≤ most_counts = not_all w.counted few (second_none first (over_counts w) (unrefused _ x v e)) in
    record { more = omega (arith, is); within = omega (arith, is, left) }

take_grows : (k : ℕ) (w v : Working) → take_step k w ≡ Ok v → w.counted ≤ most_counts → Grows w v
unfolding take_step
take_grows k w v e few = counts_once _ w v _ e refl few

sent_grows : (k : ℕ) (w v : Working) → take_step k (sent_away k w) ≡ Ok v → w.counted ≤ most_counts → Grows w v
sent_grows k w v e few =
    let same : (sent_away k w).counted ≡ w.counted = sent_away-counted k w in
    let g : Grows (sent_away k w) v = take_grows k (sent_away k w) v e (omega (arith, same, few)) in
    record { more = omega (arith, same, g.more); within = g.within }

then_grows : (u w v : Working) → Grows u w → Grows w v → Grows u v
then_grows u w v a b = record { more = omega (arith, a.more, b.more); within = b.within }

ends_grow : (goes : Bool) (r : Result Working Cause) (u mid v : Working) → Grows u mid → (r ≡ Ok v → Grows mid v) → cond goes r (Ok mid) ≡ Ok v → Grows u v
ends_grow true r u mid v g more e = then_grows u mid v g (more e)
ends_grow false r u mid v g more e = subst (λ x. Grows u x) (grind (arith, e)) g

removed_grows : (k : ℕ) (above : List ℕ) (w v : Working) → removed k above w ≡ Ok v → w.counted ≤ most_counts → Grows w v
removed_grows k [] w v e few = sent_grows k w v e few
removed_grows k (p ∷ above) w v e few =
    let parts = first_part (take_step k (sent_away k w)) (λ x. cond (goes_too (kind_of w.forest k) x.forest p) (removed p above x) (Ok x)) v e in
    let g : Grows w parts.0 = sent_grows k w parts.0 parts.1 few in
    ends_grow (goes_too (kind_of w.forest k) parts.0.forest p) (removed p above parts.0) w parts.0 v g (λ more. removed_grows p above parts.0 v more g.within)
    parts.2

pub remove_grows : (k : ℕ) (w v : Working) → remove_step k w ≡ Ok v → w.counted ≤ most_counts → Grows w v
unfolding remove_step
remove_grows k w v e few = removed_grows k (ancestors w.forest k) w v e few

marked_if-counted : (b : Bool) (f : Forest) (k : ℕ) (w : Working) → (marked_if b f k w).counted ≡ w.counted
marked_if-counted true f k w = refl
marked_if-counted false f k w = refl

first_none : (a b : Option Cause) → option_or a b ≡ None → a ≡ None
first_none None b e = refl
first_none (Some cause) b e = cc

splice_grows : (k from to : ℕ) (new : List ℕ) (w v : Working) → splice_step k from to new w ≡ Ok v → w.counted ≤ most_counts → Grows w v
unfolding splice_step
splice_grows k from to new w v e few =
    let is : v.counted ≡ w.counted + 1 = ap (λ y. y.counted) (answered _ _ v e) ∙ marked_if-counted _ w.forest k _ in
    let left : w.counted + 1 ≤ most_counts = not_all w.counted few (first_none _ _ (second_none _ _ (unrefused _ _ v e))) in
    record { more = omega (arith, is); within = omega (arith, is, left) }

both_grow : (r : Result Working Cause) (next : Working → Result Working Cause) (u v : Working) → after r next ≡ Ok v
    → ((mid : Working) → r ≡ Ok mid → Grows u mid) → ((mid : Working) → Grows u mid → next mid ≡ Ok v → Grows mid v) → Grows u v
both_grow (Ok mid) next u v e one other = let g : Grows u mid = one mid refl in then_grows u mid v g (other mid g e)
both_grow (Err cause) next u v e one other = absurd (grind (arith, e))

joined_grows : (first second : ℕ) (w v : Working) → texts_joined first second w ≡ Ok v → w.counted ≤ most_counts → Grows w v
joined_grows first second w v e few =
    let end : ℕ = length_at w.forest first in
    let text : List ℕ = text_or_none (text_in (label_of w.forest second)) in
    both_grow (splice_step first end end text w) (λ x. take_step second (pointed (join_moves first end second) x)) w v e
    (λ mid made. splice_grows first end end text w mid made few)
    (λ mid g taken. let h : Grows (pointed (join_moves first end second) mid) v = take_grows second (pointed (join_moves first end second) mid) v taken
    g.within in
    record { more = h.more; within = h.within })

pub join_grows : (first second : ℕ) (w v : Working) → join_step first second w ≡ Ok v → w.counted ≤ most_counts → Grows w v
unfolding join_step
join_grows first second w v e few =
    let parts = first_part (answer (join_fault first second w.forest) w) (texts_joined first second) v e in
    let is : parts.0 ≡ w = answered _ w parts.0 parts.1 in
    joined_grows first second w v (ap (texts_joined first second) (sym is) ∙ parts.2) few

-- ---- times

-- what is left of a joining that comes to a whole, at a text
abbrev pub Left : (ℕ → ℕ → Working → Result Working Cause) → ℕ → Working → Result Working Cause → Type 0
Left joins k w whole = (n : ℕ) × (enough ≤ n + w.counted) × (joins n k w ≡ whole)

pub at_first : (joins : ℕ → ℕ → Working → Result Working Cause) (k : ℕ) (w : Working) → Left joins k w (joins enough k w)
at_first joins k w = (enough, omega arith, refl)

-- one more time
some_left : (n counted : ℕ) → enough ≤ n + counted → counted ≤ most_counts → (m : ℕ) × (n ≡ suc m)
some_left zero counted h few = absurd (omega (arith, h, few))
some_left (suc m) counted h few = (m, refl)

still_enough : (m n c d : ℕ) → enough ≤ n + c → n ≡ suc m → c < d → enough ≤ m + d
still_enough m n c d h is more = omega (arith, h, is, more)

-- ---- with what comes after

pub on_left : (k : ℕ) (w : Working) (whole : Result Working Cause) → w.counted ≤ most_counts → Left join_on k w whole
    → (m : ℕ) × (enough ≤ suc m + w.counted) × (joined_behind (found_behind w.forest k) k (join_on m k) w ≡ whole)
unfolding join_on
on_left k w whole few left =
    let m = some_left left.0 w.counted left.1 few in
    (m.0, subst (λ n. enough ≤ n + w.counted) m.1 left.1, ap (λ n. join_on n k w) (sym m.1) ∙ left.2)

pub on_done : (k : ℕ) (w : Working) (whole : Result Working Cause) → w.counted ≤ most_counts → Nothing ≡ found_behind w.forest k → Left join_on k w whole
    → whole ≡ Ok w
on_done k w whole few found left =
    let more = on_left k w whole few left in
    sym more.2 ∙ ap (λ f. joined_behind f k (join_on more.0 k) w) (sym found)

on_went : (k : ℕ) (w v : Working) (whole r : Result Working Cause) → w.counted ≤ most_counts
    → ((again : Working → Result Working Cause) → joined_behind (found_behind w.forest k) k again w ≡ after r again)
    → r ≡ Ok v → w.counted < v.counted → Left join_on k w whole → Left join_on k v whole
on_went k w v whole r few goes made grew left =
    let more = on_left k w whole few left in (
      more.0,
      still_enough more.0 (suc more.0) w.counted v.counted more.1 refl grew,
      sym (goes (join_on more.0 k) ∙ ap (λ x. after x (join_on more.0 k)) made) ∙ more.2,
    )

on_stopped : (k : ℕ) (w : Working) (whole r : Result Working Cause) {fault : Fault} {new : Working} → w.counted ≤ most_counts
    → ((again : Working → Result Working Cause) → joined_behind (found_behind w.forest k) k again w ≡ after r again)
    → Refuses r fault new → Left join_on k w whole → Refuses whole fault new
on_stopped k w whole r few goes refused left =
    let more = on_left k w whole few left in
    refuses_all (λ cause told. sym more.2 ∙ goes (join_on more.0 k) ∙ ap (λ x. after x (join_on more.0 k)) told) refused

on_empty : (k other : ℕ) (w : Working) → Empty other ≡ found_behind w.forest k → (again : Working → Result Working Cause)
    → joined_behind (found_behind w.forest k) k again w ≡ after (remove_step other w) again
on_empty k other w found again = ap (λ f. joined_behind f k again w) (sym found)

on_alike : (k other : ℕ) (w : Working) → Alike other ≡ found_behind w.forest k → (again : Working → Result Working Cause)
    → joined_behind (found_behind w.forest k) k again w ≡ after (join_step k other w) again
on_alike k other w found again = ap (λ f. joined_behind f k again w) (sym found)

pub on_removed : (k other : ℕ) (w v : Working) (whole : Result Working Cause) → w.counted ≤ most_counts → Empty other ≡ found_behind w.forest k
    → remove_step other w ≡ Ok v → Left join_on k w whole → Left join_on k v whole
on_removed k other w v whole few found made left =
    on_went k w v whole (remove_step other w) few (on_empty k other w found) made (remove_grows other w v made few).more left

pub on_joined : (k other : ℕ) (w v : Working) (whole : Result Working Cause) → w.counted ≤ most_counts → Alike other ≡ found_behind w.forest k
    → join_step k other w ≡ Ok v → Left join_on k w whole → Left join_on k v whole
on_joined k other w v whole few found made left =
    on_went k w v whole (join_step k other w) few (on_alike k other w found) made (join_grows k other w v made few).more left

pub on_removing : (k other : ℕ) (w : Working) (whole : Result Working Cause) {fault : Fault} {new : Working} → w.counted ≤ most_counts
    → Empty other ≡ found_behind w.forest k → Refuses (remove_step other w) fault new → Left join_on k w whole → Refuses whole fault new
on_removing k other w whole few found told left = on_stopped k w whole (remove_step other w) few (on_empty k other w found) told left

pub on_joining : (k other : ℕ) (w : Working) (whole : Result Working Cause) {fault : Fault} {new : Working} → w.counted ≤ most_counts
    → Alike other ≡ found_behind w.forest k → Refuses (join_step k other w) fault new → Left join_on k w whole → Refuses whole fault new
on_joining k other w whole few found told left = on_stopped k w whole (join_step k other w) few (on_alike k other w found) told left

-- ---- before

back_left : (k : ℕ) (w : Working) (whole : Result Working Cause) → w.counted ≤ most_counts → Left join_back k w whole
    → (m : ℕ) × (enough ≤ suc m + w.counted) × (joined_before (found_before w.forest k) k (join_back m) (join_on enough k) w ≡ whole)
unfolding join_back
back_left k w whole few left =
    let m = some_left left.0 w.counted left.1 few in
    (m.0, subst (λ n. enough ≤ n + w.counted) m.1 left.1, ap (λ n. join_back n k w) (sym m.1) ∙ left.2)

pub back_done : (k : ℕ) (w : Working) (whole : Result Working Cause) → w.counted ≤ most_counts → Nothing ≡ found_before w.forest k → Left join_back k w whole
    → join_on enough k w ≡ whole
back_done k w whole few found left =
    let more = back_left k w whole few left in
    ap (λ f. joined_before f k (join_back more.0) (join_on enough k) w) found ∙ more.2

abbrev GoesBack : ℕ → ℕ → Working → Result Working Cause → Type 0
GoesBack k j w r =
    (again : ℕ → Working → Result Working Cause) (last : Working → Result Working Cause)
    → joined_before (found_before w.forest k) k again last w ≡ after r (again j)

back_went : (k j : ℕ) (w v : Working) (whole r : Result Working Cause) → w.counted ≤ most_counts → GoesBack k j w r → r ≡ Ok v → w.counted < v.counted
    → Left join_back k w whole → Left join_back j v whole
back_went k j w v whole r few goes made grew left =
    let more = back_left k w whole few left in (
      more.0,
      still_enough more.0 (suc more.0) w.counted v.counted more.1 refl grew,
      sym (goes (join_back more.0) (join_on enough k) ∙ ap (λ x. after x (join_back more.0 j)) made) ∙ more.2,
    )

back_stopped : (k j : ℕ) (w : Working) (whole r : Result Working Cause) {fault : Fault} {new : Working} → w.counted ≤ most_counts → GoesBack k j w r
    → Refuses r fault new → Left join_back k w whole → Refuses whole fault new
back_stopped k j w whole r few goes refused left =
    let more = back_left k w whole few left in
    refuses_all (λ cause told. sym more.2 ∙ goes (join_back more.0) (join_on enough k) ∙ ap (λ x. after x (join_back more.0 j)) told) refused

back_empty : (k other : ℕ) (w : Working) → Empty other ≡ found_before w.forest k → GoesBack k k w (remove_step other w)
back_empty k other w found again last = ap (λ f. joined_before f k again last w) (sym found)

back_alike : (k other : ℕ) (w : Working) → Alike other ≡ found_before w.forest k → GoesBack k other w (join_step other k w)
back_alike k other w found again last = ap (λ f. joined_before f k again last w) (sym found)

pub back_removed : (k other : ℕ) (w v : Working) (whole : Result Working Cause) → w.counted ≤ most_counts → Empty other ≡ found_before w.forest k
    → remove_step other w ≡ Ok v → Left join_back k w whole → Left join_back k v whole
back_removed k other w v whole few found made left =
    back_went k k w v whole (remove_step other w) few (back_empty k other w found) made (remove_grows other w v made few).more left

pub back_joined : (k other : ℕ) (w v : Working) (whole : Result Working Cause) → w.counted ≤ most_counts → Alike other ≡ found_before w.forest k
    → join_step other k w ≡ Ok v → Left join_back k w whole → Left join_back other v whole
back_joined k other w v whole few found made left =
    back_went k other w v whole (join_step other k w) few (back_alike k other w found) made (join_grows other k w v made few).more left

pub back_removing : (k other : ℕ) (w : Working) (whole : Result Working Cause) {fault : Fault} {new : Working} → w.counted ≤ most_counts
    → Empty other ≡ found_before w.forest k → Refuses (remove_step other w) fault new → Left join_back k w whole → Refuses whole fault new
back_removing k other w whole few found told left = back_stopped k k w whole (remove_step other w) few (back_empty k other w found) told left

pub back_joining : (k other : ℕ) (w : Working) (whole : Result Working Cause) {fault : Fault} {new : Working} → w.counted ≤ most_counts
    → Alike other ≡ found_before w.forest k → Refuses (join_step other k w) fault new → Left join_back k w whole → Refuses whole fault new
back_joining k other w whole few found told left = back_stopped k other w whole (join_step other k w) few (back_alike k other w found) told left
