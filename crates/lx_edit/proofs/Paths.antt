-- What holds of each step of a draft, and of one after another, holds of what is made of steps. Of puts only those need be
-- such whose key is among some.
use Rattle.std.proofs.Common.{◌≡◌, ◌∙◌, ℕ, zero, suc, ◌+◌, ◌-◌, Bool, true, false, cond, List, [], ◌∷◌, length, Option, None, Some, Result, Ok, Err, refl, sym, ap, subst, arith}
use Rattle.std.proofs.lemmas.Bool.Decides.{eqb_tells}
use Rattle.lx_trees.specs.Siblings.{is_among}
use Rattle.lx_node.specs.declared.kind.Kind.{Kind}
use Rattle.lx_node.specs.declared.kind.Kind.TheVariants.{Text}
use Rattle.lx_node.specs.declared.fields.Fields.{Fields}
use Rattle.lx_node.specs.declared.cause.Cause.{Cause}
use Rattle.lx_node.specs.declared.cause.Point.{Point}
use Rattle.lx_select.specs.declared.selection.Selection.{Selection}
use Rattle.lx_select.specs.Selection.{each_point, ends_of}
use Rattle.lx_select.specs.Rules.{replace_moves, split_moves, join_moves}
use Rattle.lx_forest.specs.Lookups.{label_of, kind_of, fields_of, parent_of, children_of, size_of, index_of, ancestors}
use Rattle.lx_links.specs.Faults.{unknown}
use Rattle.lx_draft.specs.Working.{Working}
use Rattle.lx_draft.specs.Selecting.{text_of}
use Rattle.lx_draft.specs.Faults.{answer, after, text_in, splice_fault}
use Rattle.lx_draft.specs.Steps.{new_step, set_step, splice_step, take_step, put_step}
use Rattle.lx_draft.specs.Beside.{before_at, put_before_step, behind_at, put_behind_step}
use Rattle.lx_edit.specs.declared.around.Found.{Found}
use Rattle.lx_edit.specs.declared.around.Found.TheVariants.{Nothing, Empty, Alike}
use Rattle.lx_edit.specs.InTurn.{in_turn}
use Rattle.lx_edit.specs.Conditions.{length_at, children_fault, replace_fault, wrap_fault, unwrap_fault, split_fault, join_fault}
use Rattle.lx_edit.specs.Edits.{pointed, moved_before, moved_behind, moved_to_end, sent_from, sent_away, goes_too, removed, remove_step, brought, children_moved, children_step, kept, texts_pointed, replace_step, wrap_step, brought_up, unwrapped, unwrap_step}
use Rattle.lx_edit.specs.Texts.{tail_of, tail_made, cut_in_two, cut_at, split_step, keys_from, text_or_none, texts_joined, join_step, simple_at, found_before, found_behind, enough, joined_behind, join_on, joined_before, join_back, emptiness, join_simple, joined_around, join_around_step}
use Rattle.lx_edit.proofs.Keyed.{cut-next_key}

-- A relation of a draft to what it became, that holds of each step and composes. A step may rely on D, which holds again after
-- each, and puts a key only where P holds of it. What moves the selection alone counts as a step.
pub record IsPath (D : Working → Type 0) (R : Working → Working → Type 0) (P : ℕ → Type 0) : Type 0 where
  pub ready : (w v : Working) → R w v → D v
  pub selected : (w : Working) (s : Selection) → D w → R w (record w { selection = s })
  pub composed : (u v w : Working) → R u v → R v w → R u w
  pub new : (kind : Kind) (fields : Fields) (w v : Working) → D w → new_step kind fields w ≡ Ok v → R w v
  pub set : (k : ℕ) (fields : Fields) (w v : Working) → D w → set_step k fields w ≡ Ok v → R w v
  pub splice : (k from to : ℕ) (new : List ℕ) (w v : Working) → D w → splice_step k from to new w ≡ Ok v → R w v
  pub take : (k : ℕ) (w v : Working) → D w → take_step k w ≡ Ok v → R w v
  pub put : (k p index : ℕ) (w v : Working) → P k → D w → put_step k p index w ≡ Ok v → R w v

-- a step whose every result is such
abbrev pub Leads : (Working → Type 0) → (Working → Working → Type 0) → (Working → Result Working Cause) → Type 0
Leads D R step = (w v : Working) → D w → step w ≡ Ok v → R w v

-- ---- one after another

pub self : {D : Working → Type 0} {R : Working → Working → Type 0} {P : ℕ → Type 0} → IsPath D R P → (w : Working) → D w → R w w
self path w r = path.selected w w.selection r

pub then : {D : Working → Type 0} {R : Working → Working → Type 0} {P : ℕ → Type 0} → IsPath D R P
    → (w v : Working) (r : Result Working Cause) (next : Working → Result Working Cause) → ((u : Working) → r ≡ Ok u → R w u)
    → ((u : Working) → R w u → next u ≡ Ok v → R u v) → after r next ≡ Ok v → R w v
then path w v (Ok u) next first second e = let a = first u refl in path.composed w u v a (second u a e)
then path w v (Err cause) next first second e = absurd (cc)

-- the same where the second step needs to know what the first one was
pub then_from : {D : Working → Type 0} {R : Working → Working → Type 0} {P : ℕ → Type 0} → IsPath D R P
    → (w v : Working) (r : Result Working Cause) (next : Working → Result Working Cause) → ((u : Working) → r ≡ Ok u → R w u)
    → ((u : Working) → r ≡ Ok u → R w u → next u ≡ Ok v → R u v) → after r next ≡ Ok v → R w v
then_from path w v (Ok u) next first second e = let a = first u refl in path.composed w u v a (second u refl a e)
then_from path w v (Err cause) next first second e = absurd (cc)

pub ok : (R : Working → Working → Type 0) → (w u v : Working) → R w u → ◌≡◌ {A = Result Working Cause} (Ok u) (Ok v) → R w v
ok R w u v a e = let is : u ≡ v = cc in subst (R w) is a

pub from_ : {D : Working → Type 0} {R : Working → Working → Type 0} {P : ℕ → Type 0} → IsPath D R P → (w u v : Working) (step : Working → Result Working Cause)
    → R w u → Leads D R step → step u ≡ Ok v → R w v
from_ path w u v step a c e = path.composed w u v a (c u v (path.ready w u a) e)

pub allowed : (R : Working → Working → Type 0) → (w v : Working) (o : Option Cause) (next : Working → Result Working Cause) → (next w ≡ Ok v → R w v)
    → after (answer o w) next ≡ Ok v → R w v
allowed R w v None next c e = c e
allowed R w v (Some cause) next c e = absurd (cc)

pub if_ : {D : Working → Type 0} {R : Working → Working → Type 0} {P : ℕ → Type 0} → IsPath D R P
    → (taken : Bool) (step : Working → Result Working Cause) (w v : Working) → D w → Leads D R step → cond taken (step w) (Ok w) ≡ Ok v → R w v
if_ path true step w v r c e = c w v r e
if_ {R = R} path false step w v r c e = ok R w w v (self path w r) e

pub points : {D : Working → Type 0} {R : Working → Working → Type 0} {P : ℕ → Type 0} → IsPath D R P → (moved : Point → Point) (w : Working) → D w
    → R w (pointed moved w)
points path moved w r = path.selected w (each_point moved w.selection) r

-- a step for each of a list
pub every : {A : Type 0} {D : Working → Type 0} {R : Working → Working → Type 0} {P : ℕ → Type 0} → IsPath D R P
    → (step : A → Working → Result Working Cause) (list : List A) → ((a : A) → Leads D R (step a)) → Leads D R (in_turn step list)
unfolding in_turn
every {R = R} path step [] each w v r e = ok R w w v (self path w r) e
every path step (a ∷ rest) each w v r e =
    then path w v (step a w) (in_turn step rest) (λ u f. each a w u r f) (λ u b f. every path step rest each u v (path.ready w u b) f) e

-- a step for each key of a list, which may rely on what holds of those
pub turns : {D : Working → Type 0} {R : Working → Working → Type 0} {P : ℕ → Type 0} → IsPath D R P
    → (step : ℕ → Working → Result Working Cause) (list : List ℕ) → ((k : ℕ) → is_among k list ≡ true → Leads D R (step k)) → Leads D R (in_turn step list)
unfolding in_turn
turns {R = R} path step [] each w v r e = ok R w w v (self path w r) e
turns path step (k ∷ rest) each w v r e =
    then path w v (step k w) (in_turn step rest) (λ u f. each k (grind (arith, eqb_tells k k)) w u r f)
    (λ u a f. turns path step rest (λ q among. each q (grind (arith, among))) u v (path.ready w u a) f) e

-- ---- places

before_at_path : {D : Working → Type 0} {R : Working → Working → Type 0} {P : ℕ → Type 0} → IsPath D R P → (k other : ℕ) (p index : Option ℕ) → P k
    → Leads D R (before_at k other p index)
before_at_path path k other (Some p) (Some index) may w v r e = path.put k p index w v may r e
before_at_path path k other _ _ may w v r e = absurd (cc)

pub put_before_path : {D : Working → Type 0} {R : Working → Working → Type 0} {P : ℕ → Type 0} → IsPath D R P → (k other : ℕ) → P k
    → Leads D R (put_before_step k other)
unfolding put_before_step
put_before_path path k other may w v r e = before_at_path path k other (parent_of w.forest other) (index_of w.forest other) may w v r e

behind_at_path : {D : Working → Type 0} {R : Working → Working → Type 0} {P : ℕ → Type 0} → IsPath D R P → (k other : ℕ) (p index : Option ℕ) → P k
    → Leads D R (behind_at k other p index)
behind_at_path path k other (Some p) (Some index) may w v r e = path.put k p (index + 1) w v may r e
behind_at_path path k other _ _ may w v r e = absurd (cc)

pub put_behind_path : {D : Working → Type 0} {R : Working → Working → Type 0} {P : ℕ → Type 0} → IsPath D R P → (k other : ℕ) → P k
    → Leads D R (put_behind_step k other)
unfolding put_behind_step
put_behind_path path k other may w v r e = behind_at_path path k other (parent_of w.forest other) (index_of w.forest other) may w v r e

pub moved_before_path : {D : Working → Type 0} {R : Working → Working → Type 0} {P : ℕ → Type 0} → IsPath D R P → (other k : ℕ) → P k
    → Leads D R (moved_before other k)
unfolding moved_before
moved_before_path path other k may w v r e =
    then path w v (take_step k w) (put_before_step k other) (λ u f. path.take k w u r f) (λ u a f. put_before_path path k other may u v (path.ready w u a) f) e

pub moved_behind_path : {D : Working → Type 0} {R : Working → Working → Type 0} {P : ℕ → Type 0} → IsPath D R P → (other k : ℕ) → P k
    → Leads D R (moved_behind other k)
unfolding moved_behind
moved_behind_path path other k may w v r e =
    then path w v (take_step k w) (put_behind_step k other) (λ u f. path.take k w u r f) (λ u a f. put_behind_path path k other may u v (path.ready w u a) f) e

pub moved_to_end_path : {D : Working → Type 0} {R : Working → Working → Type 0} {P : ℕ → Type 0} → IsPath D R P → (parent k : ℕ) → P k
    → Leads D R (moved_to_end parent k)
unfolding moved_to_end
moved_to_end_path path parent k may w v r e =
    then path w v (take_step k w) (λ u. put_step k parent (size_of u.forest parent) u) (λ u f. path.take k w u r f)
    (λ u a f. path.put k parent (size_of u.forest parent) u v may (path.ready w u a) f) e

-- ---- remove

pub sent_from_path : {D : Working → Type 0} {R : Working → Working → Type 0} {P : ℕ → Type 0} → IsPath D R P → (k : ℕ) (p index : Option ℕ) (w : Working) → D w
    → R w (sent_from k p index w)
sent_from_path path k (Some p) (Some index) w r = points path _ w r
sent_from_path path k _ _ w r = self path w r

sent_path : {D : Working → Type 0} {R : Working → Working → Type 0} {P : ℕ → Type 0} → IsPath D R P → (k : ℕ) (w v : Working) → D w
    → take_step k (sent_away k w) ≡ Ok v → R w v
unfolding sent_away
sent_path path k w v r e =
    from_ path w (sent_away k w) v (take_step k) (sent_from_path path k (parent_of w.forest k) (index_of w.forest k) w r) (λ x y s f. path.take k x y s f) e

pub removed_path : {D : Working → Type 0} {R : Working → Working → Type 0} {P : ℕ → Type 0} → IsPath D R P → (k : ℕ) (above : List ℕ)
    → Leads D R (removed k above)
removed_path path k [] w v r e = sent_path path k w v r e
removed_path path k (p ∷ above) w v r e =
    then path w v (take_step k (sent_away k w)) (λ u. cond (goes_too (kind_of w.forest k) u.forest p) (removed p above u) (Ok u))
    (λ u f. sent_path path k w u r f)
    (λ u a f. if_ path (goes_too (kind_of w.forest k) u.forest p) (removed p above) u v (path.ready w u a) (removed_path path p above) f) e

pub remove_path : {D : Working → Type 0} {R : Working → Working → Type 0} {P : ℕ → Type 0} → IsPath D R P → (k : ℕ) → Leads D R (remove_step k)
unfolding remove_step
remove_path path k w v r e = removed_path path k (ancestors w.forest k) w v r e

-- ---- children

brought_path : {D : Working → Type 0} {R : Working → Working → Type 0} {P : ℕ → Type 0} → IsPath D R P
    → (from to at : ℕ) (before : Option (Point × Point)) (w : Working) → D w → R w (brought from to at before w)
brought_path path from to at before w r = path.selected w (brought from to at before w).selection r

pub children_moved_path : {D : Working → Type 0} {R : Working → Working → Type 0} {P : ℕ → Type 0} → IsPath D R P → (from to : ℕ) (w v : Working) → D w
    → ((k : ℕ) → is_among k (children_of w.forest from) ≡ true → P k) → children_moved from to w ≡ Ok v → R w v
children_moved_path {R = R} path from to w v r may e =
    then path w v (in_turn (moved_to_end to) (children_of w.forest from) w) (λ u. Ok (brought from to (size_of w.forest to) (ends_of w.selection) u))
    (λ u f. turns path (moved_to_end to) (children_of w.forest from) (λ k among. moved_to_end_path path to k (may k among)) w u r f)
    (λ u a f. ok R u (brought from to (size_of w.forest to) (ends_of w.selection) u) v
    (brought_path path from to (size_of w.forest to) (ends_of w.selection) u (path.ready w u a)) f) e

pub children_path : {D : Working → Type 0} {R : Working → Working → Type 0} {P : ℕ → Type 0} → IsPath D R P → (from to : ℕ) (w v : Working) → D w
    → ((k : ℕ) → is_among k (children_of w.forest from) ≡ true → P k) → children_step from to w ≡ Ok v → R w v
unfolding children_step
children_path {R = R} path from to w v r may e =
    allowed R w v (children_fault from to w.forest) (children_moved from to) (λ f. children_moved_path path from to w v r may f) e

-- ---- replace and wrap

kept_path : {D : Working → Type 0} {R : Working → Working → Type 0} {P : ℕ → Type 0} → IsPath D R P → (keep : Bool) (k with : ℕ) (w v : Working) → D w
    → (keep ≡ true → (c : ℕ) → is_among c (children_of w.forest k) ≡ true → P c) → kept keep k with w ≡ Ok v → R w v
kept_path {R = R} path false k with w v r may e = ok R w w v (self path w r) e
kept_path path true k with w v r may e = children_path path k with w v r (may refl) e

points_if_path : {D : Working → Type 0} {R : Working → Working → Type 0} {P : ℕ → Type 0} → IsPath D R P → (both : Bool) (moved : Point → Point) (w : Working)
    → D w → R w (cond both (pointed moved w) w)
points_if_path path true moved w r = points path moved w r
points_if_path path false moved w r = self path w r

pub texts_pointed_path : {D : Working → Type 0} {R : Working → Working → Type 0} {P : ℕ → Type 0} → IsPath D R P → (k with : ℕ) (w : Working) → D w
    → R w (texts_pointed k with w)
unfolding texts_pointed
texts_pointed_path path k with w r = points_if_path path _ (replace_moves k with (text_of (fields_of w.forest with))) w r

-- the children that go are those that the first has when the second was put beside it
pub replace_path : {D : Working → Type 0} {R : Working → Working → Type 0} {P : ℕ → Type 0} → IsPath D R P → (k with : ℕ) (keep : Bool) (w v : Working) → D w
    → P with
    → ((u : Working) → put_before_step with k w ≡ Ok u → keep ≡ true → (c : ℕ) → is_among c (children_of u.forest k) ≡ true → P c)
    → replace_step k with keep w ≡ Ok v → R w v
unfolding replace_step
replace_path {R = R} path k with keep w v r may_with may e =
    allowed R w v (replace_fault k with keep w.forest)
    (λ a. after (put_before_step with k a) (λ b. after (kept keep k with b) (λ c. remove_step k (texts_pointed k with c)))) (λ f.
    then_from path w v (put_before_step with k w) (λ b. after (kept keep k with b) (λ c. remove_step k (texts_pointed k with c)))
    (λ b g. put_before_path path with k may_with w b r g)
    (λ b put a g. then path b v (kept keep k with b) (λ c. remove_step k (texts_pointed k with c))
    (λ c h. kept_path path keep k with b c (path.ready w b a) (may b put) h)
    (λ c d h. from_ path c (texts_pointed k with c) v (remove_step k) (texts_pointed_path path k with c (path.ready b c d)) (remove_path path k) h) g) f) e

pub wrap_path : {D : Working → Type 0} {R : Working → Working → Type 0} {P : ℕ → Type 0} → IsPath D R P → (k outer : ℕ) → P outer → P k
    → Leads D R (wrap_step k outer)
unfolding wrap_step
wrap_path {R = R} path k outer may_outer may w v r e =
    allowed R w v (wrap_fault k outer w.forest) (λ a. after (put_before_step outer k a) (moved_to_end outer k)) (λ f.
    then path w v (put_before_step outer k w) (moved_to_end outer k) (λ u g. put_before_path path outer k may_outer w u r g)
    (λ u a g. moved_to_end_path path outer k may u v (path.ready w u a) g) f) e

-- ---- unwrap

brought_up_path : {D : Working → Type 0} {R : Working → Working → Type 0} {P : ℕ → Type 0} → IsPath D R P
    → (k : ℕ) (p index : Option ℕ) (before : Option (Point × Point)) (w : Working) → D w → R w (brought_up k p index before w)
brought_up_path path k (Some p) (Some index) before w r = brought_path path k p index before w r
brought_up_path path k _ _ before w r = self path w r

pub unwrapped_path : {D : Working → Type 0} {R : Working → Working → Type 0} {P : ℕ → Type 0} → IsPath D R P → (k : ℕ) (w v : Working) → D w
    → ((c : ℕ) → is_among c (children_of w.forest k) ≡ true → P c) → unwrapped k w ≡ Ok v → R w v
unwrapped_path path k w v r may e =
    then path w v (in_turn (moved_before k) (children_of w.forest k) w)
    (λ u. remove_step k (brought_up k (parent_of w.forest k) (index_of w.forest k) (ends_of w.selection) u))
    (λ u f. turns path (moved_before k) (children_of w.forest k) (λ c among. moved_before_path path k c (may c among)) w u r f)
    (λ u a f. from_ path u (brought_up k (parent_of w.forest k) (index_of w.forest k) (ends_of w.selection) u) v (remove_step k)
    (brought_up_path path k (parent_of w.forest k) (index_of w.forest k) (ends_of w.selection) u (path.ready w u a)) (remove_path path k) f) e

pub unwrap_path : {D : Working → Type 0} {R : Working → Working → Type 0} {P : ℕ → Type 0} → IsPath D R P → (k : ℕ) (w v : Working) → D w
    → ((c : ℕ) → is_among c (children_of w.forest k) ≡ true → P c) → unwrap_step k w ≡ Ok v → R w v
unfolding unwrap_step
unwrap_path {R = R} path k w v r may e = allowed R w v (unwrap_fault k w.forest) (unwrapped k) (λ f. unwrapped_path path k w v r may f) e

-- ---- split

tail_path : {D : Working → Type 0} {R : Working → Working → Type 0} {P : ℕ → Type 0} → IsPath D R P → (k offset : ℕ) → Leads D R (tail_made k offset)
unfolding tail_made
tail_path {R = R} path k offset w v r e =
    allowed R w v (splice_fault k offset (length_at w.forest k) w.forest)
    (λ a. after (new_step Text (tail_of a.forest k offset) a) (λ b. Ok (pointed (split_moves k offset a.next_key) b))) (λ f.
    then path w v (new_step Text (tail_of w.forest k offset) w) (λ b. Ok (pointed (split_moves k offset w.next_key) b))
    (λ b g. path.new Text (tail_of w.forest k offset) w b r g)
    (λ b a g. ok R b (pointed (split_moves k offset w.next_key) b) v (points path (split_moves k offset w.next_key) b (path.ready w b a)) g) f) e

pub cut_path : {D : Working → Type 0} {R : Working → Working → Type 0} {P : ℕ → Type 0} → IsPath D R P → (k offset : ℕ) (w v : Working) → D w → P w.next_key
    → cut_in_two k offset w ≡ Ok v → R w v
unfolding cut_in_two
cut_path path k offset w v r may e =
    then path w v (tail_made k offset w) (λ a. after (splice_step k offset (length_at w.forest k) [] a) (put_behind_step w.next_key k))
    (λ a f. tail_path path k offset w a r f)
    (λ a x f. then path a v (splice_step k offset (length_at w.forest k) [] a) (put_behind_step w.next_key k)
    (λ b g. path.splice k offset (length_at w.forest k) [] a b (path.ready w a x) g)
    (λ b y g. put_behind_path path w.next_key k may b v (path.ready a b y) g) f) e

pub cuts_path : {D : Working → Type 0} {R : Working → Working → Type 0} {P : ℕ → Type 0} → IsPath D R P → (piece start : ℕ) (offsets : List ℕ) (w v : Working)
    → D w → ((k : ℕ) → is_among k (keys_from w.next_key (length offsets)) ≡ true → P k) → cut_at piece start offsets w ≡ Ok v → R w v
cuts_path {R = R} path piece start [] w v r may e = ok R w w v (self path w r) e
cuts_path path piece start (o ∷ rest) w v r may e =
    then_from path w v (cut_in_two piece (o - start) w) (cut_at w.next_key o rest)
    (λ u f. cut_path path piece (o - start) w u r (may w.next_key (grind (arith, eqb_tells w.next_key w.next_key))) f)
    (λ u f a g. cuts_path path w.next_key o rest u v (path.ready w u a)
    (λ k among. may k
    (later k w.next_key (keys_from (w.next_key + 1) (length rest))
    (ap (λ n. is_among k (keys_from n (length rest))) (sym (cut-next_key piece (o - start) w u f)) ∙ among))) g) e where
      later : (k x : ℕ) (xs : List ℕ) → is_among k xs ≡ true → is_among k (x ∷ xs) ≡ true
      later k x xs among = grind (arith, among)

-- the keys of the new texts are put
pub split_path : {D : Working → Type 0} {R : Working → Working → Type 0} {P : ℕ → Type 0} → IsPath D R P → (k : ℕ) (offsets : List ℕ) (w v : Working) → D w
    → ((q : ℕ) → is_among q (keys_from w.next_key (length offsets)) ≡ true → P q) → split_step k offsets w ≡ Ok v → R w v
unfolding split_step
split_path {R = R} path k offsets w v r may e =
    allowed R w v (split_fault k offsets w.forest) (cut_at k 0 offsets) (λ f. cuts_path path k 0 offsets w v r may f) e

-- ---- join

pub joined_path : {D : Working → Type 0} {R : Working → Working → Type 0} {P : ℕ → Type 0} → IsPath D R P → (first second : ℕ)
    → Leads D R (texts_joined first second)
joined_path path first second w v r e =
    let end : ℕ = length_at w.forest first in
    let text : List ℕ = text_or_none (text_in (label_of w.forest second)) in
    then path w v (splice_step first end end text w) (λ u. take_step second (pointed (join_moves first end second) u))
    (λ u f. path.splice first end end text w u r f)
    (λ u a f. from_ path u (pointed (join_moves first end second) u) v (take_step second) (points path (join_moves first end second) u (path.ready w u a))
    (λ x y s g. path.take second x y s g) f) e

pub join_path : {D : Working → Type 0} {R : Working → Working → Type 0} {P : ℕ → Type 0} → IsPath D R P → (first second : ℕ)
    → Leads D R (join_step first second)
unfolding join_step
join_path {R = R} path first second w v r e =
    allowed R w v (join_fault first second w.forest) (texts_joined first second) (joined_path path first second w v r) e

pub joined_behind_path : {D : Working → Type 0} {R : Working → Working → Type 0} {P : ℕ → Type 0} → IsPath D R P
    → (found : Found) (k : ℕ) (again : Working → Result Working Cause) → Leads D R again → Leads D R (joined_behind found k again)
joined_behind_path {R = R} path Nothing k again c w v r e = ok R w w v (self path w r) e
joined_behind_path path (Empty other) k again c w v r e =
    then path w v (remove_step other w) again (λ u f. remove_path path other w u r f) (λ u a f. c u v (path.ready w u a) f) e
joined_behind_path path (Alike other) k again c w v r e =
    then path w v (join_step k other w) again (λ u f. join_path path k other w u r f) (λ u a f. c u v (path.ready w u a) f) e

pub join_on_path : {D : Working → Type 0} {R : Working → Working → Type 0} {P : ℕ → Type 0} → IsPath D R P → (n k : ℕ) → Leads D R (join_on n k)
unfolding join_on
join_on_path {R = R} path zero k w v r e = ok R w w v (self path w r) e
join_on_path path (suc n) k w v r e = joined_behind_path path (found_behind w.forest k) k (join_on n k) (join_on_path path n k) w v r e

pub joined_before_path : {D : Working → Type 0} {R : Working → Working → Type 0} {P : ℕ → Type 0} → IsPath D R P
    → (found : Found) (k : ℕ) (again : ℕ → Working → Result Working Cause) (last : Working → Result Working Cause) → ((x : ℕ) → Leads D R (again x))
    → Leads D R last → Leads D R (joined_before found k again last)
joined_before_path path Nothing k again last c d w v r e = d w v r e
joined_before_path path (Empty other) k again last c d w v r e =
    then path w v (remove_step other w) (again k) (λ u f. remove_path path other w u r f) (λ u a f. c k u v (path.ready w u a) f) e
joined_before_path path (Alike other) k again last c d w v r e =
    then path w v (join_step other k w) (again other) (λ u f. join_path path other k w u r f) (λ u a f. c other u v (path.ready w u a) f) e

pub join_back_path : {D : Working → Type 0} {R : Working → Working → Type 0} {P : ℕ → Type 0} → IsPath D R P → (n k : ℕ) → Leads D R (join_back n k)
unfolding join_back
join_back_path {R = R} path zero k w v r e = ok R w w v (self path w r) e
join_back_path path (suc n) k w v r e =
    joined_before_path path (found_before w.forest k) k (join_back n) (join_on enough k) (λ x. join_back_path path n x) (join_on_path path enough k) w v r e

join_simple_path : {D : Working → Type 0} {R : Working → Working → Type 0} {P : ℕ → Type 0} → IsPath D R P → (empty : Option Bool) (k : ℕ)
    → Leads D R (join_simple empty k)
join_simple_path {R = R} path None k w v r e = ok R w w v (self path w r) e
join_simple_path path (Some true) k w v r e = remove_path path k w v r e
join_simple_path path (Some false) k w v r e = join_back_path path enough k w v r e

pub join_around_path : {D : Working → Type 0} {R : Working → Working → Type 0} {P : ℕ → Type 0} → IsPath D R P → (k : ℕ) → Leads D R (join_around_step k)
unfolding join_around_step
join_around_path {R = R} path k w v r e =
    allowed R w v (unknown w.forest k) (joined_around k) (λ f. join_simple_path path (emptiness (simple_at w.forest k)) k w v r f) e
