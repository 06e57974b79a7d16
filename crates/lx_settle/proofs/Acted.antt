-- Every edit of a rule, and the join step, is carried.
use Rattle.std.proofs.Common.{◌≡◌, ◌∙◌, ℕ, Bool, true, false, eqb, ◌||◌, ◌&&◌, List, [], ◌∷◌, ◌++◌, Option, None, Some, Result, Ok, refl, sym, ap, arith, inl, inr}
use Rattle.std.specs.Prelude.{slice_get}
use Rattle.std.specs.Option.{option_or}
use Rattle.std.proofs.lemmas.Bool.Decides.{eqb_tells}
use Rattle.lx_trees.specs.Siblings.{is_among, next_in}
use Rattle.lx_node.specs.Strings.{characters_of}
use Rattle.lx_node.specs.declared.kind.Kind.{Kind}
use Rattle.lx_node.specs.declared.fields.Fields.{Fields}
use Rattle.lx_node.specs.declared.cause.Cause.{Cause}
use Rattle.lx_node.specs.Kinds.{is_element}
use Rattle.lx_step.specs.declared.rule.NewNode.{NewNode}
use Rattle.lx_step.specs.declared.rule.SelfEdit.{SelfEdit}
use Rattle.lx_step.specs.declared.rule.SelfEdit.TheVariants.{Set, Add, Remove, Replace, Wrap, Unwrap, Before, After, Child, MergeNext}
use Rattle.lx_forest.specs.Forest.{Forest, Label}
use Rattle.lx_forest.specs.Lookups.{label_of, kind_of, parent_of, children_of, children_below, next_of, size_of, index_of, is_within, is_attached, IsForest}
use Rattle.lx_forest.proofs.Within.{is_within-with_new, is_attached-put_in, is_within-up}
use Rattle.lx_forest.proofs.Edits.{parent_of-root}
use Rattle.lx_trees.proofs.Siblings.{next_in-among}
use Rattle.lx_draft.specs.Working.{Working}
use Rattle.lx_draft.specs.Faults.{after, over_counts, over_limits, put_fault}
use Rattle.lx_draft.specs.Steps.{made, new_step, node_placed, put_step}
use Rattle.lx_draft.specs.Beside.{before_at, put_before_step, put_behind_step}
use Rattle.lx_draft.specs.Covering.{IsReady}
use Rattle.lx_draft.proofs.Put.{both_none, can_put}
use Rattle.lx_draft.proofs.Covered.{answered}
use Rattle.lx_edit.specs.Conditions.{length_at, replace_fault}
use Rattle.lx_edit.specs.Edits.{kept, remove_step, children_step, replace_step, wrap_step, unwrap_step, texts_pointed}
use Rattle.lx_edit.specs.Texts.{join_around_step}
use Rattle.lx_edit.specs.Homed.{is_under, IsHomed}
use Rattle.lx_settle.specs.Acting.{written, patched_in, with_made, is_element_at, merged, act_step}
use Rattle.lx_settle.proofs.Carried.{IsCarried, carried_homed, carried_self}
use Rattle.lx_edit.proofs.Paths.{self, then, then_from, ok, from_, allowed, put_before_path, put_behind_path, remove_path, children_path, wrap_path, unwrap_path, texts_pointed_path, join_around_path}
use Rattle.lx_edit.proofs.Homed.{homed_path, homed_fewer, under_all, absent_under, child_attached}

-- ---- what is attached stays so where nodes are made and put

pub attached-made : (kind : Kind) (fields : Fields) (q : ℕ) (w v : Working) → IsReady w → is_attached w.forest q ≡ true → new_step kind fields w ≡ Ok v
    → is_attached v.forest q ≡ true
unfolding new_step
attached-made kind fields q w v r there e =
    let a = answered (over_limits (characters_of fields) w) (made kind fields w) v e in
    let l : Label = record { key = w.next_key; kind = kind; fields = fields } in
    ap (λ (x : Working). is_attached x.forest q) (sym a.1) ∙ is_within-with_new l w.forest 0 q (r.free w.next_key (omega arith))
    ∙ ap (λ b. b || (eqb 0 w.next_key && eqb q w.next_key)) there

attached-put : (k p index q : ℕ) (w v : Working) → IsReady w → is_attached w.forest q ≡ true → put_step k p index w ≡ Ok v → is_attached v.forest q ≡ true
unfolding put_step
attached-put k p index q w v r there e =
    let a = answered (option_or (put_fault k p index w.forest) (over_counts w)) (node_placed k p index w) v e in
    let can = can_put w.forest k p index ((both_none (put_fault k p index w.forest) (over_counts w) a.0).0) in
    let before : Option ℕ = slice_get (children_of w.forest p) index in
    ap (λ (x : Working). is_attached x.forest q) (sym a.1) ∙ is_attached-put_in p before k w.forest q r.in_order can
    ∙ ap (λ b. b || (is_within w.forest k q && is_attached w.forest p)) there

attached-before_at : (k other : ℕ) (p index : Option ℕ) (q : ℕ) (w v : Working) → IsReady w → is_attached w.forest q ≡ true → before_at k other p index w ≡ Ok v
    → is_attached v.forest q ≡ true
attached-before_at k other (Some p) (Some index) q w v r there e = attached-put k p index q w v r there e
attached-before_at k other _ _ q w v r there e = absurd (cc)

attached-put_before : (k other q : ℕ) (w v : Working) → IsReady w → is_attached w.forest q ≡ true → put_before_step k other w ≡ Ok v
    → is_attached v.forest q ≡ true
unfolding put_before_step
attached-put_before k other q w v r there e = attached-before_at k other (parent_of w.forest other) (index_of w.forest other) q w v r there e

-- ---- steps of nodes that are attached

first_under : (f : Forest) (rs : List ℕ) (q : ℕ) → is_attached f q ≡ true → is_under f (0 ∷ rs) q ≡ true
first_under f rs q e = grind (arith, e)

children_under : (f : Forest) (rs : List ℕ) (p q : ℕ) → IsForest f → is_attached f p ≡ true → is_under f (children_of f p) q ≡ true
    → is_under f (0 ∷ rs) q ≡ true
children_under f rs p q h there e =
    under_all f (0 ∷ rs) (children_of f p) q h (λ c among. first_under f rs c (child_attached f p c h there among)) e

among_behind : (rs ks : List ℕ) (k : ℕ) → is_among k ks ≡ true → is_among k (rs ++ ks) ≡ true
among_behind [] ks k e = e
among_behind (r ∷ rs) ks k e = grind (arith, among_behind rs ks k e)

pub children_homed : (rs : List ℕ) (from to : ℕ) (w v : Working) → IsReady w → is_attached w.forest from ≡ true → children_step from to w ≡ Ok v
    → IsHomed (0 ∷ rs) w v
children_homed rs from to w v r there e =
    homed_fewer (0 ∷ rs) (children_of w.forest from) w v (λ q inside. children_under w.forest rs from q r.in_order there inside)
    (children_path (homed_path ((0 ∷ rs) ++ children_of w.forest from)) from to w v r (λ k among. among_behind (0 ∷ rs) (children_of w.forest from) k among) e)

pub unwrap_homed : (rs : List ℕ) (k : ℕ) (w v : Working) → IsReady w → is_attached w.forest k ≡ true → unwrap_step k w ≡ Ok v → IsHomed (0 ∷ rs) w v
unwrap_homed rs k w v r there e =
    homed_fewer (0 ∷ rs) (children_of w.forest k) w v (λ q inside. children_under w.forest rs k q r.in_order there inside)
    (unwrap_path (homed_path ((0 ∷ rs) ++ children_of w.forest k)) k w v r (λ c among. among_behind (0 ∷ rs) (children_of w.forest k) c among) e)

first_among : (a : ℕ) (ks : List ℕ) → is_among a (a ∷ ks) ≡ true
first_among a ks = grind (arith, eqb_tells a a)

second_among : (a b : ℕ) (ks : List ℕ) → is_among b (a ∷ b ∷ ks) ≡ true
second_among a b ks = grind (arith, eqb_tells b b)

third_among : (a b c : ℕ) → is_among c (a ∷ b ∷ c ∷ []) ≡ true
third_among a b c = grind (arith, eqb_tells c c)

kept_homed : (keep : Bool) (k made : ℕ) (w v : Working) → IsReady w → is_attached w.forest k ≡ true → kept keep k made w ≡ Ok v → IsHomed (0 ∷ made ∷ []) w v
kept_homed false k made w v r there e = ok (IsHomed (0 ∷ made ∷ [])) w w v (self (homed_path (0 ∷ made ∷ [])) w r) e
kept_homed true k made w v r there e = children_homed (made ∷ []) k made w v r there e

pub replace_homed : (k made : ℕ) (keep : Bool) (w v : Working) → IsReady w → is_attached w.forest k ≡ true → replace_step k made keep w ≡ Ok v
    → IsHomed (0 ∷ made ∷ []) w v
unfolding replace_step
replace_homed k made keep w v r there e =
    let path = homed_path (0 ∷ made ∷ []) in
    allowed (IsHomed (0 ∷ made ∷ [])) w v (replace_fault k made keep w.forest)
    (λ a. after (put_before_step made k a) (λ b. after (kept keep k made b) (λ c. remove_step k (texts_pointed k made c)))) (λ f.
    then_from path w v (put_before_step made k w) (λ b. after (kept keep k made b) (λ c. remove_step k (texts_pointed k made c)))
    (λ b g. put_before_path path made k (second_among 0 made []) w b r g)
    (λ b g x h. then path b v (kept keep k made b) (λ c. remove_step k (texts_pointed k made c))
    (λ c i. kept_homed keep k made b c x.covered.ready (attached-put_before made k k w b r there g) i)
    (λ c y i. from_ path c (texts_pointed k made c) v (remove_step k) (texts_pointed_path path k made c y.covered.ready) (remove_path path k) i) h) f) e

wrap_homed : (k made : ℕ) (w v : Working) → IsReady w → wrap_step k made w ≡ Ok v → IsHomed (0 ∷ made ∷ k ∷ []) w v
wrap_homed k made w v r e = wrap_path (homed_path (0 ∷ made ∷ k ∷ [])) k made (second_among 0 made (k ∷ [])) (third_among 0 made k) w v r e

-- ---- a new node

-- a new key is in no tree before
made_away : (rs : List ℕ) (w : Working) (q : ℕ) → IsReady w → is_under w.forest (w.next_key ∷ []) q ≡ true → is_under w.forest rs q ≡ true
made_away rs w q r e = absurd (grind (arith, e, absent_under w.forest w.next_key q (r.free w.next_key (omega arith))))

made_carried : (w v : Working) → IsReady w → IsHomed (0 ∷ w.next_key ∷ []) w v → IsCarried w v
made_carried w v r a = carried_homed w v (homed_fewer (0 ∷ []) (w.next_key ∷ []) w v (λ q e. made_away (0 ∷ []) w q r e) a)

-- a new node, and a step with its key that puts no other
with_made_carried : (new : NewNode) (next : ℕ → Working → Result Working Cause) (w v : Working) → IsReady w
    → ((u : Working) → IsReady u → new_step new.kind new.fields w ≡ Ok u → next w.next_key u ≡ Ok v → IsHomed (0 ∷ w.next_key ∷ []) u v)
    → with_made new next w ≡ Ok v → IsCarried w v
with_made_carried new next w v r then_ e =
    let path = homed_path (0 ∷ w.next_key ∷ []) in
    made_carried w v r
    (then_from path w v (new_step new.kind new.fields w) (next w.next_key) (λ u f. path.new new.kind new.fields w u r f)
    (λ u f a g. then_ u a.covered.ready f g) e)

-- the same where the node itself is put too
with_made_wrapped : (new : NewNode) (k : ℕ) (w v : Working) → IsReady w → is_attached w.forest k ≡ true → with_made new (λ made. wrap_step k made) w ≡ Ok v
    → IsCarried w v
with_made_wrapped new k w v r there e =
    let rs : List ℕ = 0 ∷ w.next_key ∷ k ∷ [] in
    let path = homed_path rs in
    let all =
    then path w v (new_step new.kind new.fields w) (λ u. wrap_step k w.next_key u) (λ u f. path.new new.kind new.fields w u r f)
    (λ u a f. wrap_homed k w.next_key u v a.covered.ready f) e in
    carried_homed w v
    (homed_fewer (0 ∷ []) (w.next_key ∷ k ∷ []) w v
    (λ q inside. both w.forest w.next_key k q inside (made_away (0 ∷ []) w q r)
    (λ f. under_all w.forest (0 ∷ []) (k ∷ []) q r.in_order (λ c among. only c among) f)) all) where
      either : (x y z : Bool) → (x || (y || false)) ≡ true → ((x || false) ≡ true → (z || false) ≡ true) → ((y || false) ≡ true → (z || false) ≡ true)
          → (z || false) ≡ true
      either true y z e g h = g refl
      either false y z e g h = h e

      both : (f : Forest) (a b q : ℕ) → is_under f (a ∷ b ∷ []) q ≡ true → (is_under f (a ∷ []) q ≡ true → is_under f (0 ∷ []) q ≡ true)
          → (is_under f (b ∷ []) q ≡ true → is_under f (0 ∷ []) q ≡ true) → is_under f (0 ∷ []) q ≡ true
      both f a b q e g h = either (is_within f a q) (is_within f b q) (is_within f 0 q) e g h

      only : (c : ℕ) → is_among c (k ∷ []) ≡ true → is_under w.forest (0 ∷ []) c ≡ true
      only c among = grind (arith, among, there, eqb_tells k c)

-- ---- the edits of rules

next_attached_by : (f : Forest) (o : Option ℕ) (k n : ℕ) → parent_of f k ≡ o → IsForest f → is_attached f k ≡ true → next_in (children_below f o) k ≡ Some n
    → is_attached f n ≡ true
next_attached_by f None k n up h there e = absurd (cc)
next_attached_by f (Some p) k n up h there e =
    elim (eqb_tells k 0) [
      | inl root ↦ absurd (let no : parent_of f k ≡ None = ap (parent_of f) root.1 ∙ parent_of-root f h in grind (arith, no, up))
      | inr other ↦ child_attached f p n h (sym (is_within-up f 0 k p h up other.1) ∙ there) (next_in-among (children_of f p) k n e)
    ]

pub next_attached : (f : Forest) (k n : ℕ) → IsForest f → is_attached f k ≡ true → next_of f k ≡ Some n → is_attached f n ≡ true
next_attached f k n h there e = next_attached_by f (parent_of f k) k n refl h there e

written_carried : (o : Option Fields) (k : ℕ) (w v : Working) → IsReady w → written o k w ≡ Ok v → IsCarried w v
written_carried None k w v r e = ok IsCarried w w v (carried_self w r) e
written_carried (Some fields) k w v r e = carried_homed w v ((homed_path (0 ∷ [])).set k fields w v r e)

merged_carried : (k : ℕ) (o : Option ℕ) (w v : Working) → next_of w.forest k ≡ o → IsReady w → is_attached w.forest k ≡ true → merged k o w ≡ Ok v
    → IsCarried w v
merged_carried k None w v is r there e = ok IsCarried w w v (carried_self w r) e
merged_carried k (Some next) w v is r there e =
    let path = homed_path (0 ∷ []) in
    carried_homed w v (then path w v (children_step next k w) (remove_step next)
    (λ u f. children_homed [] next k w u r (next_attached w.forest k next r.in_order there is) f) (λ u a f. remove_path path next u v a.covered.ready f) e)

pub act_carried : (edit : SelfEdit) (k : ℕ) (w v : Working) → IsReady w → is_attached w.forest k ≡ true → act_step edit k w ≡ Ok v → IsCarried w v
unfolding act_step
act_carried (Set patch) k w v r there e = written_carried (patched_in (label_of w.forest k) patch.members) k w v r e
act_carried (Add text) k w v r there e = carried_homed w v ((homed_path (0 ∷ [])).splice k (length_at w.forest k) (length_at w.forest k) text w v r e)
act_carried Remove k w v r there e = carried_homed w v (remove_path (homed_path (0 ∷ [])) k w v r e)
act_carried (Replace new) k w v r there e =
    with_made_carried new (λ made u. replace_step k made (is_element new.kind && is_element_at (kind_of w.forest k)) u) w v r
    (λ u s f g. replace_homed k w.next_key (is_element new.kind && is_element_at (kind_of w.forest k)) u v s (attached-made new.kind new.fields k w u r there f)
    g) e
act_carried (Wrap new) k w v r there e = with_made_wrapped new k w v r there e
act_carried Unwrap k w v r there e = carried_homed w v (unwrap_homed [] k w v r there e)
act_carried (Before new) k w v r there e =
    with_made_carried new (λ made. put_before_step made k) w v r
    (λ u s f g. put_before_path (homed_path (0 ∷ w.next_key ∷ [])) w.next_key k (second_among 0 w.next_key []) u v s g) e
act_carried (After new) k w v r there e =
    with_made_carried new (λ made. put_behind_step made k) w v r
    (λ u s f g. put_behind_path (homed_path (0 ∷ w.next_key ∷ [])) w.next_key k (second_among 0 w.next_key []) u v s g) e
act_carried (Child new) k w v r there e =
    with_made_carried new (λ made u. put_step made k (size_of u.forest k) u) w v r
    (λ u s f g. (homed_path (0 ∷ w.next_key ∷ [])).put w.next_key k (size_of u.forest k) u v (second_among 0 w.next_key []) s g) e
act_carried MergeNext k w v r there e = merged_carried k (next_of w.forest k) w v refl r there e

pub join_carried : (k : ℕ) (w v : Working) → IsReady w → join_around_step k w ≡ Ok v → IsCarried w v
join_carried k w v r e = carried_homed w v (join_around_path (homed_path (0 ∷ [])) k w v r e)
