-- The join step at a node changes it, or takes it out, or finds nothing to join.
use Rattle.std.proofs.Common.{◌≡◌, ◌≢◌, ◌∙◌, ℕ, suc, Bool, true, false, cond, eqb, ◌&&◌, List, [], ◌∷◌, Option, None, Some, option_map, Result, Ok, Err, refl, sym, ap, arith, inl, inr, ◌⊎◌}
use Rattle.std.proofs.lemmas.Bool.{cases_Bool}
use Rattle.std.proofs.lemmas.Bool.Decides.{eqb_tells}
use Rattle.lx_trees.specs.Siblings.{is_among, previous_in}
use Rattle.lx_node.specs.Same.{same_text}
use Rattle.lx_node.specs.declared.kind.Kind.{Kind}
use Rattle.lx_node.specs.declared.kind.Kind.TheVariants as kind
use Rattle.lx_node.specs.declared.fields.Fields.{Fields}
use Rattle.lx_node.specs.declared.fields.TextFields.{TextFields}
use Rattle.lx_node.specs.declared.cause.Cause.{Cause}
use Rattle.lx_node.proofs.Same.{same_text-Decides}
use Rattle.lx_select.specs.Rules.{join_moves}
use Rattle.lx_forest.specs.Forest.{Forest, Label}
use Rattle.lx_forest.specs.Lookups.{label_of, kind_of, parent_of, previous_of, next_of, children_below, is_attached, IsForest}
use Rattle.lx_forest.proofs.Siblings.{parent_of-previous}
use Rattle.lx_node.specs.Limits.{most_counts}
use Rattle.lx_draft.specs.Working.{Working}
use Rattle.lx_links.specs.Faults.{unknown}
use Rattle.lx_draft.specs.Faults.{after, text_in, text_fields}
use Rattle.lx_draft.specs.Steps.{splice_step, take_step}
use Rattle.lx_marks.specs.Marks.{is_touched}
use Rattle.lx_draft.specs.Covering.{IsReady}
use Rattle.lx_draft.proofs.CoveredSteps.{covered-splice}
use Rattle.lx_edit.specs.declared.around.Found.{Found}
use Rattle.lx_edit.specs.declared.around.Found.TheVariants.{Nothing, Empty, Alike}
use Rattle.lx_edit.specs.Conditions.{length_at, join_fault}
use Rattle.lx_edit.specs.Edits.{pointed, remove_step}
use Rattle.lx_edit.specs.Texts.{text_or_none, texts_joined, join_step, if_simple, simple_at, has_no_text, found_in, found_by, found_before, found_behind, joined_behind, join_on, joined_before, join_back, emptiness, join_simple, joined_around, join_around_step}
use Rattle.lx_edit.specs.Homed.{IsHomed}
use Rattle.lx_settle.specs.Joined.{is_empty_text, are_alike}
use Rattle.lx_settle.proofs.Seen.{next_stays, previous_stays}
use Rattle.lx_edit.proofs.Paths.{IsPath, remove_path, points, join_path, join_on_path, join_back_path}
use Rattle.lx_edit.proofs.Homed.{homed_path}
use Rattle.lx_settle.proofs.Owned.{top_path, taken_top, remove_top, next_of_none, ends, allowed_by, top_root, ready_path}

-- what a node that was neither marked nor taken out says of the join step at it
pub record IsJoinedAt (k : ℕ) (w : Working) : Type 0 where
  pub full : is_empty_text (simple_at w.forest k) ≡ false
  pub behind : (own : TextFields) → simple_at w.forest k ≡ Some own → found_behind w.forest k ≡ Nothing
  pub before : (own : TextFields) → simple_at w.forest k ≡ Some own → found_before w.forest k ≡ Nothing

-- ---- what is found is there

found_in_key : (other x : ℕ) (own : TextFields) (o : Option TextFields) → (found_in other own o ≡ Empty x) ⊎ (found_in other own o ≡ Alike x) → other ≡ x
found_in_key other x own None e = elim e [ inl a ↦ absurd (cc) | inr a ↦ absurd (cc) ]
found_in_key other x own (Some t) e = by_tests (has_no_text t.text) ((eqb own.format t.format) && same_text own.style t.style) e where
  by_tests : (a b : Bool) → (cond a (Empty other) (cond b (Alike other) Nothing) ≡ Empty x) ⊎ (cond a (Empty other) (cond b (Alike other) Nothing) ≡ Alike x)
      → other ≡ x
  by_tests true b e = elim e [ inl f ↦ (let g : other ≡ x = cc in g) | inr f ↦ absurd (cc) ]
  by_tests false true e = elim e [ inl f ↦ absurd (cc) | inr f ↦ (let g : other ≡ x = cc in g) ]
  by_tests false false e = elim e [ inl f ↦ absurd (cc) | inr f ↦ absurd (cc) ]

pub found_key : (f : Forest) (o : Option ℕ) (s : Option TextFields) (x : ℕ) → (found_by f o s ≡ Empty x) ⊎ (found_by f o s ≡ Alike x) → o ≡ Some x
found_key f None s x e = elim e [ inl a ↦ absurd (cc) | inr a ↦ absurd (cc) ]
found_key f (Some other) None x e = elim e [ inl a ↦ absurd (cc) | inr a ↦ absurd (cc) ]
found_key f (Some other) (Some own) x e = ap (λ k. Some k) (found_in_key other x own (simple_at f other) e)

-- ---- a neighbour that is below nothing now

previous_of_none : (f : Forest) (o : Option ℕ) (k n : ℕ) → IsForest f → parent_of f k ≡ o → previous_of f k ≡ Some n → parent_of f n ≡ None → ⊥
previous_of_none f None k n h up e top =
    let none : previous_of f k ≡ None = ap (λ o. previous_in (children_below f o) k) up in
    let both : ◌≡◌ {A = Option ℕ} None (Some n) = sym none ∙ e in
    cc
previous_of_none f (Some p) k n h up e top = grind (arith, parent_of-previous f k n p h up e, top)

-- so it was marked that its neighbour went
marked_beside : (k n : ℕ) (w u : Working) → IsReady w → IsHomed (0 ∷ []) w u → (next_of w.forest k ≡ Some n) ⊎ (previous_of w.forest k ≡ Some n)
    → parent_of u.forest n ≡ None → is_touched u.fresh k ≡ true
marked_beside k n w u r c beside top =
    elim (c.covered.fresh.seen k) [
      | inl same ↦ elim beside [
        | inl next ↦ absurd (next_of_none u.forest (parent_of u.forest k) k n c.covered.ready.in_order refl (next_stays w.forest u.forest k same.1 ∙ next) top)
        | inr previous ↦
            absurd (previous_of_none u.forest (parent_of u.forest k) k n c.covered.ready.in_order refl (previous_stays w.forest u.forest k same.1 ∙ previous)
            top)
      ]
      | inr touched ↦ touched
    ]

-- ---- two that are joined

joined_top : (first second : ℕ) (w v : Working) → IsReady w → texts_joined first second w ≡ Ok v → parent_of v.forest second ≡ None
joined_top first second w v r e =
    let end : ℕ = length_at w.forest first in
    let text : List ℕ = text_or_none (text_in (label_of w.forest second)) in
    ends w v (splice_step first end end text w) (λ u. take_step second (pointed (join_moves first end second) u))
    (λ u f. (covered-splice first end end text w u r f).ready)
    (λ u s f. taken_top second (pointed (join_moves first end second) u) v (points ready_path (join_moves first end second) u s) f) e

join_top : (first second : ℕ) (w v : Working) → IsReady w → join_step first second w ≡ Ok v → parent_of v.forest second ≡ None
unfolding join_step
join_top first second w v r e = allowed_by w v (join_fault first second w.forest) (texts_joined first second) (λ f. joined_top first second w v r f) e

-- ---- the join step

-- it did nothing, where the node is still in the tree and unmarked
abbrev pub Untouched : ℕ → Working → Working → Type 0 → Type 0
Untouched k w v P = is_attached v.forest k ≡ true → is_touched v.fresh k ≡ false → k ≢ 0 → (v ≡ w) × P

path : IsPath IsReady (IsHomed (0 ∷ [])) (λ k. is_among k (0 ∷ []) ≡ true)
path = homed_path (0 ∷ [])

-- after a first step that marked the node, it is marked
marked_first : {P : Type 0} (k : ℕ) (w v : Working) (s : Result Working Cause) (again : Working → Result Working Cause)
    → ((u : Working) → s ≡ Ok u → (is_touched u.fresh k ≡ true) × IsReady u) → ((u : Working) → IsReady u → again u ≡ Ok v → IsHomed (0 ∷ []) u v)
    → after s again ≡ Ok v → Untouched k w v P
marked_first k w v (Ok u) again first second e = λ there unmarked other.
    let f = first u refl in
    let c = second u f.1 e in
    absurd (grind (arith, unmarked, c.covered.fresh.touched k f.0))
marked_first k w v (Err cause) again first second e = absurd (cc)

join_on_by : (found : Found) (n k : ℕ) (w v : Working) → IsReady w → found_behind w.forest k ≡ found → joined_behind found k (join_on n k) w ≡ Ok v
    → Untouched k w v (found_behind w.forest k ≡ Nothing)
join_on_by Nothing n k w v r is e = λ there unmarked other. ((let same : v ≡ w = cc in same), is)
join_on_by (Empty x) n k w v r is e =
    marked_first k w v (remove_step x w) (join_on n k) (λ u f.
    let c = remove_path path x w u r f in
    (marked_beside k x w u r c (inl (found_key w.forest (next_of w.forest k) (simple_at w.forest k) x (inl is))) (remove_top x w u r f), c.covered.ready))
    (λ u s f. join_on_path path n k u v s f) e
join_on_by (Alike x) n k w v r is e =
    marked_first k w v (join_step k x w) (join_on n k) (λ u f.
    let c = join_path path k x w u r f in
    (marked_beside k x w u r c (inl (found_key w.forest (next_of w.forest k) (simple_at w.forest k) x (inr is))) (join_top k x w u r f), c.covered.ready))
    (λ u s f. join_on_path path n k u v s f) e

join_on_first : (n k : ℕ) (w v : Working) → IsReady w → join_on (suc n) k w ≡ Ok v → Untouched k w v (found_behind w.forest k ≡ Nothing)
unfolding join_on
join_on_first n k w v r e = join_on_by (found_behind w.forest k) n k w v r refl e

join_back_by : (found : Found) (n m k : ℕ) (w v : Working) → IsReady w → found_before w.forest k ≡ found
    → joined_before found k (join_back n) (join_on (suc m) k) w ≡ Ok v
    → Untouched k w v ((found_behind w.forest k ≡ Nothing) × (found_before w.forest k ≡ Nothing))
join_back_by Nothing n m k w v r is e = λ there unmarked other. let j = join_on_first m k w v r e there unmarked other in (j.0, (j.1, is))
join_back_by (Empty x) n m k w v r is e =
    marked_first k w v (remove_step x w) (join_back n k) (λ u f.
    let c = remove_path path x w u r f in
    (marked_beside k x w u r c (inr (found_key w.forest (previous_of w.forest k) (simple_at w.forest k) x (inl is))) (remove_top x w u r f), c.covered.ready))
    (λ u s f. join_back_path path n k u v s f) e
join_back_by (Alike x) n m k w v r is e = λ there unmarked other. absurd (other (gone_at (join_step x k w) refl e there)) where
  gone_at : (s : Result Working Cause) → join_step x k w ≡ s → after s (join_back n x) ≡ Ok v → is_attached v.forest k ≡ true → k ≡ 0
  gone_at (Ok u) joined_is f there =
      let ready : IsReady u = (join_path path x k w u r joined_is).covered.ready in
      let t = join_back_path (top_path k) n x u v ready f in
      top_root v.forest k t.ready.in_order (t.top (join_top x k w u r joined_is)) there
  gone_at (Err cause) joined_is f there = absurd (cc)

join_back_first : (n k : ℕ) (w v : Working) → IsReady w → join_back (suc n) k w ≡ Ok v
    → Untouched k w v ((found_behind w.forest k ≡ Nothing) × (found_before w.forest k ≡ Nothing))
unfolding join_back
join_back_first n k w v r e = join_back_by (found_before w.forest k) n most_counts k w v r refl e

-- ---- a simple text isn't the root

text_kind : (k : Kind) (f : Fields) (u : TextFields) → text_fields k f ≡ Some u → k ≡ kind.Text
text_kind kind.Text f u e = refl
text_kind _ f u e = absurd (cc)

pub simple_kind : (o : Option Label) (t : TextFields) → if_simple (text_in o) ≡ Some t → option_map (λ (l : Label). l.kind) o ≡ Some kind.Text
simple_kind None t e = absurd (cc)
simple_kind (Some l) t e = by_text (text_fields l.kind l.fields) refl e where
  by_text : (o : Option TextFields) → text_fields l.kind l.fields ≡ o → if_simple o ≡ Some t → ◌≡◌ {A = Option Kind} (Some l.kind) (Some kind.Text)
  by_text None is f = absurd (cc)
  by_text (Some u) is f = ap (λ x. Some x) (text_kind l.kind l.fields u is)

pub not_root : (f : Forest) (k : ℕ) (t : TextFields) → IsForest f → simple_at f k ≡ Some t → k ≢ 0
not_root f k t h e root =
    let both : ◌≡◌ {A = Option Kind} (Some kind.Text) (Some kind.Root) = sym (simple_kind (label_of f k) t e) ∙ ap (kind_of f) root ∙ h.root in
    cc

-- ---- the whole step

nothing_joined : (k : ℕ) (w v : Working) → simple_at w.forest k ≡ None → ◌≡◌ {A = Result Working Cause} (Ok w) (Ok v) → (v ≡ w) × IsJoinedAt k w
nothing_joined k w v none e = (
  (let same : v ≡ w = cc in same),
  record { full = ap is_empty_text none; behind = λ own is. absurd (cc); before = λ own is. absurd (cc) },
)

by_emptiness : (b : Bool) (t : TextFields) (k : ℕ) (w v : Working) → IsReady w → simple_at w.forest k ≡ Some t → has_no_text t.text ≡ b
    → join_simple (Some b) k w ≡ Ok v
    → is_attached v.forest k ≡ true → is_touched v.fresh k ≡ false → (v ≡ w) × IsJoinedAt k w
by_emptiness true t k w v r is empty e there unmarked =
    absurd (not_root w.forest k t r.in_order is (top_root v.forest k (remove_path path k w v r e).covered.ready.in_order (remove_top k w v r e) there))
by_emptiness false t k w v r is empty e there unmarked =
    let j = join_back_first most_counts k w v r e there unmarked (not_root w.forest k t r.in_order is) in
    (j.0, record { full = ap is_empty_text is ∙ empty; behind = λ own at. j.1.0; before = λ own at. j.1.1 })

by_simple : (o : Option TextFields) (k : ℕ) (w v : Working) → IsReady w → simple_at w.forest k ≡ o → join_simple (emptiness o) k w ≡ Ok v
    → is_attached v.forest k ≡ true → is_touched v.fresh k ≡ false → (v ≡ w) × IsJoinedAt k w
by_simple None k w v r is e there unmarked = nothing_joined k w v is e
by_simple (Some t) k w v r is e there unmarked = by_emptiness (has_no_text t.text) t k w v r is refl e there unmarked

pub join_stood : (k : ℕ) (w v : Working) → IsReady w → join_around_step k w ≡ Ok v → is_attached v.forest k ≡ true → is_touched v.fresh k ≡ false
    → (v ≡ w) × IsJoinedAt k w
unfolding join_around_step
join_stood k w v r e there unmarked =
    by_simple (simple_at w.forest k) k w v r refl (allowed_by w v (unknown w.forest k) (joined_around k) (λ f. f) e) there unmarked

-- ---- what is found nowhere isn't alike

alike_sym : (a b : TextFields) → ((eqb a.format b.format) && same_text a.style b.style) ≡ ((eqb b.format a.format) && same_text b.style a.style)
alike_sym a b =
    both (eqb a.format b.format) (eqb b.format a.format) (same_text a.style b.style) (same_text b.style a.style)
    (grind (arith, eqb_tells a.format b.format, eqb_tells b.format a.format)) (text_sym a.style b.style) where
      both : (p q x y : Bool) → p ≡ q → x ≡ y → (p && x) ≡ (q && y)
      both p q x y e f = grind (arith, e, f)

      text_sym : (x y : List ℕ) → same_text x y ≡ same_text y x
      text_sym x y =
          elim (cases_Bool (same_text x y)) [
            | inl same ↦ same ∙ sym ((same_text-Decides y x).1 (sym ((same_text-Decides x y).0 same)))
            | inr differs ↦ elim (cases_Bool (same_text y x)) [
              | inl turned ↦ absurd (grind (arith, differs, (same_text-Decides x y).1 (sym ((same_text-Decides y x).0 turned))))
              | inr also ↦ differs ∙ sym also
            ]
          ]

nothing_in : (n : ℕ) (own : TextFields) (o : Option TextFields) → found_in n own o ≡ Nothing → are_alike (Some own) o ≡ false
nothing_in n own None e = refl
nothing_in n own (Some t) e = by_tests (has_no_text t.text) ((eqb own.format t.format) && same_text own.style t.style) e where
  by_tests : (a b : Bool) → cond a (Empty n) (cond b (Alike n) Nothing) ≡ Nothing → b ≡ false
  by_tests true b f = absurd (cc)
  by_tests false true f = absurd (cc)
  by_tests false false f = refl

alike_turned : (a b : Option TextFields) → are_alike a b ≡ are_alike b a
alike_turned None None = refl
alike_turned None (Some b) = refl
alike_turned (Some a) None = refl
alike_turned (Some a) (Some b) = alike_sym a b

-- the node isn't alike with the one after it, nor with the one before it
pub apart_behind : (k n : ℕ) (w : Working) → IsJoinedAt k w → next_of w.forest k ≡ Some n → are_alike (simple_at w.forest k) (simple_at w.forest n) ≡ false
apart_behind k n w j next = by_own (simple_at w.forest k) refl where
  by_own : (o : Option TextFields) → simple_at w.forest k ≡ o → are_alike o (simple_at w.forest n) ≡ false
  by_own None is = refl
  by_own (Some own) is =
      nothing_in n own (simple_at w.forest n)
      (sym (ap (λ o. found_by w.forest o (simple_at w.forest k)) next ∙ ap (λ o. found_by w.forest (Some n) o) is) ∙ j.behind own is)

pub apart_before : (k n : ℕ) (w : Working) → IsJoinedAt k w → previous_of w.forest k ≡ Some n → are_alike (simple_at w.forest n) (simple_at w.forest k) ≡ false
apart_before k n w j previous = alike_turned (simple_at w.forest n) (simple_at w.forest k) ∙ by_own (simple_at w.forest k) refl where
  by_own : (o : Option TextFields) → simple_at w.forest k ≡ o → are_alike o (simple_at w.forest n) ≡ false
  by_own None is = refl
  by_own (Some own) is =
      nothing_in n own (simple_at w.forest n)
      (sym (ap (λ o. found_by w.forest o (simple_at w.forest k)) previous ∙ ap (λ o. found_by w.forest (Some n) o) is) ∙ j.before own is)
