-- A node that is removed leaves every point of a range in the tree, where none is strictly below it; and where no point is
-- strictly below some nodes, none is below them after it.
use Rattle.std.proofs.Common.{◌≡◌, ◌≢◌, ◌∙◌, ℕ, ◌+◌, ◌<◌, Bool, true, false, cond, eqb, ◌&&◌, List, [], ◌∷◌, length, Option, None, Some, Result, Ok, refl, sym, ap, ap₂, subst, arith, inl, inr}
use Rattle.std.specs.Prelude.{is_some, option_map}
use Rattle.std.specs.Option.{option_or}
use Rattle.std.proofs.lemmas.Bool.Decides.{eqb_tells, nat_tests}
use Rattle.lx_trees.specs.Siblings.{NoRepeats, next_in, index_in}
use Rattle.lx_node.specs.Kinds.{may_hold, is_element, has_characters}
use Rattle.lx_node.specs.declared.kind.Kind.{Kind}
use Rattle.lx_node.specs.declared.cause.Cause.{Cause}
use Rattle.lx_node.specs.declared.cause.Point.{Point}
use Rattle.lx_node.specs.declared.cause.PointKind.TheVariants as point
use Rattle.lx_trees.proofs.Siblings.{first_of-among}
use Rattle.lx_trees.proofs.Positions.{index_in-step}
use Rattle.lx_select.specs.declared.selection.Selection.{Selection}
use Rattle.lx_select.specs.Selection.{each_point}
use Rattle.lx_select.specs.Rules.{take_moves, moved_to}
use Rattle.lx_forest.specs.Forest.{Forest}
use Rattle.lx_forest.specs.Lookups.{ancestors, kind_of, fields_of, parent_of, children_of, size_of, siblings, index_of, previous_of, next_of, is_within, is_attached, IsForest, IsHeld}
use Rattle.lx_forest.specs.Edits.{take_out}
use Rattle.lx_forest.proofs.Held.{IsHeld-take_out}
use Rattle.lx_forest.proofs.Lookups.{label_of-take_out}
use Rattle.lx_forest.proofs.Siblings.{NoRepeats-siblings, parent_of-next, parent_of-previous}
use Rattle.lx_forest.proofs.Walks.{is_attached-up}
use Rattle.lx_forest.proofs.Within.{is_within-up, is_within-parent, is_within-leaf, is_within-take_out}
use Rattle.lx_links.specs.Faults.{detach_fault}
use Rattle.lx_draft.specs.Working.{Working}
use Rattle.lx_draft.specs.Covering.{IsReady, AreCovered, KindsStay}
use Rattle.lx_draft.specs.Selecting.{lies_in, is_counted_in, length_of}
use Rattle.lx_draft.specs.Faults.{answer, over_counts}
use Rattle.lx_draft.specs.Steps.{node_taken, take_step, take_points}
use Rattle.lx_draft.proofs.Covered.{answered}
use Rattle.lx_draft.proofs.CoveredSteps.{covered-take}
use Rattle.lx_draft.proofs.Put.{both_none}
use Rattle.lx_edit.specs.Edits.{start_in, end_in, beside, place_for, text_point, element_point, sent_from, sent_away, goes_too, may_not_be_left, removed, remove_step}
use Rattle.lx_blocks.specs.Ranges.{lies}
use Rattle.lx_caret.specs.Lying.{EachPoint, IsLying}
use Rattle.lx_draft.specs.Sizes.{AreShort}
use Rattle.lx_caret.proofs.Lies.{both, full, least, start_in as start_of_text, end_in as end_of_text, index_within, lies_taken, attached_taken}
use Rattle.lx_caret.proofs.Fit.{each_moved, each_still, each_both, each_all, after_tells, Fit}
use Rattle.lx_caret.proofs.Moves.{stands, taken_below, not_root, key_of_take}
use Rattle.lx_caret.proofs.Parents.{parents_are}
use Rattle.lx_draft.proofs.Short.{same-short}

-- ---- nodes that points avoid

-- no node where D holds is strictly above this one
abbrev pub Avoids : (ℕ → Bool) → Forest → ℕ → Type 0
Avoids D f q = (a : ℕ) → D a ≡ true → is_within f a q ≡ true → q ≡ a

abbrev pub IsAvoiding : (ℕ → Bool) → Working → Type 0
IsAvoiding D w = EachPoint (λ x. Avoids D w.forest x.key) w.selection

-- where a node avoids them, none is at or above its parent
above_none : (D : ℕ → Bool) (f : Forest) (k p : ℕ) → IsForest f → parent_of f k ≡ Some p → Avoids D f k → (a : ℕ) → D a ≡ true → is_within f a p ≡ false
above_none D f k p h up avoids a so = by_test (is_within f a p) refl where
  by_test : (b : Bool) → is_within f a p ≡ b → is_within f a p ≡ false
  by_test false is = is
  by_test true is = elim (eqb_tells k a) [
    | inl own ↦ let out : is_within f a p ≡ false = ap (λ n. is_within f n p) (sym own.1) ∙ is_within-parent f k p h up in out
    | inr other ↦ absurd (other.1 (avoids a so (is_within-up f a k p h up other.1 ∙ is)))
  ]

-- so its siblings and its parent avoid them
avoids_child : (D : ℕ → Bool) (f : Forest) (s p : ℕ) → IsForest f → parent_of f s ≡ Some p → ((a : ℕ) → D a ≡ true → is_within f a p ≡ false) → Avoids D f s
avoids_child D f s p h up none a so inside = elim (eqb_tells s a) [
  | inl own ↦ own.1
  | inr other ↦ let bad : false ≡ true = sym (none a so) ∙ sym (is_within-up f a s p h up other.1) ∙ inside in absurd (cc)
]

avoids_none : (D : ℕ → Bool) (f : Forest) (p : ℕ) → ((a : ℕ) → D a ≡ true → is_within f a p ≡ false) → Avoids D f p
avoids_none D f p none a so inside = let bad : false ≡ true = sym (none a so) ∙ inside in absurd (cc)

-- and a node that was taken out is above no more
avoids_taken : (D : ℕ → Bool) (f : Forest) (k q : ℕ) → IsForest f → Avoids D f q → Avoids D (take_out k f) q
avoids_taken D f k q h avoids a so inside =
    avoids a so (both (is_within f a q) _ (sym (is_within-take_out k f a q h) ∙ inside)).0

-- ---- places beside a node

next_other : (xs : List ℕ) (k n : ℕ) → NoRepeats xs → next_in xs k ≡ Some n → eqb n k ≡ false
next_other [] k n nr e = absurd (cc)
next_other (x ∷ xs) k n nr e = grind (arith, e, nr.0, first_of-among xs n, eqb_tells x k, eqb_tells n k, next_other xs k n nr.1)

rises : (o : Option ℕ) → option_map (λ i. i + 1) o ≡ o → o ≡ None
rises None e = refl
rises (Some i) e = absurd (grind (arith, e))

previous_other : (f : Forest) (k s p : ℕ) → IsForest f → parent_of f k ≡ Some p → previous_of f k ≡ Some s → s ≢ k
previous_other f k s p h up before = λ same.
    let step : index_of f k ≡ option_map (λ i. i + 1) (index_in (siblings f k) s) = index_in-step (siblings f k) k s (NoRepeats-siblings f k h) before in
    let none : index_of f k ≡ None = rises (index_of f k) (sym (step ∙ ap (λ q. option_map (λ i. i + 1) (index_in (siblings f k) q)) same)) in
    let at = stands f k p h up in
    let bad : Some at.0 ≡ None = sym at.1 ∙ none in
    absurd (cc)

-- a sibling is outside, and in the tree
sibling_outside : (f : Forest) (k s p : ℕ) → IsForest f → parent_of f k ≡ Some p → parent_of f s ≡ Some p → s ≢ k → is_within f k s ≡ false
sibling_outside f k s p h up too other = is_within-up f k s p h too other ∙ is_within-parent f k p h up

-- a place in the tree that isn't in this node's, and avoids the nodes
pub record IsBeside (D : ℕ → Bool) (f : Forest) (k : ℕ) (to : Point) : Type 0 where
  pub lies_there : lies f to ≡ true
  pub outside : is_within f k to.key ≡ false
  pub avoids : Avoids D f to.key

abbrev pub IfBeside : (ℕ → Bool) → Forest → ℕ → Option Point → Type 0
IfBeside D f k None = Unit {0}
IfBeside D f k (Some to) = IsBeside D f k to

-- a point in characters or between children, by the kind of the node
kind_lies : (D : ℕ → Bool) (f : Forest) (k s : ℕ) (kind : Kind) (at_text at_element : ℕ) → is_within f k s ≡ false → Avoids D f s
    → (has_characters kind ≡ true → lies f (text_point s at_text) ≡ true) → (is_element kind ≡ true → lies f (element_point s at_element) ≡ true)
    → IfBeside D f k (cond (has_characters kind) (Some (text_point s at_text)) (cond (is_element kind) (Some (element_point s at_element)) None))
kind_lies D f k s kind at_text at_element outside avoids text element = by_kind (has_characters kind) (is_element kind) refl refl where
  by_kind : (t e : Bool) → has_characters kind ≡ t → is_element kind ≡ e
      → IfBeside D f k (cond t (Some (text_point s at_text)) (cond e (Some (element_point s at_element)) None))
  by_kind true e is other = record { lies_there = text is; outside = outside; avoids = avoids }
  by_kind false true other is = record { lies_there = element is; outside = outside; avoids = avoids }
  by_kind false false other another = tt

end_lies : (D : ℕ → Bool) (f : Forest) (k s : ℕ) (kind : Option Kind) → kind_of f s ≡ kind → is_attached f s ≡ true → is_within f k s ≡ false → Avoids D f s
    → IfBeside D f k (end_in f s kind)
end_lies D f k s None is there outside avoids = tt
end_lies D f k s (Some kind) is there outside avoids =
    kind_lies D f k s kind (length_of (fields_of f s)) (size_of f s) outside avoids
    (λ text. ap₂ ◌&&◌ there (ap₂ ◌&&◌ (ap (is_counted_in point.Text) is ∙ text) (end_of_text (fields_of f s))))
    (λ element. ap₂ ◌&&◌ there (ap₂ ◌&&◌ (ap (is_counted_in point.Element) is ∙ element) (full _)))

start_lies : (D : ℕ → Bool) (f : Forest) (k s : ℕ) (kind : Option Kind) → kind_of f s ≡ kind → is_attached f s ≡ true → is_within f k s ≡ false → Avoids D f s
    → IfBeside D f k (start_in s kind)
start_lies D f k s None is there outside avoids = tt
start_lies D f k s (Some kind) is there outside avoids =
    kind_lies D f k s kind 0 0 outside avoids
    (λ text. ap₂ ◌&&◌ there (ap₂ ◌&&◌ (ap (is_counted_in point.Text) is ∙ text) (start_of_text (fields_of f s))))
    (λ element. ap₂ ◌&&◌ there (ap₂ ◌&&◌ (ap (is_counted_in point.Element) is ∙ element) (least _)))

-- where points on a node are sent
beside_lies : (D : ℕ → Bool) (f : Forest) (k p : ℕ) (previous next : Option ℕ) → IsForest f → parent_of f k ≡ Some p → is_attached f k ≡ true
    → ((a : ℕ) → D a ≡ true → is_within f a p ≡ false) → previous_of f k ≡ previous → next_of f k ≡ next
    → IfBeside D f k (beside f previous next)
beside_lies D f k p (Some s) next h up there none before behind =
    let too = parent_of-previous f k s p h up before in
    let other : s ≢ k = previous_other f k s p h up before in
    end_lies D f k s (kind_of f s) refl (is_attached-up f s p h too ∙ sym (is_attached-up f k p h up) ∙ there) (sibling_outside f k s p h up too other)
    (avoids_child D f s p h too none)
beside_lies D f k p None (Some s) h up there none before behind =
    let too = parent_of-next f k s p h up behind in
    let other : s ≢ k = λ same. absurd (grind (arith, same, next_other (siblings f k) k s (NoRepeats-siblings f k h) behind, eqb_tells s k)) in
    start_lies D f k s (kind_of f s) refl (is_attached-up f s p h too ∙ sym (is_attached-up f k p h up) ∙ there) (sibling_outside f k s p h up too other)
    (avoids_child D f s p h too none)
beside_lies D f k p None None h up there none before behind = tt

place_lies : (D : ℕ → Bool) (f : Forest) (k p index : ℕ) (there : Option Point) → IsForest f → IsHeld may_hold f → parent_of f k ≡ Some p
    → is_attached f k ≡ true → ((a : ℕ) → D a ≡ true → is_within f a p ≡ false) → index < size_of f p → IfBeside D f k there
    → IsBeside D f k (place_for there p index)
place_lies D f k p index (Some to) h held up attached none within fine = fine
place_lies D f k p index None h held up attached none within fine = record {
  lies_there = ap₂ ◌&&◌ (sym (is_attached-up f k p h up) ∙ attached) (ap₂ ◌&&◌ (parents_are f k p held up) (grind (arith, nat_tests, within)));
  outside = is_within-parent f k p h up;
  avoids = avoids_none D f p none;
}

-- ---- points sent away

-- no point of a range is strictly below the node
abbrev pub IsClear : ℕ → Working → Type 0
IsClear k w = EachPoint (λ x. is_within w.forest k x.key ≡ true → x.key ≡ k) w.selection

-- what is asked of a point
record IsApart (D : ℕ → Bool) (f : Forest) (k : ℕ) (x : Point) : Type 0 where
  pub so : lies f x ≡ true
  pub clear : is_within f k x.key ≡ true → x.key ≡ k
  pub avoids : Avoids D f x.key

abbrev LiesAvoiding : (ℕ → Bool) → Forest → Point → Type 0
LiesAvoiding D f x = (lies f x ≡ true) × Avoids D f x.key

stays_outside : (f : Forest) (k q : ℕ) (inside : Bool) → is_within f k q ≡ inside → q ≢ k → (is_within f k q ≡ true → q ≡ k) → is_within f k q ≡ false
stays_outside f k q true is other clear = absurd (other (clear is))
stays_outside f k q false is other clear = is

sent_point : (D : ℕ → Bool) (f : Forest) (k : ℕ) (to x : Point) → (x.key ≡ k → IsBeside D f k to) → IsApart D f k x → IsBeside D f k (moved_to k to x)
unfolding moved_to
sent_point D f k to x there apart = elim (eqb_tells x.key k) [
  | inl own ↦ rw own.0 (there own.1)
  | inr other ↦
      rw other.0 (record { lies_there = apart.so; outside = stays_outside f k x.key (is_within f k x.key) refl other.1 apart.clear; avoids = apart.avoids })
]

-- ---- taken out

taken_point : (D : ℕ → Bool) (f : Forest) (k p i : ℕ) (x : Point) → IsForest f → parent_of f k ≡ Some p → index_of f k ≡ Some i → IsBeside D f k x
    → LiesAvoiding D (take_out k f) (take_moves p i x)
taken_point D f k p i x h up at beside =
    let parts = both (is_attached f x.key) (lies_in f x) beside.lies_there in (
      ap₂ ◌&&◌ (ap (is_attached (take_out k f)) (key_of_take p i x) ∙ attached_taken f k x.key h (not_root f k p h up) beside.outside parts.0)
          (lies_taken f k p i x.key x.offset x.kind h up at parts.1),
      subst (Avoids D (take_out k f)) (sym (key_of_take p i x)) (avoids_taken D f k x.key h beside.avoids),
    )

one_taken : (D : ℕ → Bool) (f : Forest) (k p i : ℕ) (x : Point) → IsForest f → IsHeld may_hold f → parent_of f k ≡ Some p → index_of f k ≡ Some i
    → IsApart D f k x
    → LiesAvoiding D (take_out k f) (take_moves p i (moved_to k (place_for (beside f (previous_of f k) (next_of f k)) p i) x))
one_taken D f k p i x h held up at apart =
    let to : Point = place_for (beside f (previous_of f k) (next_of f k)) p i in
    let there : x.key ≡ k → IsBeside D f k to = λ own.
    let attached : is_attached f k ≡ true = ap (is_attached f) (sym own) ∙ (both (is_attached f x.key) (lies_in f x) apart.so).0 in
    let none : (a : ℕ) → D a ≡ true → is_within f a p ≡ false = above_none D f k p h up (subst (Avoids D f) own apart.avoids) in
    place_lies D f k p i (beside f (previous_of f k) (next_of f k)) h held up attached none (index_within f k p i up at)
    (beside_lies D f k p (previous_of f k) (next_of f k) h up attached none refl refl) in
    taken_point D f k p i (moved_to k to x) h up at (sent_point D f k to x there apart)

each_apart : (D : ℕ → Bool) (k : ℕ) (w : Working) → IsLying w → IsClear k w → IsAvoiding D w → EachPoint (IsApart D w.forest k) w.selection
each_apart D k w lying clear avoiding =
    each_still (λ x. ((lies w.forest x ≡ true) × (is_within w.forest k x.key ≡ true → x.key ≡ k)) × Avoids D w.forest x.key) (IsApart D w.forest k) w.selection
    (λ x e. record { so = e.0.0; clear = e.0.1; avoids = e.1 })
    (each_both (λ x. (lies w.forest x ≡ true) × (is_within w.forest k x.key ≡ true → x.key ≡ k)) (λ x. Avoids D w.forest x.key) w.selection
    (each_both (λ x. lies w.forest x ≡ true) (λ x. is_within w.forest k x.key ≡ true → x.key ≡ k) w.selection lying clear) avoiding)

-- a node's points sent away, and the node taken out
sent_taken : (D : ℕ → Bool) (k p i : ℕ) (w : Working) → Fit w → IsAvoiding D w → parent_of w.forest k ≡ Some p → index_of w.forest k ≡ Some i → IsClear k w
    → EachPoint (LiesAvoiding D (take_out k w.forest)) (node_taken k (sent_from k (Some p) (Some i) w)).selection
sent_taken D k p i w fit avoiding up at clear =
    let to : Point = place_for (beside w.forest (previous_of w.forest k) (next_of w.forest k)) p i in
    let f : Forest = w.forest in
    let sent : Selection = each_point (moved_to k to) w.selection in
    let each : EachPoint (LiesAvoiding D (take_out k f)) (each_point (take_moves p i) sent) =
    each_moved (λ x. LiesAvoiding D (take_out k f) (take_moves p i x)) (LiesAvoiding D (take_out k f)) (take_moves p i) sent (λ x so. so)
    (each_moved (IsApart D f k) (λ x. LiesAvoiding D (take_out k f) (take_moves p i x)) (moved_to k to) w.selection
    (λ x so. one_taken D f k p i x fit.ready.in_order fit.held up at so) (each_apart D k w fit.lying clear avoiding)) in
    let points : take_points (parent_of f k) (index_of f k) sent ≡ each_point (take_moves p i) sent = ap₂ (λ a b. take_points a b sent) up at in
    subst (EachPoint (LiesAvoiding D (take_out k f))) (sym points) each

ready_from : (k : ℕ) (p i : Option ℕ) (w : Working) → IsReady w → IsReady (sent_from k p i w)
ready_from k (Some p) (Some i) w r = record { in_order = r.in_order; free = r.free }
ready_from k (Some p) None w r = r
ready_from k None i w r = r

-- a draft whose points lie, and avoid the nodes
pub record Kept (D : ℕ → Bool) (w v : Working) : Type 0 where
  pub fit : Fit v
  pub avoiding : IsAvoiding D v
  pub kinds : KindsStay w.forest v.forest

pub kept_self : (D : ℕ → Bool) (w : Working) → Fit w → IsAvoiding D w → Kept D w w
kept_self D w fit avoiding = record { fit = fit; avoiding = avoiding; kinds = record { each = λ q kind e. e } }

pub kept_then : (D : ℕ → Bool) (u v w : Working) → Kept D u v → Kept D v w → Kept D u w
kept_then D u v w a b = record { fit = b.fit; avoiding = b.avoiding; kinds = record { each = λ q kind e. b.kinds.each q kind (a.kinds.each q kind e) } }

pub kept_ok : (D : ℕ → Bool) (w u v : Working) → Kept D w u → ◌≡◌ {A = Result Working Cause} (Ok u) (Ok v) → Kept D w v
kept_ok D w u v a e = let is : u ≡ v = cc in subst (Kept D w) is a

kept_taken : (D : ℕ → Bool) (k : ℕ) (w s : Working) → Fit w → s.forest ≡ w.forest → s.written ≡ w.written → AreCovered s (node_taken k s)
    → EachPoint (LiesAvoiding D (take_out k w.forest)) (node_taken k s).selection → Kept D w (node_taken k s)
kept_taken D k w s fit same wrote all each =
    let g : Forest = take_out k w.forest in
    let g_is : g ≡ take_out k s.forest = ap (take_out k) (sym same) in
    let short : AreShort g w.written = same-short w.forest g w.written (λ q. label_of-take_out k w.forest q fit.ready.in_order) fit.short in
    record {
      fit = record {
        ready = all.ready;
        held = subst (IsHeld may_hold) g_is (IsHeld-take_out may_hold w.forest fit.ready.in_order fit.held k);
        short = subst (AreShort (take_out k s.forest)) (sym wrote) (subst (λ f. AreShort f w.written) g_is short);
        lying = subst (λ f. EachPoint (λ x. lies f x ≡ true) (node_taken k s).selection) g_is
            (each_still (LiesAvoiding D g) (λ x. lies g x ≡ true) (node_taken k s).selection (λ x e. e.0) each);
      };
      avoiding =
          subst (λ f. EachPoint (λ x. Avoids D f x.key) (node_taken k s).selection) g_is
          (each_still (LiesAvoiding D g) (λ x. Avoids D g x.key) (node_taken k s).selection (λ x e. e.1) each);
      kinds = record { each = λ q kind e. all.kinds.each q kind (ap (λ f. kind_of f q) same ∙ e) };
    }

take_keeps : (D : ℕ → Bool) (k : ℕ) (w v : Working) → Fit w → IsAvoiding D w → IsClear k w → take_step k (sent_away k w) ≡ Ok v → Kept D w v
unfolding take_step sent_away
take_keeps D k w v fit avoiding clear e = by_place (parent_of w.forest k) (index_of w.forest k) refl refl e where
  by_place : (p i : Option ℕ) → parent_of w.forest k ≡ p → index_of w.forest k ≡ i
      → answer (option_or (detach_fault k (sent_from k p i w).forest) (over_counts (sent_from k p i w))) (node_taken k (sent_from k p i w)) ≡ Ok v → Kept D w v
  by_place (Some p) (Some i) up at e =
      let s : Working = sent_from k (Some p) (Some i) w in
      let told = answered (option_or (detach_fault k s.forest) (over_counts s)) (node_taken k s) v e in
      let all = covered-take k s (node_taken k s) (ready_from k (Some p) (Some i) w fit.ready) (ap (λ o. answer o (node_taken k s)) told.0) in
      subst (Kept D w) told.1 (kept_taken D k w s fit refl refl all (sent_taken D k p i w fit avoiding up at clear))
  by_place (Some p) None up at e = let s = stands w.forest k p fit.ready.in_order up in let bad : Some s.0 ≡ None = sym s.1 ∙ at in absurd (cc)
  by_place None i up at e =
      let told = answered (option_or (detach_fault k w.forest) (over_counts w)) (node_taken k w) v e in
      let below = taken_below w.forest k (both_none (detach_fault k w.forest) (over_counts w) told.0).0 in
      let bad : Some below.1.0 ≡ None = sym below.1.1 ∙ up in absurd (cc)

-- ---- and those above

-- nothing is strictly below a node without children
empty : (xs : List ℕ) → length xs ≡ 0 → xs ≡ []
empty [] e = refl
empty (x ∷ xs) e = absurd (omega (arith, e))

pub clear_leaf : (k : ℕ) (w : Working) → Fit w → children_of w.forest k ≡ [] → IsClear k w
clear_leaf k w fit none =
    each_all (λ x. is_within w.forest k x.key ≡ true → x.key ≡ k) w.selection
    (λ x inside. grind (arith, inside, is_within-leaf w.forest k x.key fit.ready.in_order none, eqb_tells x.key k))

pub clear_empty : (k : ℕ) (w : Working) → Fit w → size_of w.forest k ≡ 0 → IsClear k w
clear_empty k w fit none = clear_leaf k w fit (empty (children_of w.forest k) none)

-- and where a node is one that points avoid, none is strictly below it
pub clear_avoided : (D : ℕ → Bool) (k : ℕ) (w : Working) → IsAvoiding D w → D k ≡ true → IsClear k w
clear_avoided D k w avoiding so =
    each_still (λ x. Avoids D w.forest x.key) (λ x. is_within w.forest k x.key ≡ true → x.key ≡ k) w.selection (λ x avoids inside. avoids k so inside) avoiding

-- a node that goes too has no children
goes_empty : (inner : Option Kind) (f : Forest) (p : ℕ) → goes_too inner f p ≡ true → size_of f p ≡ 0
goes_empty inner f p e =
    let first = both (eqb (size_of f p) 0) (is_some (parent_of f p) && may_not_be_left (kind_of f p) inner) e in
    grind (arith, first.0, eqb_tells (size_of f p) 0)

-- the node above goes too, or not
goes_on : (D : ℕ → Bool) (p : ℕ) (above : List ℕ) (inner : Option Kind) (u v : Working) (goes : Bool)
    → ((x y : Working) → Fit x → IsAvoiding D x → IsClear p x → removed p above x ≡ Ok y → Kept D x y)
    → goes_too inner u.forest p ≡ goes → Fit u → IsAvoiding D u → cond goes (removed p above u) (Ok u) ≡ Ok v → Kept D u v
goes_on D p above inner u v true again so fit avoiding e = again u v fit avoiding (clear_empty p u fit (goes_empty inner u.forest p so)) e
goes_on D p above inner u v false again so fit avoiding e = kept_ok D u u v (kept_self D u fit avoiding) e

removed_keeps : (D : ℕ → Bool) (k : ℕ) (above : List ℕ) (w v : Working) → Fit w → IsAvoiding D w → IsClear k w → removed k above w ≡ Ok v → Kept D w v
removed_keeps D k [] w v fit avoiding clear e = take_keeps D k w v fit avoiding clear e
removed_keeps D k (p ∷ above) w v fit avoiding clear e =
    let first = after_tells (take_step k (sent_away k w)) (λ u. cond (goes_too (kind_of w.forest k) u.forest p) (removed p above u) (Ok u)) v e in
    let kept = take_keeps D k w first.0 fit avoiding clear first.1.0 in
    kept_then D w first.0 v kept
    (goes_on D p above (kind_of w.forest k) first.0 v (goes_too (kind_of w.forest k) first.0.forest p) (removed_keeps D p above) refl kept.fit kept.avoiding
    first.1.1)

pub remove_keeps : (D : ℕ → Bool) (k : ℕ) (w v : Working) → Fit w → IsAvoiding D w → IsClear k w → remove_step k w ≡ Ok v → Kept D w v
unfolding remove_step
remove_keeps D k w v fit avoiding clear e = removed_keeps D k (ancestors w.forest k) w v fit avoiding clear e

-- where nothing is to be avoided
abbrev pub nowhere : ℕ → Bool
nowhere a = false

pub avoiding_nowhere : (w : Working) → IsAvoiding nowhere w
avoiding_nowhere w = each_all (λ x. Avoids nowhere w.forest x.key) w.selection (λ x a so inside. absurd (cc))

pub remove_fits : (k : ℕ) (w v : Working) → Fit w → IsClear k w → remove_step k w ≡ Ok v → Fit v
remove_fits k w v fit clear e = (remove_keeps nowhere k w v fit (avoiding_nowhere w) clear e).fit
