-- Drafts whose selection may lie outside the tree, as while what is to go back into it is below nothing: what each step
-- leaves in the tree, and the caret that is put back there.
use Rattle.std.proofs.Common.{◌≡◌, ◌≢◌, ◌∙◌, ℕ, ◌+◌, Bool, true, false, cond, ◌&&◌, List, [], ◌∷◌, Option, None, Some, Result, Ok, refl, sym, ap, ap₂, subst, arith, inl, inr}
use Rattle.std.specs.Prelude.{slice_get, unwrap_or}
use Rattle.std.specs.Option.{option_or}
use Rattle.std.proofs.lemmas.Bool.Decides.{eqb_tells}
use Rattle.lx_trees.specs.Siblings.{is_among, last_from, last_of}
use Rattle.lx_node.specs.Kinds.{may_hold, is_element, has_characters}
use Rattle.lx_node.specs.declared.kind.Kind.{Kind}
use Rattle.lx_node.specs.declared.cause.Cause.{Cause}
use Rattle.lx_node.specs.declared.cause.Point.{Point}
use Rattle.lx_node.specs.declared.cause.PointKind.TheVariants as point
use Rattle.lx_trees.proofs.NamedTrees.{is_among-preorder}
use Rattle.lx_forest.specs.Forest.{Forest}
use Rattle.lx_forest.specs.Lookups.{key_of, alone, kind_of, fields_of, parent_of, index_of, children_of, size_of, keys_within, is_within, is_attached, IsForest, IsHeld}
use Rattle.lx_forest.specs.Edits.{take_out, put_in}
use Rattle.lx_forest.proofs.Held.{IsHeld-take_out, IsHeld-put_in}
use Rattle.lx_forest.proofs.Lookups.{label_of-take_out, label_of-put_in}
use Rattle.lx_forest.proofs.Walks.{is_attached-up}
use Rattle.lx_forest.proofs.Within.{is_within-trans}
use Rattle.lx_links.specs.Faults.{detach_fault}
use Rattle.lx_draft.specs.Working.{Working, TextsAreShort}
use Rattle.lx_draft.specs.Covering.{IsReady}
use Rattle.lx_draft.specs.Selecting.{is_counted_in, length_of}
use Rattle.lx_draft.specs.Faults.{answer, over_counts, put_fault}
use Rattle.lx_draft.specs.Steps.{node_taken, take_step, node_placed, put_step}
use Rattle.lx_draft.specs.Beside.{behind_at, put_behind_step}
use Rattle.lx_draft.proofs.Covered.{answered}
use Rattle.lx_draft.proofs.CoveredSteps.{covered-take, covered-put}
use Rattle.lx_draft.proofs.Put.{both_none}
use Rattle.lx_edit.specs.Edits.{text_point, element_point, end_in}
use Rattle.lx_blocks.specs.Ranges.{lies, caret_at}
use Rattle.lx_caret.specs.Inserting.{place_behind}
use Rattle.lx_caret.proofs.Lies.{full, end_in as end_of_text}
use Rattle.lx_caret.proofs.Fit.{each_moved, each_all, after_tells, Fit, puts, attached_put}
use Rattle.lx_draft.proofs.Short.{same-short}
use Rattle.lx_caret.proofs.Moves.{was_put}
use Rattle.lx_caret.proofs.Parents.{kind_known, above_attached}
use Rattle.lx_caret.proofs.Selected.{last_among}
use Rattle.lx_caret.proofs.Adds.{behind_lies}
use Rattle.lx_caret.proofs.Breaks.{attached_known}
use Rattle.lx_clip.specs.Pasting.{put_behind_each, end_at_leaf, last_leaf, end_below, caret_by, caret_after}

-- all that is asked of a draft but that its selection lies in the tree
pub record IsSound (w : Working) : Type 0 where
  pub ready : IsReady w
  pub held : IsHeld may_hold w.forest
  pub short : TextsAreShort w

pub sound_of : (w : Working) → Fit w → IsSound w
sound_of w fit = record { ready = fit.ready; held = fit.held; short = fit.short }

-- such a draft that still has in the tree what the other one had
pub record StaysSound (w v : Working) : Type 0 where
  pub sound : IsSound v
  pub attached : (q : ℕ) → is_attached w.forest q ≡ true → is_attached v.forest q ≡ true

pub sound_then : (u v w : Working) → StaysSound u v → StaysSound v w → StaysSound u w
sound_then u v w a b = record { sound = b.sound; attached = λ q e. b.attached q (a.attached q e) }

pub sound_ok : (w v : Working) → IsSound w → ◌≡◌ {A = Result Working Cause} (Ok w) (Ok v) → StaysSound w v
sound_ok w v s e = let is : w ≡ v = cc in subst (StaysSound w) is (record { sound = s; attached = λ q place. place })

-- ---- taken, and put

pub sound_take : (k : ℕ) (w v : Working) → IsSound w → take_step k w ≡ Ok v → IsSound v
unfolding take_step
sound_take k w v s e =
    let h = s.ready.in_order in
    let told = answered (option_or (detach_fault k w.forest) (over_counts w)) (node_taken k w) v e in
    let all = covered-take k w (node_taken k w) s.ready (ap (λ o. answer o (node_taken k w)) told.0) in
    subst IsSound told.1 (record {
      ready = all.ready;
      held = IsHeld-take_out may_hold w.forest h s.held k;
      short = same-short w.forest (take_out k w.forest) w.written (λ q. label_of-take_out k w.forest q h) s.short;
    })

pub sound_put : (k p index : ℕ) (w v : Working) → IsSound w → put_step k p index w ≡ Ok v → StaysSound w v
unfolding put_step
sound_put k p index w v s e =
    let h = s.ready.in_order in
    let told = answered (option_or (put_fault k p index w.forest) (over_counts w)) (node_placed k p index w) v e in
    let all = covered-put k p index w (node_placed k p index w) s.ready (ap (λ o. answer o (node_placed k p index w)) told.0) in
    let is = puts w.forest k p index (both_none (put_fault k p index w.forest) (over_counts w) told.0).0 in
    let before : Option ℕ = slice_get (children_of w.forest p) index in
    subst (StaysSound w) told.1 (record {
      sound = record {
        ready = all.ready;
        held = IsHeld-put_in may_hold w.forest h s.held p before k is.may is.fits;
        short = same-short w.forest (put_in p before k w.forest) w.written (λ q. label_of-put_in p before k w.forest q h is.may) s.short;
      };
      attached = λ q so. attached_put w.forest k p before q h is.may so;
    })

-- ---- put after a node

sound_behind_at : (k other : ℕ) (p index : Option ℕ) (w v : Working) → IsSound w → behind_at k other p index w ≡ Ok v → StaysSound w v
sound_behind_at k other (Some p) (Some index) w v s e = sound_put k p (index + 1) w v s e
sound_behind_at k other None index w v s e = absurd (cc)
sound_behind_at k other (Some p) None w v s e = absurd (cc)

pub sound_behind : (k other : ℕ) (w v : Working) → IsSound w → put_behind_step k other w ≡ Ok v → StaysSound w v
unfolding put_behind_step
sound_behind k other w v s e = sound_behind_at k other (parent_of w.forest other) (index_of w.forest other) w v s e

-- it is in the tree where the other one is
comes_in_at : (k other : ℕ) (p index : Option ℕ) (w v : Working) → IsSound w → parent_of w.forest other ≡ p → is_attached w.forest other ≡ true
    → behind_at k other p index w ≡ Ok v → is_attached v.forest k ≡ true
comes_in_at k other (Some p) (Some index) w v s up place e =
    let h = s.ready.in_order in (was_put k p (index + 1) w v h e).attached (sym (is_attached-up w.forest other p h up) ∙ place)
comes_in_at k other None index w v s up place e = absurd (cc)
comes_in_at k other (Some p) None w v s up place e = absurd (cc)

comes_in : (k other : ℕ) (w v : Working) → IsSound w → is_attached w.forest other ≡ true → put_behind_step k other w ≡ Ok v → is_attached v.forest k ≡ true
unfolding put_behind_step
comes_in k other w v s place e = comes_in_at k other (parent_of w.forest other) (index_of w.forest other) w v s refl place e

-- all of these are in the tree
abbrev pub AreIn : Working → List ℕ → Type 0
AreIn w ks = (q : ℕ) → is_among q ks ≡ true → is_attached w.forest q ≡ true

pub with_one : (k : ℕ) (ks : List ℕ) (w : Working) → is_attached w.forest k ≡ true → AreIn w ks → AreIn w (k ∷ ks)
with_one k ks w place rest q among = elim (eqb_tells k q) [
  | inl own ↦ ap (is_attached w.forest) (sym own.1) ∙ place
  | inr other ↦ rest q (grind (arith, among, other.0))
]

pub record IsRow (w v : Working) (ks : List ℕ) : Type 0 where
  pub stays : StaysSound w v
  pub place : AreIn v ks

-- each after the one before
pub row_in : (other : ℕ) (ks : List ℕ) (w v : Working) → IsSound w → is_attached w.forest other ≡ true → put_behind_each other ks w ≡ Ok v → IsRow w v ks
unfolding put_behind_each
row_in other [] w v s place e = record { stays = sound_ok w v s e; place = λ q among. absurd (cc) }
row_in other (k ∷ ks) w v s place e =
    let first = after_tells (put_behind_step k other w) (put_behind_each k ks) v e in
    let one = sound_behind k other w first.0 s first.1.0 in
    let here = comes_in k other w first.0 s place first.1.0 in
    let rest = row_in k ks first.0 v one.sound here first.1.1 in
    record { stays = sound_then w first.0 v one rest.stays; place = with_one k ks v (rest.stays.attached k here) rest.place }

-- ---- the end of a node

-- the last of a tree in the tree is in it
last_in : (f : Forest) (k : ℕ) → IsForest f → is_attached f k ≡ true → is_attached f (last_leaf f k) ≡ true
last_in f k h place = by_last (last_of (keys_within f k)) refl where
  by_last : (o : Option ℕ) → last_of (keys_within f k) ≡ o → is_attached f (unwrap_or o k) ≡ true
  by_last None is = place
  by_last (Some q) is =
      let inside : is_within f k q ≡ true = sym (is_among-preorder key_of q (alone k f)) ∙ last_among (keys_within f k) q is in
      is_within-trans f 0 k q h place inside

-- the root is an element
no_root : (f : Forest) (k : ℕ) (kind : Kind) → IsForest f → kind_of f k ≡ Some kind → is_element kind ≡ false → k ≢ 0
unfolding is_element
no_root f k kind h is leaf = λ same.
    let bad : true ≡ false =
    sym (ap (is_counted_in point.Element) h.root) ∙ ap (is_counted_in point.Element) (sym (ap (kind_of f) same) ∙ is) ∙ leaf in absurd (cc)

leaf_end : (f : Forest) (k : ℕ) → IsForest f → IsHeld may_hold f → is_attached f k ≡ true → lies f (end_at_leaf f k) ≡ true
leaf_end f k h held place =
    let known = kind_known f k (attached_known f k h place) in
    ap (λ o. lies f (unwrap_or (end_in f k o) (place_behind f k))) known.1
    ∙ by_kind known.0 known.1 (has_characters known.0) (is_element known.0) refl refl where
      by_kind : (kind : Kind) → kind_of f k ≡ Some kind → (t e : Bool) → has_characters kind ≡ t → is_element kind ≡ e
          → lies f
          (unwrap_or (cond t (Some (text_point k (length_of (fields_of f k)))) (cond e (Some (element_point k (size_of f k))) None)) (place_behind f k))
          ≡ true
      by_kind kind is true e text element = ap₂ ◌&&◌ place (ap₂ ◌&&◌ (ap (is_counted_in point.Text) is ∙ text) (end_of_text (fields_of f k)))
      by_kind kind is false true text element = ap₂ ◌&&◌ place (ap₂ ◌&&◌ (ap (is_counted_in point.Element) is ∙ element) (full (size_of f k)))
      by_kind kind is false false text element =
          let above = above_attached f k h place (no_root f k kind h is element) in
          behind_lies f k above.0 h held above.1 place

pub end_lies : (f : Forest) (k : ℕ) → IsForest f → IsHeld may_hold f → is_attached f k ≡ true → lies f (end_below f k) ≡ true
end_lies f k h held place = leaf_end f (last_leaf f k) h held (last_in f k h place)

-- ---- the caret

pub caret_sound : (there : Point) (w : Working) → IsSound w → lies w.forest there ≡ true → Fit (caret_at there w)
caret_sound there w s so = record {
  ready = record { in_order = s.ready.in_order; free = s.ready.free };
  held = s.held;
  short = s.short;
  lying = each_moved (λ x. Unit {0}) (λ x. lies w.forest x ≡ true) (λ p. there) w.selection (λ x e. so) (each_all (λ x. Unit {0}) w.selection (λ x. tt));
}

-- nodes have a last one
last_some : (k : ℕ) (ks : List ℕ) → (last : ℕ) × (last_from (Some k) ks ≡ Some last)
last_some k [] = (k, refl)
last_some k (x ∷ xs) = last_some x xs

-- wherever the selection was, the caret at the end of the last of nodes in the tree lies in it
pub after_fits : (k : ℕ) (ks : List ℕ) (w : Working) → IsSound w → AreIn w (k ∷ ks) → Fit (caret_after (k ∷ ks) w)
after_fits k ks w s place =
    let last = last_some k ks in
    let there : is_attached w.forest last.0 ≡ true = place last.0 (last_among (k ∷ ks) last.0 last.1) in
    subst (λ o. Fit (caret_by o w)) (sym last.1) (caret_sound (end_below w.forest last.0) w s (end_lies w.forest last.0 s.ready.in_order s.held there))
