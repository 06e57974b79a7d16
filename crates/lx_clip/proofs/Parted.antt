-- A block in the tree stays there while those of its children that come after a point go to a new one, which is below
-- nothing yet.
use Rattle.std.proofs.Common.{◌≡◌, ◌∙◌, ℕ, zero, suc, true, false, List, [], ◌∷◌, drop, Option, None, Some, Result, Ok, sym, ap, subst, arith}
use Rattle.std.specs.Prelude.{slice_get}
use Rattle.std.specs.Option.{option_or}
use Rattle.std.proofs.lemmas.Bool.Decides.{eqb_tells}
use Rattle.lx_trees.specs.Siblings.{is_among, is_named}
use Rattle.lx_node.specs.Strings.{characters_of}
use Rattle.lx_node.specs.declared.kind.Kind.{Kind}
use Rattle.lx_node.specs.declared.fields.Fields.{Fields}
use Rattle.lx_node.specs.declared.cause.Cause.{Cause}
use Rattle.lx_trees.proofs.Siblings.{is_named_tells}
use Rattle.lx_forest.specs.Forest.{Forest, Label}
use Rattle.lx_forest.specs.Lookups.{has, label_of, parent_of, children_of, size_of, is_within, is_attached, IsForest}
use Rattle.lx_forest.specs.Edits.{with_new, take_out, put_in}
use Rattle.lx_forest.proofs.Lookups.{is_among-children_of}
use Rattle.lx_forest.proofs.Within.{is_within-parent, is_within-with_new, is_within-take_out, is_within-put_in}
use Rattle.lx_links.specs.Faults.{detach_fault}
use Rattle.lx_draft.specs.Working.{Working}
use Rattle.lx_draft.specs.Faults.{after, over_counts, over_limits, put_fault}
use Rattle.lx_draft.specs.Steps.{made, new_step, node_taken, take_step, node_placed, put_step}
use Rattle.lx_draft.proofs.Covered.{answered}
use Rattle.lx_draft.proofs.Put.{both_none}
use Rattle.lx_edit.specs.InTurn.{in_turn}
use Rattle.lx_edit.specs.Edits.{moved_to_end}
use Rattle.lx_blocks.specs.Making.{new_like}
use Rattle.lx_caret.proofs.Lies.{attached_taken}
use Rattle.lx_caret.proofs.Fit.{after_tells, Fit, puts}
use Rattle.lx_caret.proofs.Moves.{taken_below, not_root}
use Rattle.lx_caret.proofs.Breaks.{attached_known, stays_like}
use Rattle.lx_clip.specs.Pasting.{Tailed, tail_made}
use Rattle.lx_clip.proofs.Sound.{IsSound, sound_of, sound_take, sound_put}

-- a child of a node isn't above it
pub named_up : (f : Forest) (k p : ℕ) → IsForest f → is_among k (children_of f p) ≡ true → parent_of f k ≡ Some p
named_up f k p h among =
    let named : is_named (parent_of f k) p ≡ true = sym (is_among-children_of f k p h) ∙ among in
    grind (arith, named, is_named_tells (parent_of f k) p)

pub among_drop : (n : ℕ) (xs : List ℕ) (k : ℕ) → is_among k (drop n xs) ≡ true → is_among k xs ≡ true
among_drop zero xs k among = among
among_drop (suc n) [] k among = among
among_drop (suc n) (x ∷ xs) k among = grind (arith, among_drop n xs k among)

-- the block is in the tree, and below no more nodes than it was
record IsLeft (block : ℕ) (w v : Working) : Type 0 where
  pub sound : IsSound v
  pub place : is_attached v.forest block ≡ true
  pub apart : (q : ℕ) → is_within w.forest q block ≡ false → is_within v.forest q block ≡ false

left_self : (block : ℕ) (w v : Working) → IsSound w → is_attached w.forest block ≡ true → ◌≡◌ {A = Result Working Cause} (Ok w) (Ok v) → IsLeft block w v
left_self block w v s place e = let is : w ≡ v = cc in subst (IsLeft block w) is (record { sound = s; place = place; apart = λ q out. out })

left_then : (block : ℕ) (u v w : Working) → IsLeft block u v → IsLeft block v w → IsLeft block u w
left_then block u v w a b = record { sound = b.sound; place = b.place; apart = λ q out. b.apart q (a.apart q out) }

-- ---- the new block

new_outside : (l : Label) (f : Forest) (block q : ℕ) → has l.key f ≡ false → has block f ≡ true → is_within f q block ≡ false
    → is_within (with_new l f) q block ≡ false
new_outside l f block q free known out = is_within-with_new l f q block free ∙ grind (arith, out, free, known, eqb_tells block l.key)

new_apart : (block : ℕ) (kind : Kind) (fields : Fields) (w v : Working) (q : ℕ) → IsSound w → is_attached w.forest block ≡ true → new_step kind fields w ≡ Ok v
    → is_within w.forest q block ≡ false → is_within v.forest q block ≡ false
unfolding new_step
new_apart block kind fields w v q s place e out =
    let l : Label = record { key = w.next_key; kind = kind; fields = fields } in
    let free : has w.next_key w.forest ≡ false = s.ready.free w.next_key (omega arith) in
    let known : has block w.forest ≡ true = attached_known w.forest block s.ready.in_order place in
    let told = answered (over_limits (characters_of fields) w) (made kind fields w) v e in
    subst (λ u. is_within u.forest q block ≡ false) told.1 (new_outside l w.forest block q free known out)

like_apart : (block : ℕ) (l : Option Label) (w v : Working) (q : ℕ) → IsSound w → is_attached w.forest block ≡ true → new_like l w ≡ Ok v
    → is_within w.forest q block ≡ false → is_within v.forest q block ≡ false
like_apart block None w v q s place e out = let is : w ≡ v = cc in subst (λ u. is_within u.forest q block ≡ false) is out
like_apart block (Some l) w v q s place e out = new_apart block l.kind l.fields w v q s place e out

-- ---- children moved

left_taken : (block k : ℕ) (w v : Working) → IsSound w → is_attached w.forest block ≡ true → is_within w.forest k block ≡ false → take_step k w ≡ Ok v
    → IsLeft block w v
unfolding take_step
left_taken block k w v s place out e =
    let h = s.ready.in_order in
    let told = answered (option_or (detach_fault k w.forest) (over_counts w)) (node_taken k w) v e in
    let below = taken_below w.forest k (both_none (detach_fault k w.forest) (over_counts w) told.0).0 in
    let same : take_out k w.forest ≡ v.forest = ap (λ (u : Working). u.forest) told.1 in
    record {
      sound = sound_take k w v s e;
      place = subst (λ f. is_attached f block ≡ true) same (attached_taken w.forest k block h (not_root w.forest k below.1.0 h below.1.1) out place);
      apart = λ q free. subst (λ f. is_within f q block ≡ false) same (grind (arith, free, is_within-take_out k w.forest q block h));
    }

left_put : (block k p index : ℕ) (w v : Working) → IsSound w → is_attached w.forest block ≡ true → is_within w.forest k block ≡ false
    → put_step k p index w ≡ Ok v → IsLeft block w v
unfolding put_step
left_put block k p index w v s place out e =
    let h = s.ready.in_order in
    let told = answered (option_or (put_fault k p index w.forest) (over_counts w)) (node_placed k p index w) v e in
    let may = (puts w.forest k p index (both_none (put_fault k p index w.forest) (over_counts w) told.0).0).may in
    let before : Option ℕ = slice_get (children_of w.forest p) index in
    let same : put_in p before k w.forest ≡ v.forest = ap (λ (u : Working). u.forest) told.1 in
    let put = sound_put k p index w v s e in
    record {
      sound = put.sound;
      place = put.attached block place;
      apart = λ q free. subst (λ f. is_within f q block ≡ false) same (is_within-put_in p before k w.forest q block h may ∙ grind (arith, free, out));
    }

left_moved : (block parent k : ℕ) (w v : Working) → IsSound w → is_attached w.forest block ≡ true → is_within w.forest k block ≡ false
    → moved_to_end parent k w ≡ Ok v → IsLeft block w v
unfolding moved_to_end
left_moved block parent k w v s place out e =
    let first = after_tells (take_step k w) (λ u. put_step k parent (size_of u.forest parent) u) v e in
    let taken = left_taken block k w first.0 s place out first.1.0 in
    left_then block w first.0 v taken (left_put block k parent (size_of first.0.forest parent) first.0 v taken.sound taken.place (taken.apart k out) first.1.1)

left_each : (block parent : ℕ) (ks : List ℕ) (w v : Working) → IsSound w → is_attached w.forest block ≡ true
    → ((k : ℕ) → is_among k ks ≡ true → is_within w.forest k block ≡ false) → in_turn (moved_to_end parent) ks w ≡ Ok v → IsLeft block w v
unfolding in_turn
left_each block parent [] w v s place out e = left_self block w v s place e
left_each block parent (k ∷ ks) w v s place out e =
    let first = after_tells (moved_to_end parent k w) (in_turn (moved_to_end parent) ks) v e in
    let one = left_moved block parent k w first.0 s place (out k (grind (arith, eqb_tells k k))) first.1.0 in
    left_then block w first.0 v one (left_each block parent ks first.0 v one.sound one.place (λ q among. one.apart q (out q (grind (arith, among)))) first.1.1)

-- ---- the whole

pub record IsTailed (block : ℕ) (v : Working) : Type 0 where
  pub sound : IsSound v
  pub place : is_attached v.forest block ≡ true

pub tailed : (block : ℕ) (moved : List ℕ) (w : Working) (t : Tailed) → Fit w → is_attached w.forest block ≡ true
    → ((k : ℕ) → is_among k moved ≡ true → parent_of w.forest k ≡ Some block) → tail_made block moved w ≡ Ok t → IsTailed block t.draft
tailed block [] w t fit place up e = let is : w ≡ t.draft = cc in subst (IsTailed block) is (record { sound = sound_of w fit; place = place })
tailed block (k ∷ ks) w t fit place up e =
    let left : Working → Result Tailed Cause = λ v. Ok (record { draft = v; key = Some w.next_key }) in
    let like : Option Label = label_of w.forest block in
    let one = after_tells {A = Working} {B = Tailed} (new_like like w) (λ u. after (in_turn (moved_to_end w.next_key) (k ∷ ks) u) left) t e in
    let two = after_tells {A = Working} {B = Tailed} (in_turn (moved_to_end w.next_key) (k ∷ ks) one.0) left t one.1.1 in
    let last : ◌≡◌ {A = Result Tailed Cause} (Ok (record { draft = two.0; key = Some w.next_key })) (Ok t) = two.1.1 in
    let is : two.0 ≡ t.draft = cc in
    let made = stays_like like w one.0 fit one.1.0 in
    let out : (q : ℕ) → is_among q (k ∷ ks) ≡ true → is_within one.0.forest q block ≡ false =
    λ q among. like_apart block like w one.0 q (sound_of w fit) place one.1.0 (is_within-parent w.forest q block fit.ready.in_order (up q among)) in
    let all = left_each block w.next_key (k ∷ ks) one.0 two.0 (sound_of one.0 made.fit) (made.attached block place) out two.1.0 in
    subst (IsTailed block) is (record { sound = all.sound; place = all.place })
