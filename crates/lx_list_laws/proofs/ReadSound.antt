-- Each edit leaves a draft in which every node holds what it may, and every node that was there with its kind.
use Rattle.std.proofs.Common.{◌≡◌, ◌∙◌, ℕ, ◌≤◌, false, List, length, Ok, refl, sym, ap, subst, arith}
use Rattle.std.specs.Prelude.{slice_get}
use Rattle.std.specs.Option.{option_or}
use Rattle.lx_node.specs.Kinds.{may_hold}
use Rattle.lx_node.specs.Strings.{characters_of}
use Rattle.lx_node.specs.declared.kind.Kind.{Kind}
use Rattle.lx_node.specs.declared.fields.Fields.{Fields}
use Rattle.lx_forest.specs.Lookups.{has, label_of, kind_of, children_of, IsForest, IsHeld}
use Rattle.lx_forest.specs.Edits.{with_new, with_fields}
use Rattle.lx_forest.proofs.Held.{IsHeld-with_new, IsHeld-with_fields, IsHeld-take_out, IsHeld-put_in}
use Rattle.lx_links.specs.Faults.{set_fault}
use Rattle.lx_draft.specs.Working.{Working}
use Rattle.lx_draft.specs.Covering.{KindsStay, AreCovered}
use Rattle.lx_draft.specs.Faults.{over_counts, over_limits, put_fault, splice_fault}
use Rattle.lx_draft.specs.Steps.{made, new_step, fields_written, set_points, set_step, splice_points, label_with_piece, splice_step, take_step, node_placed, put_step}
use Rattle.lx_draft.proofs.Covered.{answered}
use Rattle.lx_draft.proofs.CoveredSteps.{covered-new, covered-set, covered-splice, covered-take, covered-put}
use Rattle.lx_draft.proofs.Put.{both_none, can_put, put_fits}
use Rattle.lx_edit.proofs.Climbed.{taken-forest}
use Rattle.lx_blocks.proofs.Paths.{IsWay}
use Rattle.lx_list_laws.specs.Reading.{IsSoundDraft}

-- what became of a draft is sound, and each node has its kind
pub record StaysSound (w v : Working) : Type 0 where
  pub sound : IsSoundDraft v
  pub kinds : KindsStay w.forest v.forest

by_covered : (w v : Working) → AreCovered w v → IsHeld may_hold v.forest → StaysSound w v
by_covered w v c held = record { sound = record { ready = c.ready; held = held }; kinds = c.kinds }

pub stays_then : (u v w : Working) → StaysSound u v → StaysSound v w → StaysSound u w
stays_then u v w a b = record { sound = b.sound; kinds = record { each = λ q kind is. b.kinds.each q kind (a.kinds.each q kind is) } }

pub stays_selected : (w v : Working) → IsSoundDraft w → v.forest ≡ w.forest → v.next_key ≡ w.next_key → StaysSound w v
stays_selected w v s same key = record {
  sound = record {
    ready = record {
      in_order = subst IsForest (sym same) s.ready.in_order;
      free = λ q above. ap (has q) same ∙ s.ready.free q (subst (λ n. n ≤ q) key above);
    };
    held = subst (IsHeld may_hold) (sym same) s.held;
  };
  kinds = record { each = λ q kind is. ap (λ f. kind_of f q) same ∙ is };
}

-- ---- a new node

pub new_forest : (kind : Kind) (fields : Fields) (w v : Working) → new_step kind fields w ≡ Ok v
    → v.forest ≡ with_new (record { key = w.next_key; kind = kind; fields = fields }) w.forest
unfolding new_step
new_forest kind fields w v e = ap (λ (x : Working). x.forest) (sym (answered (over_limits (characters_of fields) w) (made kind fields w) v e).1)

pub is_free : (w : Working) → IsSoundDraft w → has w.next_key w.forest ≡ false
is_free w s = s.ready.free w.next_key (omega arith)

pub sound_new : (kind : Kind) (fields : Fields) (w v : Working) → IsSoundDraft w → new_step kind fields w ≡ Ok v → StaysSound w v
sound_new kind fields w v s e =
    by_covered w v (covered-new kind fields w v s.ready e)
    (subst (IsHeld may_hold) (sym (new_forest kind fields w v e))
    (IsHeld-with_new may_hold w.forest s.ready.in_order s.held (record { key = w.next_key; kind = kind; fields = fields }) (is_free w s)))

-- ---- fields

pub set_forest : (k : ℕ) (fields : Fields) (w v : Working) → set_step k fields w ≡ Ok v → v.forest ≡ with_fields k fields w.forest
unfolding set_step
set_forest k fields w v e =
    ap (λ (x : Working). x.forest)
    (sym (answered (option_or (set_fault k fields w.forest) (over_limits (characters_of fields) w))
    (fields_written k fields (characters_of fields) (set_points k fields) w) v e).1)

sound_set : (k : ℕ) (fields : Fields) (w v : Working) → IsSoundDraft w → set_step k fields w ≡ Ok v → StaysSound w v
sound_set k fields w v s e =
    by_covered w v (covered-set k fields w v s.ready e)
    (subst (IsHeld may_hold) (sym (set_forest k fields w v e)) (IsHeld-with_fields may_hold w.forest s.ready.in_order s.held k fields))

sound_splice : (k from to : ℕ) (new : List ℕ) (w v : Working) → IsSoundDraft w → splice_step k from to new w ≡ Ok v → StaysSound w v
unfolding splice_step
sound_splice k from to new w v s e =
    let x : Fields = label_with_piece (label_of w.forest k) from to new in
    let told =
    answered (option_or (splice_fault k from to w.forest) (over_limits (length new) w)) (fields_written k x (length new) (splice_points k from to new) w) v
    e in
    by_covered w v (covered-splice k from to new w v s.ready e)
    (subst (λ (u : Working). IsHeld may_hold u.forest) told.1 (IsHeld-with_fields may_hold w.forest s.ready.in_order s.held k x))

-- ---- places

sound_take : (k : ℕ) (w v : Working) → IsSoundDraft w → take_step k w ≡ Ok v → StaysSound w v
sound_take k w v s e =
    by_covered w v (covered-take k w v s.ready e)
    (subst (IsHeld may_hold) (sym (taken-forest k w v e)) (IsHeld-take_out may_hold w.forest s.ready.in_order s.held k))

sound_put : (k p index : ℕ) (w v : Working) → IsSoundDraft w → put_step k p index w ≡ Ok v → StaysSound w v
unfolding put_step
sound_put k p index w v s e =
    let told = answered (option_or (put_fault k p index w.forest) (over_counts w)) (node_placed k p index w) v e in
    let none = (both_none (put_fault k p index w.forest) (over_counts w) told.0).0 in
    by_covered w v (covered-put k p index w v s.ready e)
    (subst (λ (u : Working). IsHeld may_hold u.forest) told.1
    (IsHeld-put_in may_hold w.forest s.ready.in_order s.held p (slice_get (children_of w.forest p) index) k (can_put w.forest k p index none)
    (put_fits w.forest k p index none)))

-- ---- every edit

pub sound_path : IsWay IsSoundDraft StaysSound
sound_path = record {
  ready = λ w v s. s.sound;
  selected = λ w s d. stays_selected w (record w { selection = s }) d refl refl;
  composed = λ u v w a b. stays_then u v w a b;
  new = λ kind fields w v s e. sound_new kind fields w v s e;
  set = λ k fields w v s e. sound_set k fields w v s e;
  splice = λ k from to new w v s e. sound_splice k from to new w v s e;
  take = λ k w v s e. sound_take k w v s e;
  put = λ k p index w v may s e. sound_put k p index w v s e;
}
