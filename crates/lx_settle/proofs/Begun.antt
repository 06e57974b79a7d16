-- What an update owes as it begins to settle, from a tree that is joined.
use Rattle.std.proofs.Common.{◌≡◌, ◌∙◌, ℕ, true, [], option_map, is_some, sym, ap, inl, inr}
use Rattle.lx_trees.specs.Spots.{Spot}
use Rattle.lx_forest.specs.Forest.{Label}
use Rattle.lx_forest.specs.Lookups.{has, spot, is_attached}
use Rattle.lx_forest.proofs.Edits.{is_some-spot}
use Rattle.lx_draft.specs.Working.{Working}
use Rattle.lx_draft.specs.Faults.{text_in}
use Rattle.lx_draft.specs.Covering.{AreElements, IsReady, AreCovered}
use Rattle.lx_edit.specs.Texts.{if_simple, simple_at}
use Rattle.lx_settle.specs.Joined.{is_empty_text, are_alike, IsJoined}
use Rattle.lx_settle.proofs.Seen.{next_stays}
use Rattle.lx_settle.proofs.Joining.{IsJoining}
use Rattle.lx_settle.proofs.Rest.{there as attached_there}

-- From a joined tree with no detached one beside it, whatever an update did is pending.
pub joining_begun : (w v : Working) → IsJoined w.forest → IsReady w → ((q : ℕ) → has q w.forest ≡ true → is_attached w.forest q ≡ true) → AreCovered w v
    → AreElements w.forest w.fresh → IsJoining [] v
joining_begun w v j r all c sorted = record {
  full = λ q there. elim (c.fresh.seen q) [
    | inl same ↦ inl (ap (λ o. is_empty_text (if_simple (text_in (option_map (λ (s : Spot Label). s.label) o)))) same.0 ∙ j.full q (was_there q same.0 there))
    | inr touched ↦ inr (inr touched)
  ];
  apart = λ q n there next. elim (c.fresh.seen q) [
    | inl same ↦ elim (c.fresh.seen n) [
      | inl also ↦ inl (
          ap (λ o. are_alike (if_simple (text_in (option_map (λ (s : Spot Label). s.label) o))) (simple_at v.forest n)) same.0
          ∙ ap (λ o. are_alike (simple_at w.forest q) (if_simple (text_in (option_map (λ (s : Spot Label). s.label) o)))) also.0
          ∙ j.apart q n (was_there q same.0 there) (sym (next_stays w.forest v.forest q same.1) ∙ next))
      | inr touched ↦ inr (inr (inr touched))
    ]
    | inr touched ↦ inr (inl (inr touched))
  ];
  sorted = c.elements sorted;
  ready = c.ready;
} where
  was_there : (q : ℕ) → spot v.forest q ≡ spot w.forest q → is_attached v.forest q ≡ true → is_attached w.forest q ≡ true
  was_there q same there = all q (sym (is_some-spot w.forest q) ∙ ap is_some (sym same) ∙ is_some-spot v.forest q ∙ attached_there v.forest q there)
