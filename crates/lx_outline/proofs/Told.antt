-- From marks that cover two trees to the list of events between these.
use Rattle.std.proofs.Common.{◌≡◌, ◌∙◌, ℕ, ◌<◌, ◌+◌, Bool, true, false, ◌||◌, zero, suc, List, [], ◌∷◌, ◌++◌, length, Option, None, Some, refl, sym, ap, arith, inl, inr}
use Rattle.std.specs.Prelude.{is_some, map}
use Rattle.std.specs.Map.{keys_of}
use Rattle.std.proofs.lemmas.Bool.{cases_Bool}
use Rattle.std.proofs.lemmas.Bool.Decides.{eqb_tells}
use Rattle.lx_trees.specs.Siblings.{is_among, is_named}
use Rattle.lx_trees.specs.Spots.{parent_at}
use Rattle.lx_trees.proofs.Siblings.{is_among-append}
use Rattle.lx_trees.proofs.Spots.{is_among-firsts}
use Rattle.lx_forest.specs.Forest.{Forest}
use Rattle.lx_forest.specs.Lookups.{key_of, has, roots, parent_of, children_of, ancestors, IsForest}
use Rattle.lx_forest.proofs.Edits.{has-root}
use Rattle.lx_forest.proofs.Lookups.{has-parent_of, is_among-children_of}
use Rattle.lx_forest.proofs.Walks.{cases_option, ancestors-step}
use Rattle.lx_links.proofs.Seen.{no_spot}
use Rattle.lx_marks.specs.Marks.{Marked, flag_in, is_true_flag, is_touched}
use Rattle.lx_marks.proofs.Flagged.{is_some-flag_in}
use Rattle.lx_outline.specs.declared.event.Event.{Event}
use Rattle.lx_outline.specs.declared.keys.Change.TheVariants as change
use Rattle.lx_outline.specs.Events.{IsSame, IsDestroyed, IsCreated, IsUpdated, ascends, event_of, AreAll, AreEvents}
use Rattle.lx_outline.specs.Covers.{IsCovered}
use Rattle.lx_outline.specs.Parts.{IsPart, AreGone, HasLost}

-- ---- which keys the marks show

true_is_some : (o : Option Bool) → is_true_flag o ≡ true → is_some o ≡ true
true_is_some None e = absurd (cc)
true_is_some (Some flag) e = refl

either_there : (a b c : Bool) → (a || b) ≡ true → (b ≡ true → c ≡ true) → (a || c) ≡ true
either_there true b c e more = refl
either_there false b c e more = more e

-- each key that is marked itself is among the keys of the marks
touched_among : (m : Marked) (q : ℕ) → is_touched m q ≡ true → is_among q (m.leaves ++ keys_of m.elements) ≡ true
touched_among m q e =
    is_among-append q m.leaves (keys_of m.elements)
    ∙ either_there (is_among q m.leaves) (is_true_flag (flag_in m.elements q)) (is_among q (keys_of m.elements)) e
    (λ flagged. sym (is_some-flag_in m.elements q) ∙ true_is_some (flag_in m.elements q) flagged)

-- ---- what is gone

-- a node without a parent is the root, where there is one tree
root_alone_at : (f : Forest) (q : ℕ) → IsForest f → roots f ≡ 0 ∷ [] → has q f ≡ true → parent_of f q ≡ None → q ≡ 0
root_alone_at f q h one there top =
    let first : is_among q (0 ∷ []) ≡ true = sym (ap (is_among q) one) ∙ (is_among-firsts key_of f q h.once ∙ rw (there, top) refl) in
    elim (eqb_tells 0 q) [
      | inl same ↦ sym same.1
      | inr other ↦ absurd (grind (arith, first, other.0))
    ]

-- a node of both that lost a child is another
lost_updated : (old new : Forest) (q p : ℕ) → IsForest old → IsForest new → parent_of old q ≡ Some p → has p new ≡ true → has q new ≡ false
    → IsUpdated old new p
lost_updated old new q p before after up stays out = (has-parent_of old q p up, stays, λ same. differs same) where
  differs : IsSame old new p → ⊥
  differs same =
      let here : is_among q (children_of old p) ≡ true = is_among-children_of old q p before ∙ ap (λ o. is_named o p) up ∙ grind (arith, eqb_tells p p) in
      let gone : is_among q (children_of new p) ≡ false =
      is_among-children_of new q p after ∙ ap (λ o. is_named (parent_at o) p) (no_spot new q out) in
      let clash : true ≡ false = sym here ∙ ap (is_among q) same.children ∙ gone in cc

module _ (old new : Forest) (m : Marked) (before : IsForest old) (after : IsForest new) (one : roots old ≡ 0 ∷ []) (covered : IsCovered old new m)
    (marked : List ℕ) (all : marked ≡ m.leaves ++ keys_of m.elements)
  where
    touched_marked : (q : ℕ) → is_touched m q ≡ true → is_among q marked ≡ true
    touched_marked q e = ap (is_among q) all ∙ touched_among m q e

    -- a node that is gone is among keys that are closed and have what its parent lost: by the number of nodes above it
    gone_by : (keys : List ℕ) → AreGone old new keys
        → ((p : ℕ) → is_among p marked ≡ true → is_touched m p ≡ true → has p new ≡ true → HasLost old new p keys)
        → (fuel q : ℕ) → length (ancestors old q) < fuel → IsDestroyed old new q → is_among q keys ≡ true
    gone_by keys gone told zero q few out = absurd (omega (arith, few))
    gone_by keys gone told (suc fuel) q few out = elim (cases_option (parent_of old q)) [
      | inl top ↦
          let root : q ≡ 0 = root_alone_at old q before one out.0 top in
          let there : has q new ≡ true = ap (λ k. has k new) root ∙ has-root new after in
          absurd (let clash : true ≡ false = sym there ∙ out.1 in cc)
      | inr (p, up) ↦ elim (cases_Bool (has p new)) [
        | inl stays ↦
            let touched : is_touched m p ≡ true = covered.changed p (lost_updated old new q p before after up stays out.1) in
            told p (touched_marked p touched) touched stays q up out.1
        | inr left ↦
            let fewer : length (ancestors old p) < fuel = omega (arith, few, ap length (ancestors-step old q p before up)) in
            gone.closed q p up out.1 (gone_by keys gone told fuel p fewer (has-parent_of old q p up, left))
      ]
    ]

    all_gone : (keys : List ℕ) → AreGone old new keys
        → ((p : ℕ) → is_among p marked ≡ true → is_touched m p ≡ true → has p new ≡ true → HasLost old new p keys)
        → ascends keys ≡ true → AreAll (IsDestroyed old new) keys
    all_gone keys gone told rising = record {
      ascending = rising;
      each = gone.each;
      all = λ q out. gone_by keys gone told (length (ancestors old q) + 1) q (omega arith) out;
    }

    all_made : (keys : List ℕ) → IsPart (IsCreated old new) marked keys → ascends keys ≡ true → AreAll (IsCreated old new) keys
    all_made keys part rising = record {
      ascending = rising;
      each = part.each;
      all = λ q made. part.all q (touched_marked q (covered.made q made)) made;
    }

    all_changed : (keys : List ℕ) → IsPart (IsUpdated old new) marked keys → ascends keys ≡ true → AreAll (IsUpdated old new) keys
    all_changed keys part rising = record {
      ascending = rising;
      each = part.each;
      all = λ q made. part.all q (touched_marked q (covered.changed q made)) made;
    }

    -- ---- the list

    pub events_told : (events first second : List Event) (destroyed created updated : List ℕ)
        → AreGone old new destroyed
        → ((p : ℕ) → is_among p marked ≡ true → is_touched m p ≡ true → has p new ≡ true → HasLost old new p destroyed)
        → IsPart (IsCreated old new) marked created
        → IsPart (IsUpdated old new) marked updated
        → ascends destroyed ≡ true → ascends created ≡ true → ascends updated ≡ true
        → first ≡ map (event_of change.Destroyed) destroyed
        → second ≡ first ++ map (event_of change.Created) created
        → events ≡ second ++ map (event_of change.Updated) updated
        → AreEvents old new events
    events_told events first second destroyed created updated gone left made changed rise_gone rise_made rise_changed is_first is_second is_all = record {
      destroyed = destroyed;
      created = created;
      updated = updated;
      listed = is_all
          ∙ ap (λ es. es ++ map (event_of change.Updated) updated) (is_second ∙ ap (λ es. es ++ map (event_of change.Created) created) is_first);
      gone = all_gone destroyed gone left rise_gone;
      made = all_made created made rise_made;
      changed = all_changed updated changed rise_changed;
    }
