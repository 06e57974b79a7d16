-- What the events between two trees change of a sum over all nodes.
use Rattle.std.proofs.Common.{◌≡◌, ◌∙◌, ℕ, ◌+◌, ◌<◌, ◌≤◌, true, cond, List, [], ◌∷◌, length, Option, None, Some, inl, inr, refl, sym, ap, arith}
use Rattle.std.specs.Prelude.{map, sum_by, option_map}
use Rattle.std.proofs.lemmas.Bool.{cases_Bool}
use Rattle.std.proofs.lemmas.Bool.Decides.{nat_tests}
use Rattle.std.proofs.lemmas.List.Sums.{sum_by-cons}
use Rattle.lx_trees.specs.NamedTrees.{total}
use Rattle.lx_trees.specs.Siblings.{is_among}
use Rattle.lx_trees.specs.Trees.{nil, tree}
use Rattle.lx_node.specs.declared.fields.Fields.{Fields}
use Rattle.lx_forest.specs.Forest.{Label, Forest}
use Rattle.lx_forest.specs.Lookups.{has, label_of}
use Rattle.lx_forest.specs.Weights.{weight, weight_in, own_weight}
use Rattle.lx_links.specs.Stands.{Sound}
use Rattle.lx_outline.specs.declared.event.Event.{Event}
use Rattle.lx_outline.specs.Events.{IsSame}
use Rattle.lx_outline.specs.Outline.{own_text, characters_in}
use Rattle.lx_outline.specs.Reading.{key_in, is_named_in, one_in, weight_among}
use Rattle.lx_outline.proofs.ByKeys.{all_below-same, others, with_others, top_key, below_top, weight_by_keys}
use Rattle.lx_outline.proofs.Followed.{AreFollowed, keys_told}
use Rattle.lx_outline.proofs.Absent.{no_weight}

-- ---- the weights that an outline sums

text_weight : Option Fields → ℕ
text_weight None = 0
text_weight (Some own) = length (own_text own)

by_fields : (o : Option Label) → weight_in characters_in o ≡ text_weight (option_map (λ (l : Label). l.fields) o)
unfolding text_weight
by_fields None = refl
by_fields (Some l) = refl

pub same_text_weight : (old new : Forest) (q : ℕ) → IsSame old new q → own_weight characters_in old q ≡ own_weight characters_in new q
same_text_weight old new q same = by_fields (label_of old q) ∙ ap text_weight same.fields ∙ sym (by_fields (label_of new q))

one_weight : Option Fields → ℕ
one_weight None = 0
one_weight (Some own) = 1

by_presence : (o : Option Label) → weight_in one_in o ≡ one_weight (option_map (λ (l : Label). l.fields) o)
unfolding one_weight
by_presence None = refl
by_presence (Some l) = refl

pub same_one_weight : (old new : Forest) (q : ℕ) → IsSame old new q → own_weight one_in old q ≡ own_weight one_in new q
same_one_weight old new q same = by_presence (label_of old q) ∙ ap one_weight same.fields ∙ sym (by_presence (label_of new q))

pub total_weight : (f : Forest) → total f ≡ weight one_in f
total_weight nil = refl
total_weight (tree l below rest) = omega (arith, total_weight below, total_weight rest)

-- ---- by the keys of the events

pub among_keys : (of : Label → ℕ) (f : Forest) (events : List Event) → weight_among of f events ≡ sum_by (own_weight of f) (map key_in events)
among_keys of f [] = refl
among_keys of f (event ∷ events) =
    omega (
      arith,
      sum_by-cons (λ (e : Event). own_weight of f (key_in e)) event events,
      sum_by-cons (own_weight of f) (key_in event) (map key_in events),
      among_keys of f events,
    )

module _ (old new : Forest) (events : List Event) (before : Sound old) (after : Sound new) (told : AreFollowed old new events) where
  top : ℕ
  top = top_key old + top_key new

  within : (k : ℕ) → is_among k (map key_in events) ≡ true → k < top
  unfolding top
  within k among = elim (told.there k (keys_told events k ∙ among)) [
    | inl was ↦ omega (arith, below_top old k (grind (arith, nat_tests, was)))
    | inr is ↦ omega (arith, below_top new k (grind (arith, nat_tests, is)))
  ]

  -- of each tree the nodes that events are about weigh no more than all
  part : (of : Label → ℕ) (f : Forest) → Sound f → top_key f ≤ top → weight_among of f events ≤ weight of f
  part of f sound high =
      omega (arith, among_keys of f events, with_others (own_weight of f) (map key_in events) top told.once within, weight_by_keys of f top sound high)

  pub old_part : (of : Label → ℕ) → weight_among of old events ≤ weight of old
  unfolding top
  old_part of = part of old before (omega arith)

  pub new_part : (of : Label → ℕ) → weight_among of new events ≤ weight of new
  unfolding top
  new_part of = part of new after (omega arith)

  same_others : (of : Label → ℕ) → ((q : ℕ) → IsSame old new q → own_weight of old q ≡ own_weight of new q) → (q : ℕ)
      → others (map key_in events) (own_weight of old) q ≡ others (map key_in events) (own_weight of new) q
  same_others of same q = elim (cases_Bool (is_named_in events q)) [
    | inl named ↦
        let among : is_among q (map key_in events) ≡ true = sym (keys_told events q) ∙ named in
        ap (λ b. cond b 0 (own_weight of old q)) among ∙ sym (ap (λ b. cond b 0 (own_weight of new q)) among)
    | inr apart ↦ ap (cond (is_among q (map key_in events)) 0) (elim (cases_Bool (has q new)) [
      | inl there ↦ same q (told.same q apart there).1
      | inr out ↦ no_weight of old q (told.gone q apart out) ∙ sym (no_weight of new q out)
    ])
  ]

  -- what comes and what goes is the whole difference
  pub weights_follow : (of : Label → ℕ) → ((q : ℕ) → IsSame old new q → own_weight of old q ≡ own_weight of new q)
      → weight of old + weight_among of new events ≡ weight of new + weight_among of old events
  unfolding top
  weights_follow of same =
      let rest = all_below-same (others (map key_in events) (own_weight of old)) (others (map key_in events) (own_weight of new)) top (same_others of same) in
      omega (
        arith,
        rest,
        among_keys of old events,
        among_keys of new events,
        with_others (own_weight of old) (map key_in events) top told.once within,
        weight_by_keys of old top before (omega arith),
        with_others (own_weight of new) (map key_in events) top told.once within,
        weight_by_keys of new top after (omega arith),
      )
