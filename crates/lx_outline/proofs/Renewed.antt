-- The headings of an outline once events were followed.
use Rattle.std.proofs.Common.{◌≡◌, ◌∙◌, ℕ, Bool, true, false, cond, nat_eq, List, None, Some, inl, inr, sym, ap}
use Rattle.std.specs.Prelude.{option_map}
use Rattle.std.specs.Map.{lookup}
use Rattle.std.proofs.lemmas.Bool.{cases_Bool}
use Rattle.lx_node.specs.declared.kind.Kind.{Kind}
use Rattle.lx_forest.specs.Forest.{Forest}
use Rattle.lx_forest.specs.Lookups.{has, alone}
use Rattle.lx_forest.proofs.Walks.{cases_option}
use Rattle.lx_forest.proofs.Within.{is_within-self}
use Rattle.lx_links.specs.Stands.{Sound}
use Rattle.lx_links.proofs.Up.{not_within, in_order_at}
use Rattle.lx_outline.specs.declared.event.Event.{Event}
use Rattle.lx_outline.specs.declared.headings.Heading.{Heading}
use Rattle.lx_outline.specs.Outline.{level_of, text_of, heading_with, heading_by, heading_at}
use Rattle.lx_outline.specs.Reading.{is_named_in, is_over_one}
use Rattle.lx_outline.proofs.Followed.{AreFollowed}
use Rattle.lx_outline.proofs.HeadingText.{is_there, level_is}
use Rattle.lx_outline.proofs.Over.{over_is, over_from}
use Rattle.lx_outline.proofs.Absent.{no_heading}
use Rattle.lx_outline.proofs.SameBelow.{heading_kept}

module _ (old new : Forest) (events : List Event) (before : Sound old) (after : Sound new) (told : AreFollowed old new events) where
  -- a heading is as it was where no event is about it, or about anything below it
  heading_stays : (q : ℕ) → is_named_in events q ≡ false → is_over_one new events q ≡ false → heading_at old q ≡ heading_at new q
  heading_stays q apart over = elim (cases_Bool (has q new)) [
    | inr out ↦ no_heading old q (told.gone q apart out) ∙ sym (no_heading new q out)
    | inl there ↦
        let own = told.same q apart there in
        let x = is_there new q there in
        elim (cases_option (level_of x.at.label.kind)) [
          | inl plain ↦
              ap (λ o. heading_by o (text_of (alone q old))) (own.1.kind ∙ x.kind_is) ∙ ap (option_map (heading_with (text_of (alone q old)))) plain
              ∙ sym (ap (λ o. heading_by o (text_of (alone q new))) x.kind_is ∙ ap (option_map (heading_with (text_of (alone q new)))) plain)
          | inr (level, is) ↦ heading_kept old new before after q there (λ r inside.
              let kind_is = x.kind_is ∙ ap (λ (k : Kind). Some k) (level_is x.at.label.kind level is) in
              let here : has r new ≡ true = elim (cases_Bool (has r new)) [ inl here ↦ here | inr out ↦ absurd (let e = not_within new q r out in cc) ] in
              elim (cases_Bool (is_named_in events r)) [
                | inr other ↦ told.same r other here
                | inl named ↦ absurd (let e = over_from new events r q named (over_is new q r level after (in_order_at new q after there) kind_is inside) in cc)
              ])
        ]
  ]

  pub headings_follow : (was left is : List (ℕ × Heading)) (touched : ℕ → Bool) → ((q : ℕ) → lookup (nat_eq q) was ≡ heading_at old q)
      → ((q : ℕ) → lookup (nat_eq q) left ≡ cond (is_named_in events q) None (lookup (nat_eq q) was))
      → ((q : ℕ) → touched q ≡ is_over_one new events q)
      → ((q : ℕ) → lookup (nat_eq q) is ≡ cond (touched q) (heading_at new q) (lookup (nat_eq q) left))
      → (q : ℕ) → lookup (nat_eq q) is ≡ heading_at new q
  headings_follow was left is touched outline forgotten over renewed q = renewed q ∙ elim (cases_Bool (touched q)) [
    | inl again ↦ ap (λ b. cond b (heading_at new q) (lookup (nat_eq q) left)) again
    | inr apart ↦
        let none : is_over_one new events q ≡ false = sym (over q) ∙ apart in
        ap (λ b. cond b (heading_at new q) (lookup (nat_eq q) left)) apart ∙ forgotten q ∙ elim (cases_Bool (is_named_in events q)) [
          | inr other ↦ ap (λ b. cond b None (lookup (nat_eq q) was)) other ∙ outline q ∙ heading_stays q other none
          | inl named ↦ ap (λ b. cond b None (lookup (nat_eq q) was)) named ∙ sym (no_own q named none)
        ]
  ] where
    -- of a node that an event is about, and which isn't over itself, nothing is a heading
    no_own : (q : ℕ) → is_named_in events q ≡ true → is_over_one new events q ≡ false → heading_at new q ≡ None
    no_own q named none = elim (cases_Bool (has q new)) [
      | inr out ↦ no_heading new q out
      | inl there ↦
          let x = is_there new q there in
          elim (cases_option (level_of x.at.label.kind)) [
            | inl plain ↦ ap (λ o. heading_by o (text_of (alone q new))) x.kind_is ∙ ap (option_map (heading_with (text_of (alone q new)))) plain
            | inr (level, is) ↦
                let kind_is = x.kind_is ∙ ap (λ (k : Kind). Some k) (level_is x.at.label.kind level is) in
                absurd (let e = over_from new events q q named
                (over_is new q q level after (in_order_at new q after there) kind_is (is_within-self new q ∙ there)) in cc)
          ]
    ]
