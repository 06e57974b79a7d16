-- What the events between two trees say of each key.
use Rattle.std.proofs.Common.{◌≡◌, ◌∙◌, ◌⊎◌, ℕ, ◌<◌, Bool, true, false, ◌||◌, ◌&&◌, ltb, eqb, List, [], ◌∷◌, ◌++◌, inl, inr, refl, sym, ap, arith}
use Rattle.std.specs.Prelude.{map}
use Rattle.std.proofs.lemmas.Bool.{cases_Bool}
use Rattle.std.proofs.lemmas.Bool.Decides.{eqb_tells, nat_tests}
use Rattle.std.proofs.lemmas.List.{map-append}
use Rattle.std.proofs.lemmas.List.Folds.{list_any-append}
use Rattle.lx_trees.specs.Siblings.{is_among, NoRepeats}
use Rattle.lx_trees.proofs.Siblings.{is_among-append, NoRepeats-append}
use Rattle.lx_forest.specs.Forest.{Forest}
use Rattle.lx_forest.specs.Lookups.{has, rises_from}
use Rattle.lx_outline.specs.declared.event.Event.{Event}
use Rattle.lx_outline.specs.declared.event.Event.TheVariants.{Destroyed, Created, Updated}
use Rattle.lx_outline.specs.Events.{IsSame, ascends, AreEvents}
use Rattle.lx_outline.specs.Reading.{key_in, is_named_in, is_about, is_changed}
use Rattle.lx_outline.proofs.Deciding.{same_or_other}

-- ---- ascending keys

rises_above : (k q : ℕ) (xs : List ℕ) → rises_from k xs ≡ true → is_among q xs ≡ true → k < q
rises_above k q [] rising e = absurd (cc)
rises_above k q (x ∷ xs) rising e = elim (cases_Bool (ltb k x)) [
  | inl less ↦
      let rest : rises_from x xs ≡ true = sym (ap (λ b. b && rises_from x xs) less) ∙ rising in
      let under : k < x = grind (arith, nat_tests, less) in
      elim (eqb_tells x q) [
        | inl same ↦ omega (arith, under, same.1)
        | inr other ↦ omega (arith, under, rises_above x q xs rest (grind (arith, e, other.0)))
      ]
  | inr more ↦ absurd (let clash : false ≡ true = sym (ap (λ b. b && rises_from x xs) more) ∙ rising in cc)
]

once_rising : (k : ℕ) (xs : List ℕ) → rises_from k xs ≡ true → NoRepeats xs
once_rising k [] rising = tt
once_rising k (x ∷ xs) rising = elim (cases_Bool (ltb k x)) [
  | inl less ↦
      let rest : rises_from x xs ≡ true = sym (ap (λ b. b && rises_from x xs) less) ∙ rising in
      (elim (cases_Bool (is_among x xs)) [ inl twice ↦ absurd (omega (arith, rises_above x x xs rest twice)) | inr apart ↦ apart ], once_rising x xs rest)
  | inr more ↦ absurd (let clash : false ≡ true = sym (ap (λ b. b && rises_from x xs) more) ∙ rising in cc)
]

pub once_ascending : (xs : List ℕ) → ascends xs ≡ true → NoRepeats xs
once_ascending [] rising = tt
once_ascending (x ∷ xs) rising =
    (elim (cases_Bool (is_among x xs)) [ inl twice ↦ absurd (omega (arith, rises_above x x xs rising twice)) | inr apart ↦ apart ], once_rising x xs rising)

-- ---- the keys of events

pub keys_told : (events : List Event) (q : ℕ) → is_named_in events q ≡ is_among q (map key_in events)
keys_told [] q = refl
keys_told (event ∷ events) q = ap (λ b. eqb (key_in event) q || b) (keys_told events q)

of_destroyed : (ks : List ℕ) → map key_in (map (λ q. Destroyed q) ks) ≡ ks
of_destroyed [] = refl
of_destroyed (k ∷ ks) = ap (λ xs. k ∷ xs) (of_destroyed ks)

of_created : (ks : List ℕ) → map key_in (map (λ q. Created q) ks) ≡ ks
of_created [] = refl
of_created (k ∷ ks) = ap (λ xs. k ∷ xs) (of_created ks)

of_updated : (ks : List ℕ) → map key_in (map (λ q. Updated q) ks) ≡ ks
of_updated [] = refl
of_updated (k ∷ ks) = ap (λ xs. k ∷ xs) (of_updated ks)

about_created : (ks : List ℕ) (q : ℕ) → is_changed (map (λ q. Created q) ks) q ≡ is_among q ks
about_created [] q = refl
about_created (k ∷ ks) q = ap (λ b. eqb k q || b) (about_created ks q)

about_updated : (ks : List ℕ) (q : ℕ) → is_changed (map (λ q. Updated q) ks) q ≡ is_among q ks
about_updated [] q = refl
about_updated (k ∷ ks) q = ap (λ b. eqb k q || b) (about_updated ks q)

about_destroyed : (ks : List ℕ) (q : ℕ) → is_changed (map (λ q. Destroyed q) ks) q ≡ false
about_destroyed [] q = refl
about_destroyed (k ∷ ks) q = about_destroyed ks q

-- ---- what they say

pub record AreFollowed (old new : Forest) (events : List Event) : Type 0 where
  pub once : NoRepeats (map key_in events)
  pub same : (q : ℕ) → is_named_in events q ≡ false → has q new ≡ true → (has q old ≡ true) × IsSame old new q
  pub gone : (q : ℕ) → is_named_in events q ≡ false → has q new ≡ false → has q old ≡ false
  pub there : (q : ℕ) → is_named_in events q ≡ true → (has q old ≡ true) ⊎ (has q new ≡ true)
  pub changed : (q : ℕ) → is_named_in events q ≡ true → has q new ≡ true → is_changed events q ≡ true

three_of : (a b c : Bool) → ((a || b) || c) ≡ true → (a ≡ true) ⊎ ((b ≡ true) ⊎ (c ≡ true))
three_of true b c e = inl refl
three_of false true c e = inr (inl refl)
three_of false false c e = inr (inr e)

none_of : (a b c : Bool) → ((a || b) || c) ≡ false → (a ≡ false) × (b ≡ false) × (c ≡ false)
none_of true b c e = absurd (cc)
none_of false true c e = absurd (cc)
none_of false false c e = (refl, refl, e)

second_of : (b c : Bool) → (b ≡ true) ⊎ (c ≡ true) → ((false || b) || c) ≡ true
second_of true c e = refl
second_of false true e = refl
second_of false false (inl e) = e
second_of false false (inr e) = e

module _ (old new : Forest) (events : List Event) (e : AreEvents old new events) where
  keys_are : map key_in events ≡ (e.destroyed ++ e.created) ++ e.updated
  keys_are =
      ap (map key_in) e.listed
      ∙ map-append key_in (map (λ q. Destroyed q) e.destroyed ++ map (λ q. Created q) e.created) (map (λ q. Updated q) e.updated)
      ∙ ap (λ xs. xs ++ map key_in (map (λ q. Updated q) e.updated)) (map-append key_in (map (λ q. Destroyed q) e.destroyed) (map (λ q. Created q) e.created))
      ∙ rw (of_destroyed e.destroyed, of_created e.created, of_updated e.updated) refl

  named : (q : ℕ) → is_named_in events q ≡ ((is_among q e.destroyed || is_among q e.created) || is_among q e.updated)
  named q =
      keys_told events q ∙ ap (is_among q) keys_are ∙ is_among-append q (e.destroyed ++ e.created) e.updated
      ∙ ap (λ b. b || is_among q e.updated) (is_among-append q e.destroyed e.created)

  about : (q : ℕ) → is_changed events q ≡ ((false || is_among q e.created) || is_among q e.updated)
  about q =
      ap (λ es. is_changed es q) e.listed
      ∙ list_any-append (is_about q) (map (λ q. Destroyed q) e.destroyed ++ map (λ q. Created q) e.created) (map (λ q. Updated q) e.updated)
      ∙ ap (λ b. b || is_changed (map (λ q. Updated q) e.updated) q)
      (list_any-append (is_about q) (map (λ q. Destroyed q) e.destroyed) (map (λ q. Created q) e.created))
      ∙ rw (about_destroyed e.destroyed q, about_created e.created q, about_updated e.updated q) refl

  apart_by : (q : ℕ) (keys : List ℕ) → (is_among q keys ≡ true → ⊥) → is_among q keys ≡ false
  apart_by q keys clash = elim (cases_Bool (is_among q keys)) [ inl among ↦ absurd (clash among) | inr apart ↦ apart ]

  first_apart : (q : ℕ) → is_among q e.destroyed ≡ true → is_among q e.created ≡ false
  first_apart q among = apart_by q e.created (λ other. let a = (e.gone.each q among).1 in let b = (e.made.each q other).1 in cc)

  last_apart : (q : ℕ) → is_among q (e.destroyed ++ e.created) ≡ true → is_among q e.updated ≡ false
  last_apart q among = apart_by q e.updated (λ other.
      let u = e.changed.each q other in
      elim (cases_Bool (is_among q e.destroyed)) [
        | inl gone ↦ let a = (e.gone.each q gone).1 in let b = u.1 in cc
        | inr stays ↦
            let made : is_among q e.created ≡ true = sym (ap (λ b. b || is_among q e.created) stays) ∙ sym (is_among-append q e.destroyed e.created) ∙ among in
            let a = (e.made.each q made).0 in let b = u.0 in cc
      ])

  pub followed : AreFollowed old new events
  followed = record { once = once; same = same; gone = gone; there = there; changed = changed } where
    once : NoRepeats (map key_in events)
    once = rw keys_are (NoRepeats-append (e.destroyed ++ e.created) e.updated
        (NoRepeats-append e.destroyed e.created (once_ascending e.destroyed e.gone.ascending) (once_ascending e.created e.made.ascending) first_apart)
        (once_ascending e.updated e.changed.ascending) last_apart)

    same : (q : ℕ) → is_named_in events q ≡ false → has q new ≡ true → (has q old ≡ true) × IsSame old new q
    same q apart there =
        let none = none_of (is_among q e.destroyed) (is_among q e.created) (is_among q e.updated) (sym (named q) ∙ apart) in
        elim (cases_Bool (has q old)) [
          | inl was ↦ elim (same_or_other old new q) [
            | inl alike ↦ (was, alike)
            | inr other ↦ absurd (let a = e.changed.all q (was, there, other) in let b = none.2 in cc)
          ]
          | inr fresh ↦ absurd (let a = e.made.all q (fresh, there) in let b = none.1 in cc)
        ]

    gone : (q : ℕ) → is_named_in events q ≡ false → has q new ≡ false → has q old ≡ false
    gone q apart out =
        let none = none_of (is_among q e.destroyed) (is_among q e.created) (is_among q e.updated) (sym (named q) ∙ apart) in
        elim (cases_Bool (has q old)) [
          | inl was ↦ absurd (let a = e.gone.all q (was, out) in let b = none.0 in cc)
          | inr never ↦ never
        ]

    there : (q : ℕ) → is_named_in events q ≡ true → (has q old ≡ true) ⊎ (has q new ≡ true)
    there q among = elim (three_of (is_among q e.destroyed) (is_among q e.created) (is_among q e.updated) (sym (named q) ∙ among)) [
      | inl first ↦ inl (e.gone.each q first).0
      | inr rest ↦ elim rest [ inl second ↦ inr (e.made.each q second).1 | inr third ↦ inl (e.changed.each q third).0 ]
    ]

    changed : (q : ℕ) → is_named_in events q ≡ true → has q new ≡ true → is_changed events q ≡ true
    changed q among stays = about q ∙ elim (three_of (is_among q e.destroyed) (is_among q e.created) (is_among q e.updated) (sym (named q) ∙ among)) [
      | inl first ↦ absurd (let a = (e.gone.each q first).1 in cc)
      | inr rest ↦ second_of (is_among q e.created) (is_among q e.updated) rest
    ]
