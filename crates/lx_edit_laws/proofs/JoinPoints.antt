-- Each point in two texts that are joined keeps its place in them, and no point on another text moves.
use Rattle.lx_draft.specs.Faults.{text_in}
use Rattle.lx_draft.specs.Selecting.{length_told}
use Rattle.lx_draft.specs.Working.{Working}
use Rattle.lx_edit.specs.Conditions.{length_at, length_in}
use Rattle.lx_edit.specs.Texts.{text_or_none}
use Rattle.lx_forest.proofs.Lookups.{parent_of-self}
use Rattle.lx_forest.specs.Lookups.{IsForest, label_of}
use Rattle.lx_edit_laws.proofs.JoinSpots.{neither}
use Rattle.lx_edit_laws.proofs.SplitPoints.{splice_moves-front, splice_moves-other}
use Rattle.lx_edit_laws.proofs.JoinSteps.{AreJoined, joined_point}
use Rattle.lx_edit_laws.specs.Reading.{PlacesAreKept, place_among, text_at}
use Rattle.lx_node.specs.Limits.{last_u32}
use Rattle.lx_trees.specs.Siblings.{is_among}
use Rattle.lx_node.specs.declared.cause.Point.{Point}
use Rattle.lx_node.specs.declared.fields.TextFields.{TextFields}
use Rattle.lx_select.specs.Rules.{carry_moves, is_behind, is_counting_children, join_moves, offset_sum, take_moves}
use Rattle.lx_text.proofs.Places.{length-append}
use Rattle.lx_text.proofs.Told.{told-within}
use Rattle.lx_text.specs.Texts.{text_length}
use Rattle.std.proofs.Common.{None, Option, Some, [], ap, arith, eqb, false, inl, inr, refl, subst, sym, true, ℕ, ◌++◌, ◌+◌, ◌∙◌, ◌∷◌, ◌≡◌, ◌≢◌, ◌≤◌, ◌⊎◌}
use Rattle.std.proofs.lemmas.Bool.Decides.{eqb_tells}
use Rattle.lx_node.specs.declared.cause.PointKind.TheVariants as point

-- ---- what the three edits do to a point

join_stays : (first end second : ℕ) (x : Point) → x.key ≢ second → join_moves first end second x ≡ x
unfolding join_moves carry_moves
join_stays first end second x other = grind (arith, other, eqb_tells x.key second)

join_brings : (first end second : ℕ) (x : Point) → x.key ≡ second → join_moves first end second x ≡ record x { key = first; offset = offset_sum end x.offset }
unfolding join_moves carry_moves
join_brings first end second x own = let same : eqb x.key second ≡ true = grind (arith, own, eqb_tells x.key second) in rw same refl

take_stays : (parent index : ℕ) (x : Point) → (x.kind ≡ point.Text) ⊎ (x.key ≢ parent) → take_moves parent index x ≡ x
unfolding take_moves is_behind is_counting_children
take_stays parent index x (inl text) = rw text refl
take_stays parent index x (inr other) = grind (arith, other, eqb_tells x.key parent)

-- ---- lengths

length_within : (o : Option TextFields) → length_in o ≤ text_length (text_or_none o)
length_within None = omega arith
length_within (Some t) = told-within t.text

-- ---- after a join

module _ (first second : ℕ) (w v : Working) (h : IsForest w.forest) (j : AreJoined first second w v) where
  -- a text isn't its own parent
  apart_parent : first ≢ j.place.parent
  apart_parent same =
      absurd (grind (arith, same, j.place.up, parent_of-self w.forest first h, eqb_tells first first))

  -- where points went
  moved : Point → Point
  moved x = joined_point first second (length_at w.forest first) (length_told (text_at w.forest second)) j.place.parent j.place.index x

  -- those in the first stay, and those in the second come after its text
  on_first : (x : Point) → x.key ≡ first → x.offset ≤ length_at w.forest x.key → moved x ≡ x
  unfolding moved
  on_first x own within =
      let end : ℕ = length_at w.forest first in
      ap (λ y. take_moves j.place.parent j.place.index (join_moves first end second y))
      (splice_moves-front first end end (length_told (text_at w.forest second)) x (subst (λ k. x.offset ≤ length_at w.forest k) own within))
      ∙ ap (take_moves j.place.parent j.place.index) (join_stays first end second x (λ same. j.place.apart (sym own ∙ same)))
      ∙ take_stays j.place.parent j.place.index x (inr (λ same. apart_parent (sym own ∙ same)))

  on_second : (x : Point) → x.key ≡ second → moved x ≡ record x { key = first; offset = offset_sum (length_at w.forest first) x.offset }
  unfolding moved
  on_second x own =
      let end : ℕ = length_at w.forest first in
      ap (λ y. take_moves j.place.parent j.place.index (join_moves first end second y))
      (splice_moves-other first end end (length_told (text_at w.forest second)) x (λ same. j.place.apart (sym same ∙ own)))
      ∙ ap (take_moves j.place.parent j.place.index) (join_brings first end second x own)
      ∙ take_stays j.place.parent j.place.index (record x { key = first; offset = offset_sum end x.offset }) (inr apart_parent)

  on_others : (x : Point) → x.kind ≡ point.Text → is_among x.key (first ∷ second ∷ []) ≡ false → moved x ≡ x
  unfolding moved
  on_others x text outside =
      let end : ℕ = length_at w.forest first in
      let far = neither x.key first second (λ among. absurd (grind (arith, among, outside))) in
      ap (λ y. take_moves j.place.parent j.place.index (join_moves first end second y))
      (splice_moves-other first end end (length_told (text_at w.forest second)) x far.0)
      ∙ ap (take_moves j.place.parent j.place.index) (join_stays first end second x far.1)
      ∙ take_stays j.place.parent j.place.index x (inl text)

  -- the place in the second, after all of the first
  place_second : (o : ℕ) → text_length (text_at w.forest first ++ text_at w.forest second) ≤ last_u32 → o ≤ length_at w.forest second
      → offset_sum (length_at w.forest first) o ≡ length_at w.forest first + o
  unfolding offset_sum
  place_second o fits within =
      omega (
        arith,
        fits,
        within,
        length-append (text_at w.forest first) (text_at w.forest second),
        length_within (text_in (label_of w.forest first)),
        length_within (text_in (label_of w.forest second)),
      )

  keeps_place : text_length (text_at w.forest first ++ text_at w.forest second) ≤ last_u32 → (x : Point) → is_among x.key (first ∷ second ∷ []) ≡ true
      → x.offset ≤ length_at w.forest x.key
      → (is_among (moved x).key (first ∷ []) ≡ true) × (place_among v.forest (first ∷ []) (moved x) ≡ place_among w.forest (first ∷ second ∷ []) x)
  keeps_place fits x among within = elim (eqb_tells x.key first) [
    | inl own ↦
        let same : moved x ≡ x = on_first x own.1 within in
        rw same (grind (arith, own, eqb_tells first x.key), rw own.0 refl)
    | inr other ↦
        let own : x.key ≡ second = grind (arith, among, other, eqb_tells first x.key, eqb_tells second x.key) in
        let same = on_second x own in
        let here : eqb first first ≡ true = grind (arith, eqb_tells first first) in
        let there : eqb x.key second ≡ true = grind (arith, own, eqb_tells x.key second) in
        rw same (
          rw here refl,
          rw (here, other.0, there) (place_second x.offset fits (subst (λ k. x.offset ≤ length_at w.forest k) own within)),
        )
  ]

  pub points_joined : text_length (text_at w.forest first ++ text_at w.forest second) ≤ last_u32 → PlacesAreKept (first ∷ second ∷ []) (first ∷ []) w v
  unfolding moved
  points_joined fits = (
    moved,
    record {
      selection = j.selection;
      on_them = λ x among within. keeps_place fits x among within;
      others = λ x text there outside. on_others x text outside;
    },
  )
