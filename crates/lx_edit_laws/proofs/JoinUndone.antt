-- The pieces of a split that are joined again, one after another, give the old tree.
use Rattle.lx_draft.proofs.Gaps.{parent_here}
use Rattle.lx_draft.proofs.Touched.{is_some-kind_of}
use Rattle.lx_draft.specs.Covering.{IsReady}
use Rattle.lx_draft.specs.Faults.{text_in}
use Rattle.lx_draft.specs.Working.{Working}
use Rattle.lx_edit.proofs.Climbed.{first_part}
use Rattle.lx_edit.proofs.Covered.{covered_path}
use Rattle.lx_edit.proofs.Paths.{join_path}
use Rattle.lx_edit.specs.Conditions.{bad_offset}
use Rattle.lx_edit.specs.InTurn.{in_turn}
use Rattle.lx_edit.specs.Texts.{cut_at, join_step, keys_from, text_or_none}
use Rattle.lx_forest.proofs.Lookups.{has-child}
use Rattle.lx_forest.specs.Forest.{Forest}
use Rattle.lx_forest.specs.Lookups.{IsForest, children_of, has, label_of, parent_of, spot}
use Rattle.lx_edit_laws.proofs.JoinSpots.{children_left, label_like, label_other, parent_other, text_first}
use Rattle.lx_edit_laws.proofs.JoinSteps.{AreJoined, are_joined}
use Rattle.lx_edit_laws.proofs.Reading.{spread-same, spread-texts}
use Rattle.lx_edit_laws.proofs.SplitCuts.{label_is, text_label}
use Rattle.lx_edit_laws.proofs.SplitLaws.{IsLeft, cut_up, left, no_offset}
use Rattle.lx_edit_laws.proofs.WrapSteps.{was_same}
use Rattle.lx_edit_laws.proofs.SplitPoints.{below_keys, less_than_next}
use Rattle.lx_edit_laws.proofs.WrapLists.{filter-gone, filter-kept, filter-without}
use Rattle.lx_edit_laws.proofs.WrapTrees.{same_spot_by}
use Rattle.lx_edit_laws.specs.Reading.{in_place_of, text_at, texts_of}
use Rattle.lx_edit_laws.specs.Splits.{IsSplit}
use Rattle.lx_node.specs.Limits.{last_u32}
use Rattle.lx_trees.proofs.Siblings.{is_named_tells}
use Rattle.lx_trees.specs.Siblings.{is_among}
use Rattle.lx_node.specs.declared.fields.TextFields.{TextFields}
use Rattle.lx_text.proofs.Places.{length-append}
use Rattle.lx_text.specs.Texts.{text_length}
use Rattle.std.proofs.Common.{Bool, List, None, Ok, Option, Some, [], ap, append-nil, append_assoc, ap₂, arith, false, inl, inr, length, not, refl, subst, sym, true, ℕ, ◌++◌, ◌∙◌, ◌∷◌, ◌≡◌, ◌≢◌, ◌≤◌}
use Rattle.std.proofs.lemmas.Bool.Decides.{eqb_tells}
use Rattle.std.proofs.lemmas.List.Elements.{filter-append}
use Rattle.std.specs.List.{filter}
use Rattle.std.specs.Prelude.{is_some}

-- ---- joins in turn

-- what joins of one text with others, in turn, did
record IsRejoined (k : ℕ) (new : List ℕ) (v u : Working) : Type 0 where
  text : text_at u.forest k ≡ texts_of v.forest (k ∷ new)
  alike : (t : TextFields) → text_in (label_of v.forest k) ≡ Some t → label_of u.forest k ≡ Some (text_label k (record t { text = text_at u.forest k }))
  label : (q : ℕ) → q ≢ k → label_of u.forest q ≡ label_of v.forest q
  parent : (q : ℕ) → is_among q new ≡ false → parent_of u.forest q ≡ parent_of v.forest q
  children : (q : ℕ) → children_of u.forest q ≡ filter (λ c. not (is_among c new)) (children_of v.forest q)

-- none
unjoined : (k : ℕ) (v : Working) → IsRejoined k [] v v
unjoined k v = record {
  text = sym (append-nil (text_at v.forest k));
  alike = λ t is. label_is v.forest k t is ∙ ap (λ x. Some (text_label k (record t { text = x }))) (sym (ap text_or_none is));
  label = λ q other. refl;
  parent = λ q apart. refl;
  children = λ q. sym (filter-kept (λ c. true) (children_of v.forest q) (λ c among. refl));
}

-- the texts of other keys stay, and those of the first two are one
texts_left : (f g : Forest) (k n : ℕ) (rest : List ℕ) → is_among k rest ≡ false → text_at g k ≡ text_at f k ++ text_at f n
    → ((q : ℕ) → q ≢ k → label_of g q ≡ label_of f q) → texts_of g (k ∷ rest) ≡ texts_of f (k ∷ n ∷ rest)
texts_left f g k n rest apart both others =
    ap₂ (λ a b. a ++ b) both (spread-texts g rest ∙ spread-same (text_at g) (text_at f) rest (λ q among.
    ap (λ l. text_or_none (text_in l)) (others q (λ same. absurd (grind (arith, same, among, apart))))) ∙ sym (spread-texts f rest))
    ∙ append_assoc (text_at f k) (text_at f n) (texts_of f rest)

-- one join, and then the others
rejoined_then : (k n : ℕ) (rest : List ℕ) (v w u : Working) → IsForest v.forest → is_among k rest ≡ false → AreJoined k n v w → IsRejoined k rest w u
    → IsRejoined k (n ∷ rest) v u
rejoined_then k n rest v w u h apart j more = record {
  text = more.text ∙ texts_left v.forest w.forest k n rest apart (text_first k n v w h j) (λ q other. label_other k n v w h j q other);
  alike = λ t is. more.alike (record t { text = text_at w.forest k }) (ap text_in (label_like k n v w h j t is));
  label = λ q other. more.label q other ∙ label_other k n v w h j q other;
  parent = λ q outside. more.parent q (grind (arith, outside)) ∙ parent_other k n v w h j q (λ same. absurd (grind (arith, outside, same, eqb_tells n q)));
  children = λ q. more.children q ∙ ap (filter (λ c. not (is_among c rest))) (children_left k n v w h j q)
      ∙ filter-without n rest (children_of v.forest q);
}

-- all of them, where offsets can say every place of the whole
rejoined : (k : ℕ) (new : List ℕ) (v u : Working) → IsReady v → is_among k new ≡ false → text_length (texts_of v.forest (k ∷ new)) ≤ last_u32
    → in_turn (join_step k) new v ≡ Ok u → IsRejoined k new v u
unfolding in_turn
rejoined k [] v u r apart fits e = subst (IsRejoined k [] v) (was_same v u e) (unjoined k v)
rejoined k (n ∷ rest) v u r apart fits e =
    let a = first_part (join_step k n v) (in_turn (join_step k) rest) u e in
    let j = are_joined k n v a.0 r.in_order (omega (arith, fits, length-append)) a.1 in
    let beyond : is_among k rest ≡ false = grind (arith, apart) in
    let left : texts_of a.0.forest (k ∷ rest) ≡ texts_of v.forest (k ∷ n ∷ rest) =
    texts_left v.forest a.0.forest k n rest beyond (text_first k n v a.0 r.in_order j) (λ q other. label_other k n v a.0 r.in_order j q other) in
    rejoined_then k n rest v a.0 u r.in_order beyond j
    (rejoined k rest a.0 u (join_path covered_path k n v a.0 r a.1).ready beyond (subst (λ xs. text_length xs ≤ last_u32) (sym left) fits) a.2)

-- ---- a split, and joins

-- pieces in the place of a name, of which all but the first are left out
left_in_place : (k : ℕ) (new xs : List ℕ) → is_among k new ≡ false → ((q : ℕ) → is_among q xs ≡ true → is_among q new ≡ false)
    → filter (λ c. not (is_among c new)) (in_place_of k (k ∷ new) xs) ≡ xs
left_in_place k new [] other apart = refl
left_in_place k new (x ∷ xs) other apart =
    let keep : ℕ → Bool = λ c. not (is_among c new) in
    let here : is_among x new ≡ false = apart x (grind (arith, eqb_tells x x)) in
    let later : (q : ℕ) → is_among q xs ≡ true → is_among q new ≡ false = λ q among. apart q (grind (arith, among)) in
    elim (eqb_tells x k) [
      | inl own ↦ rw (own.0, other) (
          ap (λ ys. k ∷ ys) (filter-append keep new xs)
          ∙ ap₂ (λ a b. k ∷ (a ++ b)) (filter-gone keep new (λ q among. ap not among)) (filter-kept keep xs (λ q among. ap not (later q among)))
          ∙ ap (λ q. q ∷ xs) (sym own.1)
          )
      | inr else ↦ rw (else.0, here) (ap (λ ys. x ∷ ys) (left_in_place k new xs other later))
    ]

module _ (k : ℕ) (offsets new : List ℕ) (t : TextFields) (w v u : Working) (s : IsSplit k offsets (k ∷ new) w v) (is : text_in (label_of w.forest k) ≡ Some t)
    (there : has k w.forest ≡ true) (are : new ≡ keys_from w.next_key (length offsets)) (e : in_turn (join_step k) new v ≡ Ok u) where
  cut : IsLeft k offsets new w v
  cut = subst (λ ks. IsLeft k offsets ks w v) (sym are) (left k offsets (k ∷ new) w v s)

  -- the new keys are those of no old node
  apart : (q : ℕ) → has q w.forest ≡ true → is_among q new ≡ false
  apart q old = ap (is_among q) are ∙ below_keys q w.next_key (length offsets) (less_than_next q w s.ready old)

  whole : texts_of v.forest (k ∷ new) ≡ text_at w.forest k
  whole = cut.whole

  again : IsRejoined k new v u
  again = rejoined k new v u cut.stay.ready (apart k there) (subst (λ xs. text_length xs ≤ last_u32) (sym whole) s.fits) e

  parent_again : (q : ℕ) → has q w.forest ≡ true → parent_of u.forest q ≡ parent_of w.forest q
  parent_again q old = again.parent q (apart q old) ∙ cut.stay.parents q old

  children_again : (q : ℕ) → has q w.forest ≡ true → children_of u.forest q ≡ children_of w.forest q
  children_again q old =
      let keep : ℕ → Bool = λ c. not (is_among c new) in
      let old_apart : (c : ℕ) → is_among c (children_of w.forest q) ≡ true → is_among c new ≡ false =
      λ c among. apart c (has-child w.forest c q (parent_here w.forest q c s.ready.in_order among)) in
      again.children q ∙ elim (is_named_tells (parent_of w.forest k) q) [
        | inl above ↦ ap (filter keep) (cut.stay.order q above.1) ∙ left_in_place k new (children_of w.forest q) (apart k there) old_apart
        | inr far ↦ ap (filter keep) (cut.stay.children q old far.1) ∙ filter-kept keep (children_of w.forest q) (λ c among. ap not (old_apart c among))
      ]

  -- the text gets all its characters back
  label_own : label_of u.forest k ≡ label_of w.forest k
  label_own =
      let own : is_among k (k ∷ new) ≡ true = grind (arith, eqb_tells k k) in
      let first : text_in (label_of v.forest k) ≡ Some (record t { text = text_at v.forest k }) = ap text_in (cut.alike k t own is) in
      let back : text_at u.forest k ≡ t.text = again.text ∙ whole ∙ ap text_or_none is in
      again.alike (record t { text = text_at v.forest k }) first
      ∙ ap (λ x. Some (text_label k (record t { text = x }))) back
      ∙ sym (label_is w.forest k t is)

  label_again : (q : ℕ) → has q w.forest ≡ true → label_of u.forest q ≡ label_of w.forest q
  label_again q old = elim (eqb_tells q k) [
    | inl own ↦ subst (λ x. label_of u.forest x ≡ label_of w.forest x) (sym own.1) label_own
    | inr other ↦ again.label q other.1 ∙ cut.stay.labels q old other.1
  ]

  spot_again : (q : ℕ) → has q w.forest ≡ true → spot u.forest q ≡ spot w.forest q
  spot_again q old = same_spot_by (spot u.forest q) (spot w.forest q) (label_again q old) (parent_again q old) (children_again q old)

-- an offset is within characters
text_within : (o : Option TextFields) (offset : ℕ) (rest : List ℕ) → bad_offset 0 (text_or_none o) (offset ∷ rest) ≡ None → (t : TextFields) × (o ≡ Some t)
text_within None offset rest e = absurd (no_offset offset rest e)
text_within (Some t) offset rest e = (t, refl)

-- split nowhere, and joined with nothing
nothing_done : (k : ℕ) (new : List ℕ) (w v u : Working) (q : ℕ) → new ≡ [] → cut_at k 0 [] w ≡ Ok v → in_turn (join_step k) new v ≡ Ok u
    → spot u.forest q ≡ spot w.forest q
unfolding in_turn
nothing_done k [] w v u q none cuts e = ap (λ (x : Working). spot x.forest q) (sym (was_same w v cuts ∙ was_same v u e))
nothing_done k (n ∷ new) w v u q none cuts e = absurd (cc)

pub joined_again : (k : ℕ) (offsets new : List ℕ) (w v u : Working) (q : ℕ) → IsSplit k offsets (k ∷ new) w v → in_turn (join_step k) new v ≡ Ok u
    → has q w.forest ≡ true → spot u.forest q ≡ spot w.forest q
joined_again k [] new w v u q s e old = nothing_done k new w v u q (cc s.pieces_are) (cut_up k [] w v s.split).cut e
joined_again k (o ∷ rest) new w v u q s e old =
    let of = cut_up k (o ∷ rest) w v s.split in
    let text = text_within (text_in (label_of w.forest k)) o rest of.allowed in
    let there : has k w.forest ≡ true = sym (is_some-kind_of w.forest k) ∙ ap is_some of.kind_is in
    spot_again k (o ∷ rest) new text.0 w v u s text.1 there (cc s.pieces_are) e q old
