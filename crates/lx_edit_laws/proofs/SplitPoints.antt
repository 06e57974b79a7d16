-- Where the points of a text go that is split: each keeps its place in what the pieces have together.
use Rattle.std.proofs.Common.{◌≡◌, ◌≢◌, ◌∙◌, ℕ, zero, suc, ◌+◌, ◌-◌, ◌<◌, ◌≤◌, ◌⊎◌, true, false, cond, eqb, leb, ltb, ◌&&◌, List, [], ◌∷◌, length, None, Some, Ok, refl, sym, ap, ap₂, subst, arith, inl, inr}
use Rattle.std.proofs.lemmas.Bool.{cases_Bool, cases_lt}
use Rattle.std.proofs.lemmas.Bool.Decides.{eqb_tells, nat_tests}
use Rattle.lx_node.specs.Limits.{last_u32}
use Rattle.lx_trees.specs.Siblings.{is_among}
use Rattle.lx_node.specs.declared.fields.TextFields.{TextFields}
use Rattle.lx_node.specs.declared.cause.Point.{Point}
use Rattle.lx_node.specs.declared.cause.PointKind.TheVariants as point
use Rattle.lx_text.specs.Texts.{is_offset, text_length, slice_of}
use Rattle.lx_select.specs.declared.selection.Selection.{Selection}
use Rattle.lx_select.specs.declared.selection.Selection.TheVariants.{Range}
use Rattle.lx_select.specs.Selection.{each_point}
use Rattle.lx_select.specs.Rules.{is_counting_children, is_behind, offset_sum, put_moves, spliced_offset, splice_moves, split_moves}
use Rattle.lx_forest.specs.Forest.{Forest}
use Rattle.lx_forest.specs.Lookups.{has, label_of, parent_of}
use Rattle.lx_draft.specs.Working.{Working}
use Rattle.lx_draft.specs.Covering.{IsReady}
use Rattle.lx_draft.specs.Selecting.{length_told}
use Rattle.lx_draft.specs.Faults.{text_in}
use Rattle.lx_edit.specs.Conditions.{length_in, length_at, bad_offset}
use Rattle.lx_edit.specs.Texts.{cut_in_two, cut_at, keys_from}
use Rattle.lx_edit.proofs.Climbed.{first_part}
use Rattle.lx_edit_laws.specs.Reading.{place_among}
use Rattle.lx_edit_laws.proofs.SplitCuts.{IsCut, cut_tells, points_cut, stays_there, not_new, text_there, parent_there, not_above, far_from, far_from_new}
use Rattle.lx_edit_laws.proofs.SplitPieces.{IsParted, not_cut, cut_text, cut_place, first_label, one_more}
use Rattle.lx_edit_laws.proofs.WrapSteps.{was_same}
use Rattle.lx_edit_laws.proofs.SplitTexts.{IsCutAt, piece-length, piece-back, rest-told, offsets}

-- ---- points of a selection

pub each_self : (s : Selection) → each_point (λ x. x) s ≡ s
each_self (Range a b format) = refl
each_self other = refl

pub each_twice : (f g : Point → Point) (s : Selection) → each_point g (each_point f s) ≡ each_point (λ x. g (f x)) s
each_twice f g (Range a b format) = refl
each_twice f g other = refl

-- ---- one point

-- a child that comes moves no point that counts characters, or that is on another node
pub put_moves-still : (p i : ℕ) (x : Point) → (x.kind ≡ point.Text) ⊎ (x.key ≢ p) → put_moves p i x ≡ x
unfolding put_moves is_behind is_counting_children
put_moves-still p i x (inl text) =
    ap (λ kind. cond (is_counting_children kind && (eqb x.key p && ltb i x.offset)) (record x { offset = offset_sum x.offset 1 }) x) text
put_moves-still p i x (inr other) = grind (arith, other, eqb_tells x.key p)

-- where one cut sends a point
pub cut_moves : (k n offset len p index : ℕ) → Point → Point
cut_moves k n offset len p index x = put_moves p (index + 1) (splice_moves k offset len (length_told []) (split_moves k offset n x))

pub points_cut-moves : (k n offset len p index : ℕ) (s : Selection) → points_cut k n offset len p index s ≡ each_point (cut_moves k n offset len p index) s
unfolding cut_moves
points_cut-moves k n offset len p index s =
    ap (each_point (put_moves p (index + 1))) (each_twice (split_moves k offset n) (splice_moves k offset len (length_told [])) s)
    ∙ each_twice (λ x. splice_moves k offset len (length_told []) (split_moves k offset n x)) (put_moves p (index + 1)) s

-- one on another node stays
split_moves-other : (k offset n : ℕ) (x : Point) → x.key ≢ k → split_moves k offset n x ≡ x
unfolding split_moves
split_moves-other k offset n x other = grind (arith, other, eqb_tells x.key k)

pub splice_moves-other : (k from to len : ℕ) (x : Point) → x.key ≢ k → splice_moves k from to len x ≡ x
unfolding splice_moves
splice_moves-other k from to len x other = grind (arith, other, eqb_tells x.key k)

-- and so does one on the text up to the offset
split_moves-front : (k offset n : ℕ) (x : Point) → x.offset ≤ offset → split_moves k offset n x ≡ x
unfolding split_moves
split_moves-front k offset n x within = grind (arith, within, nat_tests)

pub splice_moves-front : (k from to len : ℕ) (x : Point) → x.offset ≤ from → splice_moves k from to len x ≡ x
unfolding splice_moves spliced_offset
splice_moves-front k from to len x within =
    let front : leb x.offset from ≡ true =
    grind (arith, within, nat_tests) in rw front (elim (cases_Bool (eqb x.key k)) [ inl same ↦ rw same refl | inr other ↦ rw other refl ])

split_moves-back : (k offset n : ℕ) (x : Point) → x.key ≡ k → offset < x.offset → split_moves k offset n x ≡ record x { key = n; offset = x.offset - offset }
unfolding split_moves
split_moves-back k offset n x own behind =
    let same : eqb x.key k ≡ true = grind (arith, own, eqb_tells x.key k) in
    let later : ltb offset x.offset ≡ true = grind (arith, behind, nat_tests) in
    rw (same, later) refl

module _ (k n offset len p index : ℕ) where
  pub cut_moves-other : (x : Point) → x.key ≢ k → (x.kind ≡ point.Text) ⊎ (x.key ≢ p) → cut_moves k n offset len p index x ≡ x
  unfolding cut_moves
  cut_moves-other x other side =
      ap (λ y. put_moves p (index + 1) (splice_moves k offset len (length_told []) y)) (split_moves-other k offset n x other)
      ∙ ap (put_moves p (index + 1)) (splice_moves-other k offset len (length_told []) x other)
      ∙ put_moves-still p (index + 1) x side

  pub cut_moves-front : (x : Point) → x.offset ≤ offset → x.key ≢ p → cut_moves k n offset len p index x ≡ x
  unfolding cut_moves
  cut_moves-front x within apart =
      ap (λ y. put_moves p (index + 1) (splice_moves k offset len (length_told []) y)) (split_moves-front k offset n x within)
      ∙ ap (put_moves p (index + 1)) (splice_moves-front k offset len (length_told []) x within)
      ∙ put_moves-still p (index + 1) x (inr apart)

  pub cut_moves-back : (x : Point) → x.key ≡ k → offset < x.offset → n ≢ k → n ≢ p
      → cut_moves k n offset len p index x ≡ record x { key = n; offset = x.offset - offset }
  unfolding cut_moves
  cut_moves-back x own behind other apart =
      let y : Point = record x { key = n; offset = x.offset - offset } in
      ap (λ z. put_moves p (index + 1) (splice_moves k offset len (length_told []) z)) (split_moves-back k offset n x own behind)
      ∙ ap (put_moves p (index + 1)) (splice_moves-other k offset len (length_told []) y other)
      ∙ put_moves-still p (index + 1) y (inr apart)

-- ---- the points of all pieces

-- where points go, from the text k of the draft w to its pieces in the draft v
pub record PointsGo (k : ℕ) (new : List ℕ) (w v : Working) : Type 0 where
  pub moved : Point → Point
  pub selection : v.selection ≡ each_point moved w.selection
  pub on_it : (x : Point) → x.key ≡ k → x.offset ≤ length_at w.forest k →
      (is_among (moved x).key (k ∷ new) ≡ true) × (place_among v.forest (k ∷ new) (moved x) ≡ x.offset)
  pub still : (x : Point) → has x.key w.forest ≡ true → x.key ≢ k → (x.kind ≡ point.Text) ⊎ (parent_of w.forest k ≢ Some x.key) → moved x ≡ x

pub none_go : (k : ℕ) (w : Working) → PointsGo k [] w w
none_go k w = record {
  moved = λ x. x;
  selection = sym (each_self w.selection);
  on_it = λ x own within. (grind (arith, own, eqb_tells k x.key), grind (arith, own, eqb_tells x.key k));
  still = λ x here other side. refl;
}

-- keys from one on are none that is less
pub below_keys : (q k : ℕ) (count : ℕ) → q < k → is_among q (keys_from k count) ≡ false
below_keys q k zero less = refl
below_keys q k (suc count) less = grind (arith, less, eqb_tells k q, below_keys q (k + 1) count (omega (arith, less)))

-- a point of a key that isn't the first of these is after what the first has
behind_first : (f : Forest) (k : ℕ) (new : List ℕ) (x : Point) → is_among k new ≡ false → is_among x.key new ≡ true
    → place_among f (k ∷ new) x ≡ length_at f k + place_among f new x
behind_first f k new x absent among =
    grind (arith, absent, among, eqb_tells x.key k)

module _ (k start o : ℕ) (rest new text : List ℕ) (t : TextFields) (w u v : Working) (ready : IsReady w) (here : text_in (label_of w.forest k) ≡ Some t)
    (is : t.text ≡ slice_of start (length_told text) text)
    (place : IsCutAt start o text) (c : IsCut k (o - start) t w u) (r : IsParted w.next_key o rest new text (cut_text (o - start) t) u v)
    (absent : is_among k (w.next_key ∷ new) ≡ false) (go : PointsGo w.next_key new u v) where
  abbrev n : ℕ
  n = w.next_key

  abbrev one : Point → Point
  one x = cut_moves k n (o - start) (length_told t.text) c.parent c.index x

  -- the text's length, and what the first piece and the rest have of it
  length_before : length_at w.forest k ≡ length_told text - start
  length_before = ap length_in here ∙ ap length_told is ∙ rest-told start text place.first place.few

  length_first : length_at v.forest k ≡ o - start
  length_first = ap (λ l. length_in (text_in l)) (first_label k start o rest new text t w u v ready here is place c r) ∙ piece-length start o text place

  length_rest : length_at u.forest n ≡ length_told text - o
  length_rest =
      ap (λ l. length_in (text_in l)) c.cuts_to.new ∙ ap length_told (piece-back start o text t.text place is)
      ∙ rest-told o text place.second place.few

  -- up to the offset a point stays in the first piece
  in_front : (x : Point) → x.key ≡ k → x.offset ≤ o - start → go.moved (one x) ≡ x
  in_front x own within =
      let apart : x.key ≢ c.parent = λ same. not_above ready c (sym own ∙ same) in
      let other : x.key ≢ n = λ same. c.other (sym own ∙ same) in
      ap go.moved (cut_moves-front k n (o - start) (length_told t.text) c.parent c.index x within apart)
      ∙ go.still x (ap (λ q. has q u.forest) own ∙ stays_there ready c k (text_there ready c)) other (inr (far_from_new ready c x.key apart))

  -- and after it, it goes to the rest
  pushed : Point → Point
  pushed x = record x { key = n; offset = x.offset - (o - start) }

  behind : (x : Point) → x.key ≡ k → o - start < x.offset → one x ≡ pushed x
  unfolding pushed
  behind x own later =
      cut_moves-back k n (o - start) (length_told t.text) c.parent c.index x own later (λ same. c.other (sym same))
      (λ same. not_new ready c c.parent (parent_there ready c) (sym same))

  on_pieces : (x : Point) → x.key ≡ k → x.offset ≤ length_at w.forest k
      → (is_among (go.moved (one x)).key (k ∷ n ∷ new) ≡ true) × (place_among v.forest (k ∷ n ∷ new) (go.moved (one x)) ≡ x.offset)
  unfolding pushed
  on_pieces x own within = elim (cases_lt (o - start) x.offset) [
    | inl later ↦
        let y : Point = pushed x in
        let short : y.offset ≤ length_at u.forest n = omega (arith, within, length_before, length_rest, later, place.order) in
        let there = go.on_it y refl short in
        let same : one x ≡ y = behind x own later in (
          ap (λ z. is_among (go.moved z).key (k ∷ n ∷ new)) same ∙ grind (arith, there.0),
          ap (λ z. place_among v.forest (k ∷ n ∷ new) (go.moved z)) same
              ∙ behind_first v.forest k (n ∷ new) (go.moved y) absent there.0
              ∙ ap₂ (λ a b. a + b) length_first there.1
              ∙ omega (arith, later),
        )
    | inr first ↦
        let same : go.moved (one x) ≡ x = in_front x own (omega (arith, first)) in (
          ap (λ z. is_among z.key (k ∷ n ∷ new)) same ∙ grind (arith, own, eqb_tells k x.key),
          ap (place_among v.forest (k ∷ n ∷ new)) same ∙ grind (arith, own, eqb_tells x.key k),
        )
  ]

  pub one_goes : PointsGo k (n ∷ new) w v
  one_goes = record {
    moved = λ x. go.moved (one x);
    selection =
        go.selection ∙ ap (each_point go.moved) (c.selection ∙ points_cut-moves k n (o - start) (length_told t.text) c.parent c.index w.selection)
        ∙ each_twice one go.moved w.selection;
    on_it = on_pieces;
    still = λ x so other side.
        let mine : (x.kind ≡ point.Text) ⊎ (x.key ≢ c.parent) = elim side [ inl text ↦ inl text | inr far ↦ inr (far_from ready c x.key far) ] in
        let later : (x.kind ≡ point.Text) ⊎ (parent_of u.forest n ≢ Some x.key) =
        elim mine [ inl text ↦ inl text | inr far ↦ inr (far_from_new ready c x.key far) ] in
        ap go.moved (cut_moves-other k n (o - start) (length_told t.text) c.parent c.index x other mine)
        ∙ go.still x (stays_there ready c x.key so) (not_new ready c x.key so) later;
  }

-- a key that is there comes before the next one
pub less_than_next : (k : ℕ) (w : Working) → IsReady w → has k w.forest ≡ true → k < w.next_key
less_than_next k w ready there = grind (arith, there, ready.free k)

-- all cuts of a split
pub parted : (k start : ℕ) (list text : List ℕ) (t : TextFields) (w v : Working) → IsReady w → text_in (label_of w.forest k) ≡ Some t
    → t.text ≡ slice_of start (length_told text) text → is_offset start text ≡ true → text_length text ≤ last_u32 → bad_offset start text list ≡ None
    → cut_at k start list w ≡ Ok v → IsParted k start list (keys_from w.next_key (length list)) text t w v × PointsGo k (keys_from w.next_key (length list)) w v
parted k start [] text t w v ready here is begin few none e =
    subst (λ x. IsParted k start [] [] text t w x × PointsGo k [] w x) (was_same w v e) (not_cut k start text t w ready here is, none_go k w)
parted k start (o ∷ rest) text t w v ready here is begin few none e =
    let n : ℕ = w.next_key in
    let cut : TextFields = cut_text (o - start) t in
    let part = first_part (cut_in_two k (o - start) w) (cut_at n o rest) v e in
    let u : Working = part.0 in
    let c : IsCut k (o - start) t w u = cut_tells k (o - start) t w u ready here part.1 in
    let place : IsCutAt start o text = cut_place start o rest text begin few none in
    let further =
    parted n o rest text cut u v c.ready (ap text_in c.cuts_to.new) (piece-back start o text t.text place is) place.second few
    (offsets start o text rest none).others part.2 in
    let both = subst (λ m. IsParted n o rest (keys_from m (length rest)) text cut u v × PointsGo n (keys_from m (length rest)) u v) c.next further in
    let new : List ℕ = keys_from (n + 1) (length rest) in
    let absent : is_among k (n ∷ new) ≡ false = below_keys k n (suc (length rest)) (less_than_next k w ready (text_there ready c)) in (
      one_more k start o rest new text t w u v ready here is place c both.0,
      one_goes k start o rest new text t w u v ready here is place c both.0 absent both.1,
    )
