-- What is selected in a text is made a text by itself, whose format is switched.
use Rattle.lx_blocks.specs.Blocks.{is_at}
use Rattle.lx_blocks.specs.Ranges.{characters_at, end_of, lies, normal_at, range_of, start_of}
use Rattle.lx_blocks.specs.declared.ranges.Ranged.{Ranged}
use Rattle.lx_caret.proofs.Fit.{after_tells}
use Rattle.lx_caret.proofs.Lies.{text_at}
use Rattle.lx_caret.specs.Lying.{IsLying}
use Rattle.lx_caret.specs.Formatting.{Isolated, and_before, edges, format_at, format_in, format_text_step, formatted, has_bit, isolate_step, isolated, isolated_key, piece, pieces, selection_format, switch_step, switched, switched_all, switched_in, whole}
use Rattle.lx_caret_laws.proofs.AtCaret.{place_lies, ranged, taken}
use Rattle.lx_caret_laws.proofs.Gone.{none_covered}
use Rattle.lx_caret_laws.proofs.Opened.{characters_said}
use Rattle.lx_caret_laws.proofs.Spliced.{label_other, text_few, text_of_normal}
use Rattle.lx_caret_laws.specs.Deleting.{IsSelectedIn}
use Rattle.lx_caret_laws.specs.Formats.{IsFormattedIn, all_of, formats_by, formats_said}
use Rattle.lx_caret_laws.specs.Reading.{said, said_by}
use Rattle.lx_draft.proofs.Covered.{answered}
use Rattle.lx_draft.proofs.Touched.{is_some-kind_of}
use Rattle.lx_draft.specs.Faults.{after, over_limits, text_in}
use Rattle.lx_draft.specs.Selecting.{text_of}
use Rattle.lx_draft.specs.Steps.{fields_written, set_points, set_step}
use Rattle.lx_draft.specs.Working.{Working}
use Rattle.lx_edit.specs.Edits.{text_point}
use Rattle.lx_edit.specs.InTurn.{in_turn}
use Rattle.lx_edit.specs.Texts.{keys_from, split_step, text_or_none}
use Rattle.lx_edit_laws.proofs.SplitLaws.{IsLeft, left}
use Rattle.lx_edit_laws.proofs.SplitPoints.{less_than_next}
use Rattle.lx_edit_laws.proofs.WrapSteps.{was_same}
use Rattle.lx_edit_laws.specs.Reading as told
use Rattle.lx_edit_laws.specs.Splits.{cut_from}
use Rattle.lx_forest.proofs.Lookups.{children_of-with_fields, fields_of-with_fields}
use Rattle.lx_forest.specs.Edits.{with_fields}
use Rattle.lx_forest.specs.Forest.{Forest, Label}
use Rattle.lx_forest.specs.Lookups.{children_of, fields_of, has, label_of}
use Rattle.lx_links.specs.Faults.{set_fault}
use Rattle.lx_node.specs.Kinds.{has_characters}
use Rattle.lx_node.specs.Limits.{last_u32}
use Rattle.lx_node.specs.Strings.{characters_of}
use Rattle.lx_node.specs.declared.cause.Cause.{Cause}
use Rattle.lx_node.specs.declared.fields.Fields.TheVariants as fields
use Rattle.lx_node.specs.declared.fields.Fields.{Fields}
use Rattle.lx_node.specs.declared.fields.TextFields.{TextFields}
use Rattle.lx_text.proofs.Places.{front-start, rest-end}
use Rattle.lx_text.proofs.Told.{offset_within, slice-back, slice-front, told-all}
use Rattle.lx_text.specs.Texts.{front_of, is_offset, length_told, rest_of, slice_of, text_length}
use Rattle.lx_trees.specs.Siblings.{is_among}
use Rattle.std.proofs.Common.{Bool, List, None, Ok, Option, Result, Some, [], ap, append-nil, ap₂, arith, cond, eqb, false, inl, inr, length, map, not, option_map, refl, subst, suc, sym, true, zero, ℕ, ◌&&◌, ◌++◌, ◌+◌, ◌<◌, ◌∙◌, ◌∷◌, ◌≡◌, ◌≢◌, ◌≤◌}
use Rattle.std.proofs.lemmas.Bool.Decides.{eqb_tells, nat_tests}
use Rattle.std.specs.Option.{option_or}
use Rattle.std.specs.Prelude.{filter, is_some, nat_le, nat_lt}

-- ---- the one piece

-- what is formatted, and where it lies
pub record IsMet (bit k from to format : ℕ) (w v : Working) : Type 0 where
  pub done : formatted bit (pieces w.forest (text_point k from) (text_point k to)) format w ≡ Ok v
  pub first : lies w.forest (text_point k from) ≡ true
  pub second : lies w.forest (text_point k to) ≡ true
  pub lying : IsLying w

pub met : (bit k from to format : ℕ) (t : TextFields) (w v : Working) → IsSelectedIn k from to format t w → format_text_step bit w ≡ Ok v
    → IsMet bit k from to format w v
unfolding format_text_step
met bit k from to format t w v is e =
    let f : Forest = w.forest in
    let go : Ranged → Result Working Cause = λ r. formatted bit (pieces f (start_of f r) (end_of f r)) r.format w in
    let first = after_tells (range_of w) go v e in
    let own : eqb k k ≡ true = grind (arith, eqb_tells k k) in
    elim is.selects [
      | inl selects ↦
          let r : Ranged = ranged (text_point k from) (text_point k to) format in
          let took = taken (text_point k from) (text_point k to) format w first.0 selects first.1.0 in
          let both : ◌≡◌ {A = Result Ranged Cause} (Ok first.0) (Ok r) = sym first.1.0 ∙ took.is in
          let same : first.0 ≡ r = cc in
          let order : nat_le from to ≡ true = grind (arith, is.some, nat_tests) in
          let start : start_of f r ≡ text_point k from = rw (own, order) refl in
          let end : end_of f r ≡ text_point k to = rw (own, order) refl in
          record {
            done = sym (ap₂ (λ p q. formatted bit (pieces f p q) format w) start end) ∙ sym (ap go same) ∙ first.1.1;
            first = took.anchor;
            second = took.focus;
            lying = took.lying;
          }
      | inr selects ↦
          let r : Ranged = ranged (text_point k to) (text_point k from) format in
          let took = taken (text_point k to) (text_point k from) format w first.0 selects first.1.0 in
          let both : ◌≡◌ {A = Result Ranged Cause} (Ok first.0) (Ok r) = sym first.1.0 ∙ took.is in
          let same : first.0 ≡ r = cc in
          let order : nat_le to from ≡ false = grind (arith, is.some, nat_tests) in
          let start : start_of f r ≡ text_point k from = rw (own, order) refl in
          let end : end_of f r ≡ text_point k to = rw (own, order) refl in
          record {
            done = sym (ap₂ (λ p q. formatted bit (pieces f p q) format w) start end) ∙ sym (ap go same) ∙ first.1.1;
            first = took.focus;
            second = took.anchor;
            lying = took.lying;
          }
    ]

pub pieces_one : (f : Forest) (k from to : ℕ) → from < to → pieces f (text_point k from) (text_point k to) ≡ piece k from to ∷ []
pieces_one f k from to less =
    let own : eqb k k ≡ true = grind (arith, eqb_tells k k) in
    let some : nat_lt from to ≡ true = grind (arith, less, nat_tests) in
    ap₂ (λ b cs. filter (λ p. nat_lt p.from p.to)
    ((piece k from (cond b to (characters_at f k)) ∷ []) ++ (map (whole f) (filter (is_at has_characters f) cs) ++ cond b [] (piece k 0 to ∷ []))))
    own (none_covered f k from to)
    ∙ ap (λ b. cond b (piece k from to ∷ []) []) some

-- ---- the steps

-- the piece became a text by itself, whose format was switched
pub record IsSwitched (bit k from to key : ℕ) (t : TextFields) (w u v : Working) : Type 0 where
  pub split : split_step k (edges w.forest (piece k from to)) w ≡ Ok u
  pub set : (now : TextFields) → fields_of u.forest key ≡ Some (fields.Text now) → now.format ≡ t.format
      → v.forest ≡ with_fields key (fields.Text (record now { format = switched (not (has_bit bit t.format)) bit t.format })) u.forest
  pub left : (now : TextFields) → fields_of u.forest key ≡ Some (fields.Text now) → now.format ≡ t.format
      → (m : Working) × ((last : ℕ) × ((set_step key (fields.Text (record now { format = switched (not (has_bit bit t.format)) bit t.format })) u ≡ Ok m)
      × (selection_format last m ≡ v)))

set_forest : (key : ℕ) (x : TextFields) (u v : Working) → set_step key (fields.Text x) u ≡ Ok v → v.forest ≡ with_fields key (fields.Text x) u.forest
unfolding set_step
set_forest key x u v e =
    let y : Fields = fields.Text x in
    let told = answered (option_or (set_fault key y u.forest) (over_limits (characters_of y) u))
    (fields_written key y (characters_of y) (set_points key y) u) v e in
    sym (ap (λ (z : Working). z.forest) told.1)

switch_sets : (on : Bool) (bit key : ℕ) (now : TextFields) (u v : Working) → fields_of u.forest key ≡ Some (fields.Text now)
    → switch_step on bit key u ≡ Ok v → set_step key (fields.Text (record now { format = switched on bit now.format })) u ≡ Ok v
unfolding switch_step
switch_sets on bit key now u v here e = sym (ap (λ o. switched_in on bit o key u) here) ∙ e

switch_forest : (on : Bool) (bit key : ℕ) (now : TextFields) (u v : Working) → fields_of u.forest key ≡ Some (fields.Text now)
    → switch_step on bit key u ≡ Ok v → v.forest ≡ with_fields key (fields.Text (record now { format = switched on bit now.format })) u.forest
switch_forest on bit key now u v here e =
    set_forest key (record now { format = switched on bit now.format }) u v (switch_sets on bit key now u v here e)

pub switched_one : (bit k from to format : ℕ) (t : TextFields) (w v : Working) → normal_at w.forest k ≡ Some t
    → formatted bit (piece k from to ∷ []) format w ≡ Ok v
    → (u : Working) × IsSwitched bit k from to (cond (nat_lt 0 from) w.next_key k) t w u v
unfolding isolated in_turn isolate_step
switched_one bit k from to format t w v normal e =
    let key : ℕ = isolated_key (piece k from to) w in
    let first = after_tells (isolated (piece k from to ∷ []) w) (λ made. switched_all bit made.texts made.draft) v e in
    let one = after_tells (isolate_step (piece k from to) w) (λ u. after (isolated [] u) (and_before key)) first.0 first.1.0 in
    let u : Working = one.0 in
    let last : ◌≡◌ {A = Result Isolated Cause} (Ok (record { draft = u; texts = key ∷ [] })) (Ok first.0) = one.1.1 in
    let made : ◌≡◌ {A = Isolated} (record { draft = u; texts = key ∷ [] }) first.0 = cc in
    let turned : switched_all bit (key ∷ []) u ≡ Ok v = ap (λ (m : Isolated). switched_all bit m.texts m.draft) made ∙ first.1.1 in
    let on : Bool = not (has_bit bit (format_at u.forest key)) in
    let two = after_tells (in_turn (switch_step on bit) (key ∷ []) u) (λ x. Ok (selection_format (format_at x.forest key) x)) v turned in
    let three = after_tells (switch_step on bit key u) (in_turn (switch_step on bit) []) two.0 two.1.0 in
    let left_at : three.0 ≡ two.0 = was_same three.0 two.0 three.1.1 in
    let forest : v.forest ≡ three.0.forest =
    sym (ap (λ (x : Working). x.forest) (was_same (selection_format (format_at two.0.forest key) two.0) v two.1.1))
    ∙ sym (ap (λ (x : Working). x.forest) left_at) in
    let key_is : key ≡ cond (nat_lt 0 from) w.next_key k = ap (λ o. cond (is_some o && nat_lt 0 from) w.next_key k) normal in
    let goes : split_step k (edges w.forest (piece k from to)) w ≡ Ok u =
    sym (ap (λ o. cond (is_some o) (split_step k (edges w.forest (piece k from to)) w) (Ok w)) normal) ∙ one.1.0 in
    let all : IsSwitched bit k from to key t w u v = record {
      split = goes;
      set = λ now here same.
          let format_is : format_at u.forest key ≡ t.format = ap format_in here ∙ same in
          forest ∙ switch_forest on bit key now u three.0 here three.1.0
          ∙ ap₂ (λ a b. with_fields key (fields.Text (record now { format = switched (not (has_bit bit a)) bit b })) u.forest) format_is same;
      left = λ now here same.
          let format_is : format_at u.forest key ≡ t.format = ap format_in here ∙ same in (
            three.0,
            (
              format_at two.0.forest key,
              (
                sym (ap₂ (λ a b. set_step key (fields.Text (record now { format = switched (not (has_bit bit a)) bit b })) u) format_is same)
                    ∙ switch_sets on bit key now u three.0 here three.1.0,
                ap (selection_format (format_at two.0.forest key)) left_at ∙ was_same (selection_format (format_at two.0.forest key) two.0) v two.1.1,
              ),
            ),
          );
    } in
    (u, subst (λ m. IsSwitched bit k from to m t w u v) key_is all)

-- ---- the formats of the pieces

one_piece : (g : Forest) (a : ℕ) (format : ℕ) (text : List ℕ) → formats_said g a ≡ all_of format text → formats_by g (a ∷ []) ≡ all_of format text
one_piece g a format text e = append-nil (formats_said g a) ∙ e

-- how a text is cut at the ends of what is selected, where these aren't its own
abbrev cuts : ℕ → ℕ → Bool → Bool → List ℕ
cuts from to front back = cond front (from ∷ cond back (to ∷ []) []) (cond back (to ∷ []) [])

module _ (bit k from to format : ℕ) (t : TextFields) (w u v : Working) (is : IsSelectedIn k from to format t w)
    (place_from : is_offset from t.text ≡ true) (place_to : is_offset to t.text ≡ true) (key : ℕ)
    (s : IsSwitched bit k from to key t w u v) where
  abbrev now_format : ℕ
  now_format = switched (not (has_bit bit t.format)) bit t.format

  here : text_in (label_of w.forest k) ≡ Some t
  here = text_of_normal w.forest k t is.normal

  few : text_length t.text ≤ last_u32
  few = text_few w k t is.sound here

  own : told.text_at w.forest k ≡ t.text
  own = ap text_or_none here

  all : length_told t.text ≡ text_length t.text
  all = told-all t.text few

  -- once the text is cut at these offsets
  module _ (list : List ℕ) (e : split_step k list w ≡ Ok u) where
    abbrev new : List ℕ
    new = keys_from w.next_key (length list)

    parts : IsLeft k list new w u
    parts = left k list (k ∷ new) w u (record {
      ready = is.sound.ready;
      split = e;
      pieces_are = refl;
      fits = subst (λ x. text_length x ≤ last_u32) (sym own) few;
    })

    label_piece : (q : ℕ) → is_among q (k ∷ new) ≡ true
        → fields_of u.forest q ≡ Some (fields.Text (record t { text = told.text_at u.forest q }))
    label_piece q among = ap (option_map (λ (l : Label). l.fields)) (parts.alike q t among here)

    forest_is : is_among key (k ∷ new) ≡ true
        → v.forest ≡ with_fields key (fields.Text (record t { text = told.text_at u.forest key; format = now_format })) u.forest
    forest_is among = s.set (record t { text = told.text_at u.forest key }) (label_piece key among) refl

    fields_other : is_among key (k ∷ new) ≡ true → (q : ℕ) → q ≢ key → fields_of v.forest q ≡ fields_of u.forest q
    fields_other among q other =
        let off : eqb q key ≡ false = grind (arith, other, eqb_tells q key) in
        let x : Fields = fields.Text (record t { text = told.text_at u.forest key; format = now_format }) in
        ap (λ g. fields_of g q) (forest_is among) ∙ fields_of-with_fields key x u.forest q
        ∙ ap (λ b. option_map (λ old. cond b x old) (fields_of u.forest q)) off ∙ by_fields (fields_of u.forest q) where
          by_fields : (o : Option Fields) → option_map (λ old. old) o ≡ o
          by_fields None = refl
          by_fields (Some y) = refl

    fields_key : is_among key (k ∷ new) ≡ true
        → fields_of v.forest key ≡ Some (fields.Text (record t { text = told.text_at u.forest key; format = now_format }))
    fields_key among =
        let same : eqb key key ≡ true = grind (arith, eqb_tells key key) in
        let x : Fields = fields.Text (record t { text = told.text_at u.forest key; format = now_format }) in
        ap (λ g. fields_of g key) (forest_is among) ∙ fields_of-with_fields key x u.forest key
        ∙ ap₂ (λ b o. option_map (λ old. cond b x old) o) same (label_piece key among)

    formats_other : is_among key (k ∷ new) ≡ true → (q : ℕ) → is_among q (k ∷ new) ≡ true → q ≢ key
        → formats_said v.forest q ≡ all_of t.format (told.text_at u.forest q)
    formats_other among q at other =
        ap (λ o. map (λ c. format_in o) (text_of o)) (fields_other among q other ∙ label_piece q at)

    formats_key : is_among key (k ∷ new) ≡ true → formats_said v.forest key ≡ all_of now_format (told.text_at u.forest key)
    formats_key among = ap (λ o. map (λ c. format_in o) (text_of o)) (fields_key among)

    said_now : is_among key (k ∷ new) ≡ true → (q : ℕ) → is_among q (k ∷ new) ≡ true → said v.forest q ≡ told.text_at u.forest q
    said_now among q at = elim (eqb_tells q key) [
      | inl same ↦ ap (said v.forest) same.1 ∙ ap text_of (fields_key among) ∙ ap (told.text_at u.forest) (sym same.1)
      | inr other ↦ ap text_of (fields_other among q other.1 ∙ label_piece q at)
    ]

    read_by : is_among key (k ∷ new) ≡ true → (qs : List ℕ) → ((q : ℕ) → is_among q qs ≡ true → is_among q (k ∷ new) ≡ true)
        → said_by v.forest qs ≡ told.texts_of u.forest qs
    read_by among [] each = refl
    read_by among (q ∷ qs) each =
        ap₂ (λ a c. a ++ c) (said_now among q (each q (grind (arith, eqb_tells q q)))) (read_by among qs (λ y at. each y (grind (arith, at))))

    pub formatted_so : is_among key (k ∷ new) ≡ true
        → formats_by v.forest (k ∷ new) ≡ all_of t.format (front_of from t.text) ++
        (all_of now_format (slice_of from to t.text) ++ all_of t.format (rest_of to t.text))
        → IsFormattedIn bit k from to t w v
    formatted_so among formats = record {
      texts = k ∷ new;
      order = λ p up.
          ap (λ g. children_of g p) (forest_is among) ∙ children_of-with_fields key _ u.forest p ∙ parts.stay.order p up;
      read = read_by among (k ∷ new) (λ q at. at) ∙ parts.whole ∙ own;
      formats = formats;
      others = λ q so other.
          let off : q ≢ key = λ same. absurd (not_new q so other (ap (λ m. is_among m (k ∷ new)) same ∙ among)) in
          ap (λ g. label_of g q) (forest_is among) ∙ label_other u.forest key _ q off ∙ parts.stay.labels q so other;
    } where
      above_keys : (q m n : ℕ) → q < m → is_among q (keys_from m n) ≡ false
      above_keys q m zero less = refl
      above_keys q m (suc n) less = grind (arith, less, eqb_tells m q, above_keys q (m + 1) n (omega (arith, less)))

      not_new : (q : ℕ) → has q w.forest ≡ true → q ≢ k → is_among q (k ∷ new) ≢ true
      not_new q so other at =
          absurd (grind (arith, at, other, eqb_tells k q, above_keys q w.next_key (length list) (less_than_next q w is.sound.ready so)))

  -- ---- by where the selection's ends are

  heads₁ : (a x : List ℕ) → ◌≡◌ {A = List (List ℕ)} (a ∷ []) (x ∷ []) → a ≡ x
  heads₁ a x e = cc

  heads₂ : (a b x y : List ℕ) → ◌≡◌ {A = List (List ℕ)} (a ∷ b ∷ []) (x ∷ y ∷ []) → (a ≡ x) × (b ≡ y)
  heads₂ a b x y e = (cc, cc)

  heads₃ : (a b c x y z : List ℕ) → ◌≡◌ {A = List (List ℕ)} (a ∷ b ∷ c ∷ []) (x ∷ y ∷ z ∷ []) → (a ≡ x) × ((b ≡ y) × (c ≡ z))
  heads₃ a b c x y z e = (cc, (cc, cc))

  k_old : k ≢ w.next_key
  k_old e = absurd (grind (arith, e, less_than_next k w is.sound.ready there)) where
    there : has k w.forest ≡ true
    there = sym (is_some-kind_of w.forest k) ∙ ap is_some (text_at w.forest k t here).kind_is

  last_piece : (o : ℕ) → is_offset o t.text ≡ true → slice_of o (length_told t.text) t.text ≡ rest_of o t.text
  last_piece o at = ap (λ n. slice_of o n t.text) all ∙ slice-back o t.text at

  in_three : split_step k (from ∷ to ∷ []) w ≡ Ok u → key ≡ w.next_key → IsFormattedIn bit k from to t w v
  in_three e is_new =
      let n : ℕ = w.next_key in
      let list : List ℕ = from ∷ to ∷ [] in
      let among : is_among key (k ∷ n ∷ (n + 1) ∷ []) ≡ true = grind (arith, is_new, eqb_tells n key) in
      let h = heads₃ _ _ _ _ _ _ ((parts list e).pieces ∙ ap (cut_from 0 list) own) in
      let one = formats_other list e among k (grind (arith, eqb_tells k k)) (λ same. k_old (same ∙ is_new)) in
      let two = subst (λ m. formats_said v.forest m ≡ all_of now_format (told.text_at u.forest m)) is_new (formats_key list e among) in
      let three = formats_other list e among (n + 1) (grind (arith, eqb_tells (n + 1) (n + 1))) (λ same. absurd (omega (arith, same, is_new))) in
      formatted_so list e among (ap₂ (λ a c. a ++ c) (one ∙ ap (all_of t.format) (h.0 ∙ slice-front from t.text))
      (ap₂ (λ a c. a ++ c) (two ∙ ap (all_of now_format) h.1.0)
      (one_piece v.forest (n + 1) t.format (rest_of to t.text) (three ∙ ap (all_of t.format) (h.1.1 ∙ last_piece to place_to)))))

  at_end : text_length t.text ≤ to → (all_of t.format (rest_of to t.text) ≡ []) × (slice_of from (length_told t.text) t.text ≡ slice_of from to t.text)
  at_end reached =
      let n : to ≡ length_told t.text = omega (arith, all, reached, offset_within to t.text place_to) in
      (ap (all_of t.format) (rest-end to t.text reached), ap (λ m. slice_of from m t.text) (sym n))

  at_start : from ≡ 0 → all_of t.format (front_of from t.text) ≡ []
  at_start e = ap (λ m. all_of t.format (front_of m t.text)) e ∙ ap (all_of t.format) (front-start t.text)

  in_back : split_step k (from ∷ []) w ≡ Ok u → key ≡ w.next_key → text_length t.text ≤ to → IsFormattedIn bit k from to t w v
  in_back e is_new reached =
      let n : ℕ = w.next_key in
      let list : List ℕ = from ∷ [] in
      let among : is_among key (k ∷ n ∷ []) ≡ true = grind (arith, is_new, eqb_tells n key) in
      let h = heads₂ _ _ _ _ ((parts list e).pieces ∙ ap (cut_from 0 list) own) in
      let end = at_end reached in
      let one = formats_other list e among k (grind (arith, eqb_tells k k)) (λ same. k_old (same ∙ is_new)) in
      let two = subst (λ m. formats_said v.forest m ≡ all_of now_format (told.text_at u.forest m)) is_new (formats_key list e among) in
      formatted_so list e among (ap₂ (λ a c. a ++ c) (one ∙ ap (all_of t.format) (h.0 ∙ slice-front from t.text))
      (ap₂ (λ a c. a ++ c) (two ∙ ap (all_of now_format) (h.1 ∙ end.1)) (sym end.0)))

  in_front : split_step k (to ∷ []) w ≡ Ok u → key ≡ k → from ≡ 0 → IsFormattedIn bit k from to t w v
  in_front e is_old start =
      let n : ℕ = w.next_key in
      let list : List ℕ = to ∷ [] in
      let among : is_among key (k ∷ n ∷ []) ≡ true = grind (arith, is_old, eqb_tells k key) in
      let h = heads₂ _ _ _ _ ((parts list e).pieces ∙ ap (cut_from 0 list) own) in
      let one = subst (λ m. formats_said v.forest m ≡ all_of now_format (told.text_at u.forest m)) is_old (formats_key list e among) in
      let two = formats_other list e among n (grind (arith, eqb_tells n n)) (λ same. k_old (sym (same ∙ is_old))) in
      let first : told.text_at u.forest k ≡ slice_of from to t.text = h.0 ∙ ap (λ m. slice_of m to t.text) (sym start) in
      formatted_so list e among (ap₂ (λ a c. a ++ c) (one ∙ ap (all_of now_format) first)
      (one_piece v.forest n t.format (rest_of to t.text) (two ∙ ap (all_of t.format) (h.1 ∙ last_piece to place_to)))
      ∙ sym (ap (λ a. a ++ (all_of now_format (slice_of from to t.text) ++ all_of t.format (rest_of to t.text))) (at_start start)))

  in_one : split_step k [] w ≡ Ok u → key ≡ k → from ≡ 0 → text_length t.text ≤ to → IsFormattedIn bit k from to t w v
  in_one e is_old start reached =
      let list : List ℕ = [] in
      let among : is_among key (k ∷ []) ≡ true = grind (arith, is_old, eqb_tells k key) in
      let h = heads₁ _ _ ((parts list e).pieces ∙ ap (cut_from 0 list) own) in
      let end = at_end reached in
      let one = subst (λ m. formats_said v.forest m ≡ all_of now_format (told.text_at u.forest m)) is_old (formats_key list e among) in
      let first : told.text_at u.forest k ≡ slice_of from to t.text = h ∙ ap (λ m. slice_of m (length_told t.text) t.text) (sym start) ∙ end.1 in
      formatted_so list e among (ap₂ (λ a c. a ++ c) (one ∙ ap (all_of now_format) first) (sym end.0)
      ∙ sym (ap (λ a. a ++ (all_of now_format (slice_of from to t.text) ++ all_of t.format (rest_of to t.text))) (at_start start)))

  pub formatted_by_ends : key ≡ cond (nat_lt 0 from) w.next_key k → IsFormattedIn bit k from to t w v
  formatted_by_ends key_is =
      let n : ℕ = characters_at w.forest k in
      let long : n ≡ text_length t.text = characters_said w k is.sound ∙ ap (λ o. text_length (text_of o)) (text_at w.forest k t here).fields_are in
      let one : (nat_lt 0 from && nat_lt from n) ≡ nat_lt 0 from =
      grind (arith, nat_tests, is.some, long, offset_within to t.text place_to) in
      let two : (nat_lt 0 to && nat_lt to n) ≡ nat_lt to n = grind (arith, nat_tests, is.some) in
      let cut : split_step k (cuts from to (nat_lt 0 from) (nat_lt to n)) w ≡ Ok u =
      sym (ap₂ (λ a b. split_step k (cuts from to a b) w) one two) ∙ s.split in
      by_ends (nat_lt 0 from) (nat_lt to n) refl refl cut key_is (λ reached. omega (arith, long, reached)) where
        by_ends : (a b : Bool) → nat_lt 0 from ≡ a → nat_lt to (characters_at w.forest k) ≡ b → split_step k (cuts from to a b) w ≡ Ok u
            → key ≡ cond a w.next_key k → (characters_at w.forest k ≤ to → text_length t.text ≤ to) → IsFormattedIn bit k from to t w v
        by_ends true true ea eb e key_is most = in_three e key_is
        by_ends true false ea eb e key_is most = in_back e key_is (most (grind (arith, nat_tests, eb)))
        by_ends false true ea eb e key_is most = in_front e key_is (grind (arith, nat_tests, ea))
        by_ends false false ea eb e key_is most = in_one e key_is (grind (arith, nat_tests, ea)) (most (grind (arith, nat_tests, eb)))

pub formatted_in : (bit k from to format : ℕ) (t : TextFields) (w v : Working) → IsSelectedIn k from to format t w → format_text_step bit w ≡ Ok v
    → IsFormattedIn bit k from to t w v
formatted_in bit k from to format t w v is e =
    let m = met bit k from to format t w v is e in
    let here : text_in (label_of w.forest k) ≡ Some t = text_of_normal w.forest k t is.normal in
    let one : formatted bit (piece k from to ∷ []) format w ≡ Ok v =
    sym (ap (λ ps. formatted bit ps format w) (pieces_one w.forest k from to is.some)) ∙ m.done in
    let s = switched_one bit k from to format t w v is.normal one in
    formatted_by_ends bit k from to format t w s.0 v is (place_lies w.forest k from t here m.first).0 (place_lies w.forest k to t here m.second).0
    (cond (nat_lt 0 from) w.next_key k) s.1 refl
