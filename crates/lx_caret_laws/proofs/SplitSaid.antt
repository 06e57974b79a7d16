-- A split leaves the same to be read in every node but the text.
use Rattle.lx_caret.proofs.Lies.{text_at}
use Rattle.lx_caret.proofs.Short.{u32-tells, written-allowed}
use Rattle.lx_caret_laws.proofs.ReadLevels.{read-leaf, reads-in_place, reads_by, reads_known}
use Rattle.lx_caret_laws.specs.Reading.{read_in, reads_in, said}
use Rattle.lx_draft.proofs.Covered.{answered}
use Rattle.lx_draft.proofs.Gaps.{parent_here}
use Rattle.lx_draft.specs.Covering.{IsReady}
use Rattle.lx_draft.specs.Faults.{after, over_limits, splice_fault, text_in}
use Rattle.lx_draft.specs.Selecting.{text_of}
use Rattle.lx_draft.specs.Steps.{made, new_step, splice_step, text_replaced}
use Rattle.lx_draft.specs.Beside.{put_behind_step}
use Rattle.lx_draft.specs.Working.{Working, TextsAreShort}
use Rattle.lx_edit.proofs.Climbed.{first_part}
use Rattle.lx_edit.specs.Conditions.{length_at}
use Rattle.lx_edit.specs.Edits.{pointed}
use Rattle.lx_edit.specs.Texts.{cut_at, cut_in_two, keys_from, split_step, tail_made, tail_of, text_or_none}
use Rattle.lx_edit_laws.proofs.Reading.{childless_text}
use Rattle.lx_edit_laws.proofs.SplitLaws.{IsLeft, cut_up, left}
use Rattle.lx_edit_laws.proofs.SplitPieces.{AllStay, stay_self}
use Rattle.lx_edit_laws.proofs.WrapSteps.{was_allowed, was_same}
use Rattle.lx_edit_laws.specs.Reading.{in_place_of, texts_of}
use Rattle.lx_edit_laws.specs.Reading as told
use Rattle.lx_edit_laws.specs.Splits.{IsSplit}
use Rattle.lx_forest.proofs.Lookups.{NoRepeats-children_of, has-child}
use Rattle.lx_forest.specs.Forest.{Forest, Label}
use Rattle.lx_forest.specs.Lookups.{IsForest, IsHeld, children_of, has, label_of, parent_of}
use Rattle.lx_node.specs.Kinds.{may_hold}
use Rattle.lx_node.specs.Limits.{last_u32, most_characters, most_written}
use Rattle.lx_node.specs.Strings.{characters_of}
use Rattle.lx_node.specs.declared.fields.Fields.{Fields}
use Rattle.lx_node.specs.declared.fields.TextFields.{TextFields}
use Rattle.lx_node.specs.declared.kind.Kind.TheVariants as kinds
use Rattle.lx_select.specs.Rules.{split_moves}
use Rattle.lx_text.specs.Texts.{text_length}
use Rattle.lx_trees.proofs.Siblings.{is_named_tells}
use Rattle.lx_trees.specs.Siblings.{is_among}
use Rattle.std.proofs.Common.{Bool, List, Ok, Some, [], ap, ap₂, arith, eqb, inl, inr, length, not, option_map, refl, subst, sym, true, ℕ, ◌*◌, ◌+◌, ◌++◌, ◌-◌, ◌||◌, ◌∙◌, ◌∷◌, ◌≡◌, ◌≢◌, ◌≤◌}
use Rattle.std.proofs.lemmas.Bool.Decides.{eqb_tells}
use Rattle.std.proofs.lemmas.Bool.{or_parts}

-- ---- what was written

-- an edit that makes a tail has room for it
tail_written : (k o : ℕ) (w v : Working) → tail_made k o w ≡ Ok v → w.written ≤ most_written
unfolding tail_made new_step
tail_written k o w v e =
    let x : Fields = tail_of w.forest k o in
    let allowed = was_allowed (splice_fault k o (length_at w.forest k) w.forest) w v
    (λ v. after (new_step kinds.Text (tail_of v.forest k o) v) (λ made. Ok (pointed (split_moves k o v.next_key) made))) e in
    let part = first_part (new_step kinds.Text x w) (λ made. Ok (pointed (split_moves k o w.next_key) made)) v allowed.1 in
    let told = answered (over_limits (characters_of x) w) (made kinds.Text x w) part.0 part.1 in
    omega (arith, written-allowed (characters_of x) w told.0)

cut_written : (k o : ℕ) (rest : List ℕ) (w v : Working) → cut_at k 0 (o ∷ rest) w ≡ Ok v → w.written ≤ most_written
unfolding cut_in_two
cut_written k o rest w v e =
    let first = first_part (cut_in_two k (o - 0) w) (cut_at w.next_key o rest) v e in
    let tail = first_part (tail_made k (o - 0) w) (λ made. after (splice_step k (o - 0) (length_at w.forest k) [] made)
    (put_behind_step w.next_key k)) first.0 first.1 in
    tail_written k (o - 0) w tail.0 tail.1

-- ---- what is read

-- a text says its characters
pub text_said : (f : Forest) (k : ℕ) (t : TextFields) → text_in (label_of f k) ≡ Some t → said f k ≡ told.text_at f k
text_said f k t here = ap text_of (text_at f k t here).fields_are ∙ sym (ap text_or_none here)

pub label_said : (f : Forest) (q : ℕ) (t : TextFields) (now : List ℕ)
    → label_of f q ≡ Some (record { key = q; kind = kinds.Text; fields = text_replaced t now })
    → said f q ≡ told.text_at f q
label_said f q t now e = ap (λ o. text_of (option_map (λ (l : Label). l.fields) o)) e ∙ sym (ap (λ o. text_or_none (text_in o)) e)

module _ (k : ℕ) (list new : List ℕ) (t : TextFields) (w v : Working) (h : IsForest w.forest) (held : IsHeld may_hold w.forest)
    (here : text_in (label_of w.forest k) ≡ Some t) (a : IsLeft k list new w v) where
  leaf : children_of w.forest k ≡ []
  leaf = childless_text w.forest k h held a.kind_is

  piece_read : (q : ℕ) → is_among q (k ∷ new) ≡ true → read_in v.forest q ≡ told.text_at v.forest q
  piece_read q among =
      read-leaf v.forest q a.stay.ready.in_order (a.stay.bare leaf q among)
      ∙ label_said v.forest q t (told.text_at v.forest q) (a.alike q t among here)

  all_read : (ks : List ℕ) → ((q : ℕ) → is_among q ks ≡ true → is_among q (k ∷ new) ≡ true) → reads_in v.forest ks ≡ texts_of v.forest ks
  all_read [] each = refl
  all_read (x ∷ xs) each =
      ap₂ (λ s t. s ++ t) (piece_read x (each x (grind (arith, eqb_tells x x)))) (all_read xs (λ q among. each q (grind (arith, among))))

  pieces_read : reads_in v.forest (k ∷ new) ≡ read_in w.forest k
  pieces_read = all_read (k ∷ new) (λ q among. among) ∙ a.whole ∙ sym (read-leaf w.forest k h leaf ∙ text_said w.forest k t here)

  abbrev skip : ℕ → Bool
  skip q = eqb q k || not (has q w.forest)

  pub same_read : (b : ℕ) → b ≢ k → has b w.forest ≡ true → read_in v.forest b ≡ read_in w.forest b
  same_read b other so = reads_by w.forest v.forest skip h a.stay.ready.in_order (λ b clear known.
      let c = or_parts (eqb b k) (not (has b w.forest)) clear in
      let so : has b w.forest ≡ true = grind (arith, c.1) in
      record {
        own = ap (λ o. text_of (option_map (λ (l : Label). l.fields) o))
            (a.stay.labels b so (λ same. absurd (grind (arith, same, c.0, eqb_tells b k))));
        below = elim (is_named_tells (parent_of w.forest k) b) [
          | inl above ↦
              ap (reads_in v.forest) (a.stay.order b above.1)
              ∙ reads-in_place w.forest v.forest k (k ∷ new) (children_of w.forest b) (NoRepeats-children_of w.forest b h) pieces_read
              (λ q among apart.
              let up = parent_here w.forest b q h among in
              known q up (grind (arith, apart, has-child w.forest q b up, eqb_tells q k)))
          | inr far ↦
              ap (reads_in v.forest) (a.stay.children b so far.1)
              ∙ reads_known w.forest v.forest skip b h known (λ q up. grind (arith, up, far, has-child w.forest q b up, eqb_tells q k))
        ];
      }) b (grind (arith, other, so, eqb_tells b k))

-- a split text leaves the same to be read
pub split_read : (k : ℕ) (list : List ℕ) (t : TextFields) (w v : Working) → IsReady w → IsHeld may_hold w.forest → TextsAreShort w
    → text_in (label_of w.forest k) ≡ Some t → split_step k list w ≡ Ok v → (b : ℕ) → b ≢ k → has b w.forest ≡ true
    → read_in v.forest b ≡ read_in w.forest b
split_read k list t w v ready held short here e = by_list list (cut_up k list w v e).cut e where
  by_list : (list : List ℕ) → cut_at k 0 list w ≡ Ok v → split_step k list w ≡ Ok v → (b : ℕ) → b ≢ k → has b w.forest ≡ true
      → read_in v.forest b ≡ read_in w.forest b
  by_list [] cut e b other so = ap (λ u. read_in u.forest b) (sym (was_same w v cut))
  by_list (o ∷ rest) cut e b other so =
      let written : w.written ≤ most_written = cut_written k o rest w v cut in
      let few : text_length t.text ≤ last_u32 =
      u32-tells (text_length t.text) w.written
      (subst (λ x. text_length (text_of x) ≤ 2 * (most_characters + w.written)) (text_at w.forest k t here).fields_are (short.each k)) written in
      let new : List ℕ = keys_from w.next_key (length (o ∷ rest)) in
      let s : IsSplit k (o ∷ rest) (k ∷ new) w v = record {
        ready = ready;
        split = e;
        pieces_are = refl;
        fits = subst (λ s. text_length s ≤ last_u32) (sym (ap text_or_none here)) few;
      } in
      same_read k (o ∷ rest) new t w v ready.in_order held here (left k (o ∷ rest) (k ∷ new) w v s) b other so

-- and all but the text and its parent stays
pub split_stays : (k : ℕ) (list : List ℕ) (t : TextFields) (w v : Working) → IsReady w → TextsAreShort w → text_in (label_of w.forest k) ≡ Some t
    → split_step k list w ≡ Ok v → (new : List ℕ) × AllStay k new w v
split_stays k list t w v ready short here e = by_list list (cut_up k list w v e).cut e where
  by_list : (list : List ℕ) → cut_at k 0 list w ≡ Ok v → split_step k list w ≡ Ok v → (new : List ℕ) × AllStay k new w v
  by_list [] cut e = ([], subst (AllStay k [] w) (was_same w v cut) (stay_self k w ready))
  by_list (o ∷ rest) cut e =
      let written : w.written ≤ most_written = cut_written k o rest w v cut in
      let few : text_length t.text ≤ last_u32 =
      u32-tells (text_length t.text) w.written
      (subst (λ x. text_length (text_of x) ≤ 2 * (most_characters + w.written)) (text_at w.forest k t here).fields_are (short.each k)) written in
      let new : List ℕ = keys_from w.next_key (length (o ∷ rest)) in
      let s : IsSplit k (o ∷ rest) (k ∷ new) w v = record {
        ready = ready;
        split = e;
        pieces_are = refl;
        fits = subst (λ s. text_length s ≤ last_u32) (sym (ap text_or_none here)) few;
      } in
      (new, (left k (o ∷ rest) (k ∷ new) w v s).stay)
