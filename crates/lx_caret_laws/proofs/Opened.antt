-- A text that holds the caret strictly inside is split there: its pieces, and all else.
use Rattle.lx_blocks.specs.Ranges.{characters_at, lies, normal_at}
use Rattle.lx_caret.proofs.Lies.{both, text_at}
use Rattle.lx_blocks.specs.Blocks.{is_at}
use Rattle.lx_node.specs.Kinds.{is_element}
use Rattle.lx_caret.proofs.Parents.{characters_no_element}
use Rattle.lx_caret.specs.Paragraphs.{cut_open}
use Rattle.lx_edit.specs.Conditions.{bad_offset}
use Rattle.lx_caret.specs.Adding.{is_inside, opened}
use Rattle.lx_caret_laws.proofs.Spliced.{text_few, text_of_normal}
use Rattle.lx_caret_laws.proofs.SplitSaid.{label_said, text_said}
use Rattle.lx_caret_laws.specs.Carets.{IsSound}
use Rattle.lx_caret_laws.specs.Reading.{said, said_by}
use Rattle.lx_draft.specs.Faults.{text_in}
use Rattle.lx_draft.specs.Selecting.{is_counted_in, is_place, length_of, length_told, lies_in, text_of}
use Rattle.lx_draft.specs.Working.{Working}
use Rattle.lx_edit.specs.Edits.{text_point}
use Rattle.lx_edit.specs.Texts.{split_step, text_or_none}
use Rattle.lx_edit_laws.proofs.SplitLaws.{IsLeft, cut_up, left, no_offset}
use Rattle.lx_edit_laws.proofs.SplitPieces.{AllStay, stay_self}
use Rattle.lx_edit_laws.proofs.WrapSteps.{was_same}
use Rattle.lx_edit_laws.specs.Reading as told
use Rattle.lx_edit_laws.specs.Reading.{texts_of}
use Rattle.lx_edit_laws.specs.Splits.{IsSplit}
use Rattle.lx_forest.specs.Forest.{Forest}
use Rattle.lx_forest.specs.Lookups.{fields_of, is_attached, kind_of, label_of}
use Rattle.lx_caret.proofs.Short.{u32-tells}
use Rattle.lx_node.specs.Limits.{last_u32}
use Rattle.lx_node.specs.declared.cause.PointKind.TheVariants as point
use Rattle.lx_node.specs.declared.fields.Fields.TheVariants as fields
use Rattle.lx_node.specs.declared.fields.Fields.{Fields}
use Rattle.lx_node.specs.declared.fields.TextFields.{TextFields}
use Rattle.lx_text.proofs.Places.{offset_is}
use Rattle.lx_text.proofs.Told.{slice-front, told-all, told-none}
use Rattle.lx_text.specs.Texts.{front_of, is_offset, slice_of, text_length}
use Rattle.lx_trees.specs.Siblings.{is_among}
use Rattle.std.proofs.Common.{Bool, List, None, Ok, Option, Some, [], ap, ap₂, append-nil, arith, cond, false, refl, subst, sym, true, ℕ, ◌&&◌, ◌++◌, ◌∙◌, ◌∷◌, ◌≡◌, ◌≢◌, ◌≤◌}
use Rattle.std.proofs.lemmas.Bool.Decides.{eqb_tells, nat_tests}
use Rattle.std.specs.Prelude.{is_some, nat_le}

-- ---- lengths

-- an offset can say how long what a node says is
pub said_few : (w : Working) (k : ℕ) → IsSound w → text_length (said w.forest k) ≤ last_u32
said_few w k sound = u32-tells (text_length (said w.forest k)) w.written (sound.short.each k) sound.written

length_said : (x : Option Fields) → length_of x ≡ length_told (text_of x)
length_said None = sym told-none
length_said (Some (fields.Text t)) = refl
length_said (Some x) = sym told-none

pub characters_said : (w : Working) (k : ℕ) → IsSound w → characters_at w.forest k ≡ text_length (said w.forest k)
characters_said w k sound = length_said (fields_of w.forest k) ∙ told-all (said w.forest k) (said_few w k sound)

-- a point that counts characters is at a place of what its node says
pub place_said : (f : Forest) (k at : ℕ) → lies f (text_point k at) ≡ true → (is_offset at (said f k) ≡ true) × (at ≤ characters_at f k)
place_said f k at e =
    let inner = (both (is_attached f k) (lies_in f (text_point k at)) e).1 in
    let place = (both (is_counted_in point.Text (kind_of f k)) (is_place f (text_point k at) point.Text) inner).1 in
    let parts = both (nat_le at (characters_at f k)) (is_offset at (said f k)) place in
    (parts.1, grind (arith, nat_tests, parts.0))

-- ---- the pieces

-- the text k, or its pieces, of which new ones come after it
pub record IsOpened (k at : ℕ) (rest : List ℕ) (w s : Working) : Type 0 where
  pub stay : AllStay k rest w s
  pub whole : said_by s.forest (k ∷ rest) ≡ said w.forest k
  pub length : at ≢ 0 → text_length (said s.forest k) ≡ at

-- nothing is split
unopened : (k at : ℕ) (w : Working) → IsSound w → lies w.forest (text_point k at) ≡ true → is_inside w.forest (text_point k at) point.Text ≡ false
    → IsOpened k at [] w w
unopened k at w sound place out =
    let here = place_said w.forest k at place in
    record {
      stay = stay_self k w sound.ready;
      whole = append-nil (said w.forest k);
      length = λ some.
          let total = characters_said w k sound in
          grind (arith, nat_tests, out, some, here.1, total);
    }

heads : (a b : List ℕ) (xs ys : List (List ℕ)) → ◌≡◌ {A = List (List ℕ)} (a ∷ xs) (b ∷ ys) → a ≡ b
heads a b xs ys e = cc

said_pieces : (f : Forest) (ks : List ℕ) → ((q : ℕ) → is_among q ks ≡ true → said f q ≡ told.text_at f q) → said_by f ks ≡ texts_of f ks
said_pieces f [] each = refl
said_pieces f (k ∷ ks) each =
    ap₂ (λ s t. s ++ t) (each k (grind (arith, eqb_tells k k))) (said_pieces f ks (λ q among. each q (grind (arith, among))))

-- a normal text is split
split_open : (k at : ℕ) (t : TextFields) (w s : Working) → IsSound w → text_in (label_of w.forest k) ≡ Some t → is_offset at t.text ≡ true
    → split_step k (at ∷ []) w ≡ Ok s → IsOpened k at (w.next_key ∷ []) w s
split_open k at t w s sound here place e =
    let new : List ℕ = w.next_key ∷ [] in
    let few : text_length (told.text_at w.forest k) ≤ last_u32 =
    subst (λ s. text_length s ≤ last_u32) (sym (ap text_or_none here)) (text_few w k t sound here) in
    let is : IsSplit k (at ∷ []) (k ∷ new) w s = record { ready = sound.ready; split = e; pieces_are = refl; fits = few } in
    let a : IsLeft k (at ∷ []) new w s = left k (at ∷ []) (k ∷ new) w s is in
    let said_piece : (q : ℕ) → is_among q (k ∷ new) ≡ true → said s.forest q ≡ told.text_at s.forest q =
    λ q among. label_said s.forest q t (told.text_at s.forest q) (a.alike q t among here) in
    let first : told.text_at s.forest k ≡ slice_of 0 at (told.text_at w.forest k) = heads _ _ _ _ a.pieces in
    record {
      stay = a.stay;
      whole = said_pieces s.forest (k ∷ new) said_piece ∙ a.whole ∙ sym (text_said w.forest k t here);
      length = λ some.
          ap text_length (said_piece k (grind (arith, eqb_tells k k)) ∙ first ∙ slice-front at (told.text_at w.forest k))
          ∙ ap (λ s. text_length (front_of at s)) (ap text_or_none here) ∙ offset_is at t.text place;
    }

-- a caret in a text or tab that is split where it is normal; otherwise the caret isn't strictly inside
pub opened_tells : (k at : ℕ) (w s : Working) → IsSound w → lies w.forest (text_point k at) ≡ true
    → (is_inside w.forest (text_point k at) point.Text ≡ true → is_some (normal_at w.forest k) ≡ true) → opened (text_point k at) w ≡ Ok s
    → (rest : List ℕ) × IsOpened k at rest w s
opened_tells k at w s sound place may e = by_inside (is_inside w.forest (text_point k at) point.Text) refl may e where
  by_inside : (b : Bool) → is_inside w.forest (text_point k at) point.Text ≡ b → (b ≡ true → is_some (normal_at w.forest k) ≡ true)
      → cond (b && is_some (normal_at w.forest k)) (split_step k (at ∷ []) w) (Ok w) ≡ Ok s → (rest : List ℕ) × IsOpened k at rest w s
  by_inside false is may e = ([], subst (IsOpened k at [] w) (was_same w s e) (unopened k at w sound place is))
  by_inside true inside may e = by_text (normal_at w.forest k) refl (may refl) e where
    by_text : (o : Option TextFields) → normal_at w.forest k ≡ o → is_some o ≡ true → cond (is_some o) (split_step k (at ∷ []) w) (Ok w) ≡ Ok s
        → (rest : List ℕ) × IsOpened k at rest w s
    by_text None is some e = absurd (cc)
    by_text (Some t) normal some e =
        let here = text_of_normal w.forest k t normal in
        let spot : is_offset at t.text ≡ true =
        subst (λ x. is_offset at (text_of x) ≡ true) (text_at w.forest k t here).fields_are (place_said w.forest k at place).0 in
        (w.next_key ∷ [], split_open k at t w s sound here spot e)

-- a caret in a text or tab that is split whatever its mode: what is split is a text
pub cut_tells : (k at : ℕ) (w s : Working) → IsSound w → lies w.forest (text_point k at) ≡ true → cut_open (text_point k at) w ≡ Ok s
    → (rest : List ℕ) × IsOpened k at rest w s
cut_tells k at w s sound place e = by_inside (is_inside w.forest (text_point k at) point.Text) refl e where
  by_inside : (b : Bool) → is_inside w.forest (text_point k at) point.Text ≡ b → cond b (split_step k (at ∷ []) w) (Ok w) ≡ Ok s
      → (rest : List ℕ) × IsOpened k at rest w s
  by_inside false is e = ([], subst (IsOpened k at [] w) (was_same w s e) (unopened k at w sound place is))
  by_inside true is e = by_text (text_in (label_of w.forest k)) refl where
    by_text : (o : Option TextFields) → text_in (label_of w.forest k) ≡ o → (rest : List ℕ) × IsOpened k at rest w s
    by_text None none =
        let c = cut_up k (at ∷ []) w s e in
        absurd (no_offset at [] (ap (λ t. bad_offset 0 t (at ∷ [])) (sym (ap text_or_none none)) ∙ c.allowed))
    by_text (Some t) here =
        let spot : is_offset at t.text ≡ true =
        subst (λ x. is_offset at (text_of x) ≡ true) (text_at w.forest k t here).fields_are (place_said w.forest k at place).0 in
        (w.next_key ∷ [], split_open k at t w s sound here spot e)

-- ---- what counts characters

-- such a node has no children
pub no_element_at : (f : Forest) (k at : ℕ) → lies f (text_point k at) ≡ true → is_at is_element f k ≡ false
no_element_at f k at place =
    let inner = (both (is_attached f k) (lies_in f (text_point k at)) place).1 in
    characters_no_element (kind_of f k) (both (is_counted_in point.Text (kind_of f k)) (is_place f (text_point k at) point.Text) inner).0
