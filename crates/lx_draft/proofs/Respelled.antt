-- A piece of a text that is replaced where it is.
use Rattle.std.proofs.Common.{◌≡◌, ◌∙◌, ◌≤◌, ℕ, List, length, ◌++◌, Option, None, Some, Result, Ok, Err, option_map, refl, sym, ap, subst, inl, inr, ◌⊎◌, arith}
use Rattle.std.specs.Prelude.{not, OnOk, OnErr}
use Rattle.std.proofs.lemmas.List.{append_cancel_left, append_cancel_right}
use Rattle.std.proofs.lemmas.Bool.Decides.{Decides-like, same_from_decides}
use Rattle.lx_node.specs.Cuts.{Cuts}
use Rattle.lx_trees.specs.Trees.{nil}
use Rattle.lx_node.specs.Same.{same_text, same_fields}
use Rattle.lx_node.specs.declared.kind.Kind.{Kind}
use Rattle.lx_node.specs.declared.kind.Kind.TheVariants as kind
use Rattle.lx_node.specs.declared.fields.TextFields.{TextFields}
use Rattle.lx_node.specs.declared.fields.Fields.{Fields}
use Rattle.lx_node.specs.declared.fields.Fields.TheVariants as fields
use Rattle.lx_node.proofs.Same.{same_text-Decides, same_fields-Decides}
use Rattle.lx_text.specs.Texts.{front_of, rest_of, slice_of, spliced_text, text_length}
use Rattle.lx_text.proofs.Places.{length-append}
use Rattle.lx_forest.specs.Forest.{Forest, Label}
use Rattle.lx_forest.specs.Lookups.{label_of, fields_of}
use Rattle.lx_forest.specs.Edits.{with_fields}
use Rattle.lx_links.specs.Splices.{MaySplice}
use Rattle.lx_draft.specs.declared.texts.Piece.{Piece}
use Rattle.lx_draft.specs.Working.{Working, TextsAreShort}
use Rattle.lx_draft.specs.Faults.{text_fields, text_in}
use Rattle.lx_draft.specs.Respelling.{IsPlaced, IsShortBefore}
use Rattle.lx_draft.proofs.Short.{IsShort, length-few}
use Rattle.lx_draft.specs.Steps.{wrote, differ, with_piece, label_with_piece}

-- a label with a text's fields is a text's
parts_of_text : (k : Kind) (x : Fields) (t : TextFields) → text_fields k x ≡ Some t → (Some k ≡ Some kind.Text) × (Some x ≡ Some (fields.Text t))
parts_of_text kind.Text (fields.Text u) t e = (refl, cc)
parts_of_text k x t e = (cc, cc)

text_told : (o : Option Label) (t : TextFields) → text_in o ≡ Some t
    → (option_map (λ l. l.kind) o ≡ Some kind.Text) × (option_map (λ l. l.fields) o ≡ Some (fields.Text t))
text_told None t e = (cc, cc)
text_told (Some l) t e = parts_of_text l.kind l.fields t e

pub may_splice : (k : ℕ) (piece : Piece) (f : Forest) → IsPlaced k piece f → MaySplice k piece.front piece.bytes f
may_splice k piece f h =
    let told = text_told (label_of f k) h.text h.text_is in
    record { text = h.text; kind_is = told.0; fields_is = told.1; cut = record { before = _; within = _; behind = _; cuts = h.cut } }

-- whichever way the text was read
pub placed_cut : (k : ℕ) (piece : Piece) (f : Forest) (t : TextFields) → IsPlaced k piece f → text_in (label_of f k) ≡ Some t
    → Cuts piece.front piece.bytes (front_of piece.from t.text) (slice_of piece.from piece.to t.text) (rest_of piece.to t.text) t.text
placed_cut k piece f t h e =
    let same : h.text ≡ t = some_same (sym h.text_is ∙ e) in
    subst (λ (u : TextFields). Cuts piece.front piece.bytes (front_of piece.from u.text) (slice_of piece.from piece.to u.text) (rest_of piece.to u.text) u.text)
    same h.cut where
      some_same : {a b : TextFields} → Some a ≡ Some b → a ≡ b
      some_same e = cc

-- what a splice of links makes of a forest
abbrev pub IsSpliced : ℕ → Piece → List ℕ → Forest → Forest → Type 0
IsSpliced k piece new f g =
    (text : TextFields) (before within behind : List ℕ) → fields_of f k ≡ Some (fields.Text text) → Cuts piece.front piece.bytes before within behind text.text
    → g ≡ with_fields k (fields.Text (record text { text = before ++ new ++ behind })) f

replaced : (k : ℕ) (piece : Piece) (new : List ℕ) (f g : Forest) → IsPlaced k piece f → IsSpliced k piece new f g
    → g ≡ with_fields k (label_with_piece (label_of f k) piece.from piece.to new) f
unfolding spliced_text
replaced k piece new f g h made =
    made h.text (front_of piece.from h.text.text) (slice_of piece.from piece.to h.text.text) (rest_of piece.to h.text.text)
    ((text_told (label_of f k) h.text h.text_is).1) h.cut
    ∙ ap (λ x. with_fields k x f) (sym (ap (λ o. with_piece o piece.from piece.to new) h.text_is))

pub replaced_ok : {T E : Type 0} (r : Result T E) (k : ℕ) (piece : Piece) (new : List ℕ) (w : Working) (g : Forest) → IsPlaced k piece w.forest
    → OnOk r (IsSpliced k piece new w.forest g)
    → OnOk r
    (◌≡◌ {A = Working} (record w { forest = g })
    (record w { forest = with_fields k (label_with_piece (label_of w.forest k) piece.from piece.to new) w.forest }))
replaced_ok (Ok x) k piece new w g h made = ap (λ f. record w { forest = f }) (replaced k piece new w.forest g h made)
replaced_ok (Err e) k piece new w g h made = tt

pub replaced_or : {T E : Type 0} (r : Result T E) (k : ℕ) (piece : Piece) (new : List ℕ) (f g : Forest) → IsPlaced k piece f
    → OnOk r (IsSpliced k piece new f g) → OnErr r (g ≡ nil)
    → (g ≡ with_fields k (label_with_piece (label_of f k) piece.from piece.to new) f) ⊎ (g ≡ nil)
replaced_or (Ok x) k piece new f g h made failed = inl (replaced k piece new f g h made)
replaced_or (Err e) k piece new f g h made failed = inr failed

-- once a new piece is counted
pub short_before : (more : ℕ) (new : List ℕ) (w v : Working) → v ≡ wrote more w → length new ≤ more → TextsAreShort w → IsShortBefore new v
short_before more new w v is few short =
    subst (IsShortBefore new) (sym is) (record { written = w.written; counted = omega (arith, few); short = short })

-- the text that is left is short, as the new piece is counted
pub respelled_short : (k : ℕ) (piece : Piece) (new : List ℕ) (w : Working) → IsPlaced k piece w.forest → IsShortBefore new w
    → IsShort w.written (Some (label_with_piece (label_of w.forest k) piece.from piece.to new))
unfolding spliced_text
respelled_short k piece new w h b =
    let front = front_of piece.from h.text.text in
    let within = slice_of piece.from piece.to h.text.text in
    let rest = rest_of piece.to h.text.text in
    let own = subst (IsShort b.written) ((text_told (label_of w.forest k) h.text h.text_is).1) (b.short.each k) in
    subst (λ x. IsShort w.written (Some x)) (sym (ap (λ o. with_piece o piece.from piece.to new) h.text_is))
    (omega (
      arith,
      own,
      ap text_length h.cut.whole,
      length-append (front ++ within) rest,
      length-append front within,
      length-append (front ++ new) rest,
      length-append front new,
      length-few new,
      b.counted,
    ))

-- ---- whether the text changes

texts_same : (t u : TextFields) → fields.Text t ≡ fields.Text u → t ≡ u
texts_same t u e = cc

same_piece : (t : TextFields) (before within behind new : List ℕ) → t.text ≡ before ++ within ++ behind
    → same_fields (fields.Text t) (fields.Text (record t { text = before ++ new ++ behind })) ≡ same_text within new
same_piece t before within behind new whole =
    let u : TextFields = record t { text = before ++ new ++ behind } in
    same_from_decides _ _
    (Decides-like _
    (λ same. append_cancel_left before within new
    (append_cancel_right (before ++ within) (before ++ new) behind (sym whole ∙ ap (λ (x : TextFields). x.text) (texts_same t u same))))
    (λ same. ap (λ cs. fields.Text (record t { text = cs })) (whole ∙ ap (λ cs. before ++ cs ++ behind) same))
    (same_fields-Decides (fields.Text t) (fields.Text u)))
    (same_text-Decides within new)

pub differ_by_piece : (k : ℕ) (piece : Piece) (new : List ℕ) (f : Forest) (t : TextFields) → IsPlaced k piece f → text_in (label_of f k) ≡ Some t
    → differ (fields_of f k) (label_with_piece (label_of f k) piece.from piece.to new) ≡ not (same_text (slice_of piece.from piece.to t.text) new)
unfolding spliced_text
differ_by_piece k piece new f t h e =
    ap (λ o. differ o (label_with_piece (label_of f k) piece.from piece.to new)) ((text_told (label_of f k) t e).1)
    ∙ ap (λ o. not (same_fields (fields.Text t) (with_piece o piece.from piece.to new))) e
    ∙ ap not
    (same_piece t (front_of piece.from t.text) (slice_of piece.from piece.to t.text) (rest_of piece.to t.text) new ((placed_cut k piece f t h e).whole))
