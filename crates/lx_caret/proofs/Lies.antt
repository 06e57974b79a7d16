-- Points that lie in the forest do so after an edit.
use Rattle.std.proofs.Common.{◌≡◌, ◌≢◌, ◌∙◌, ℕ, ◌+◌, ◌-◌, ◌<◌, ◌≤◌, Bool, true, false, cond, ltb, leb, eqb, ◌&&◌, not, min, List, [], ◌∷◌, length, Option, None, Some, refl, sym, ap, ap₂, subst, arith}
use Rattle.std.specs.Prelude.{option_map, is_some}
use Rattle.std.proofs.lemmas.Bool.Decides.{eqb_tells, nat_tests}
use Rattle.std.proofs.lemmas.Iterator.Adapters.{option_map_id}
use Rattle.lx_trees.specs.Siblings.{is_among, names_without, names_with}
use Rattle.lx_trees.specs.Spots.{Spot}
use Rattle.lx_node.specs.Kinds.{is_element, is_possible}
use Rattle.lx_node.specs.OfKind.{is_of_kind, fits_kind, is_element_of, are_bare, are_embed_fields}
use Rattle.lx_node.specs.declared.kind.Kind.{Kind}
use Rattle.lx_node.specs.declared.kind.Kind.TheVariants as kinds
use Rattle.lx_node.specs.declared.fields.Fields.{Fields}
use Rattle.lx_node.specs.declared.fields.Fields.TheVariants as fields
use Rattle.lx_node.specs.declared.fields.TextFields.{TextFields}
use Rattle.lx_node.specs.declared.cause.Point.{Point}
use Rattle.lx_node.specs.declared.cause.PointKind.{PointKind}
use Rattle.lx_node.specs.declared.cause.PointKind.TheVariants as point
use Rattle.lx_trees.proofs.Siblings.{length-names_without, names_without-absent_list, length-names_with}
use Rattle.lx_trees.proofs.Positions as positions
use Rattle.lx_node.specs.Limits.{last_u32}
use Rattle.lx_text.specs.Texts.{text_length, within, is_offset, spliced_text, slice_fault}
use Rattle.lx_text.proofs.Told.{offset_start, told-offset, told-small, piece_of}
use Rattle.lx_select.specs.Rules.{is_counting_children, is_behind, take_moves, put_moves, offset_sum, spliced_offset, splice_moves, set_moves}
use Rattle.lx_forest.specs.Forest.{Forest, Label}
use Rattle.lx_forest.specs.Lookups.{has, spot, label_of, kind_of, fields_of, parent_of, children_of, children_below, size_of, siblings, index_of, is_within, is_attached, IsForest}
use Rattle.lx_forest.specs.Edits.{with_new, with_fields, take_out, put_in, CanPut}
use Rattle.lx_forest.proofs.Edits.{is_some-spot}
use Rattle.lx_forest.proofs.Lookups.{is_among-children_of, NoRepeats-children_of, label_of-with_new, children_of-with_new, kind_of-with_fields, fields_of-with_fields, children_of-with_fields, label_of-take_out, children_of-take_out, label_of-put_in, children_of-put_in}
use Rattle.lx_forest.proofs.Within.{is_attached-take_out, is_attached-put_in, is_within-take_out, is_within-self}
use Rattle.lx_draft.specs.Faults.{text_fields, text_in}
use Rattle.lx_draft.specs.Selecting.{lies_in, is_counted_in, is_place, text_of, length_of, length_told}
use Rattle.lx_draft.specs.Steps.{text_replaced}
use Rattle.lx_caret.proofs.Offsets.{IsPlace, spliced_place, within_place}

pub both : (a b : Bool) → (a && b) ≡ true → (a ≡ true) × (b ≡ true)
both true true e = (refl, refl)
both true false e = cc
both false b e = cc

-- an offset may be a whole length, or none of it
pub full : (n : ℕ) → leb n n ≡ true
full n = grind arith

pub least : (n : ℕ) → leb 0 n ≡ true
least n = grind arith

-- whether an offset is one of a place in the text of fields
abbrev pub is_place_in : ℕ → Option Fields → Bool
is_place_in o x = leb o (length_of x) && is_offset o (text_of x)

pub place_in : (o : ℕ) (text : List ℕ) → IsPlace o text → (leb o (length_told text) && is_offset o text) ≡ true
place_in o text p = let within : leb o (length_told text) ≡ true = grind (arith, nat_tests, p.told) in ap₂ ◌&&◌ within p.place

-- the start and the end are
pub start_in : (x : Option Fields) → is_place_in 0 x ≡ true
start_in x = ap₂ ◌&&◌ (least (length_of x)) (offset_start (text_of x))

pub end_offset : (x : Option Fields) → is_offset (length_of x) (text_of x) ≡ true
end_offset (Some (fields.Text text)) = told-offset text.text
end_offset None = offset_start []
end_offset (Some x) = offset_start []

pub end_in : (x : Option Fields) → is_place_in (length_of x) x ≡ true
end_in x = ap₂ ◌&&◌ (full (length_of x)) (end_offset x)

-- a u32 can say each place
pub place_small : (o : ℕ) (x : Option Fields) → leb o (length_of x) ≡ true → o ≤ last_u32
place_small o (Some (fields.Text text)) e = let within : o ≤ length_told text.text = grind (arith, nat_tests, e) in omega (arith, within, told-small text.text)
place_small o None e = grind (arith, nat_tests, e)
place_small o (Some x) e = grind (arith, nat_tests, e)

abbrev pub spot_point : ℕ → ℕ → PointKind → Point
spot_point q o kind = record { key = q; offset = o; kind = kind }

-- whether a label is one that a point of the kind counts in
abbrev fits_label : PointKind → Option Label → Bool
fits_label kind l = is_counted_in kind (option_map (λ x. x.kind) l)

abbrev text_lies : ℕ → Option Label → Bool
text_lies o l = fits_label point.Text l && is_place_in o (option_map (λ x. x.fields) l)

-- a node that looks the same has the same points
pub lies_same : (f g : Forest) (q o : ℕ) (kind : PointKind) → label_of g q ≡ label_of f q → size_of g q ≡ size_of f q
    → lies_in g (spot_point q o kind) ≡ lies_in f (spot_point q o kind)
lies_same f g q o point.Text label size = ap (text_lies o) label
lies_same f g q o point.Element label size = ap₂ (λ l n. fits_label point.Element l && leb o n) label size

-- the node of a point is there
pub there : (f : Forest) (x : Point) → lies_in f x ≡ true → has x.key f ≡ true
there f x e = by_spot (spot f x.key) refl where
  by_spot : (s : Option (Spot Label)) → spot f x.key ≡ s → has x.key f ≡ true
  by_spot None is =
      let bad : false ≡ true = sym (ap (λ s. is_counted_in x.kind (option_map (λ l. l.kind) (option_map (λ s. s.label) s)) && is_place f x x.kind) is) ∙ e in
      absurd (cc)
  by_spot (Some s) is = sym (is_some-spot f x.key) ∙ ap is_some is

-- ---- new

pub lies_new : (l : Label) (f : Forest) (q o : ℕ) (kind : PointKind) → IsForest f → has l.key f ≡ false → lies_in f (spot_point q o kind) ≡ true
    → lies_in (with_new l f) (spot_point q o kind) ≡ true
lies_new l f q o kind h free e =
    let other : eqb q l.key ≡ false = grind (arith, free, there f (spot_point q o kind) e, eqb_tells q l.key) in
    lies_same f (with_new l f) q o kind (label_of-with_new l f q h free ∙ ap (λ b. cond b (Some l) (label_of f q)) other)
    (ap length (children_of-with_new l f q h free)) ∙ e

-- ---- fields

-- a point in an element doesn't go by fields
lies_element : (k : ℕ) (fields : Fields) (f : Forest) (q o : ℕ)
    → lies_in (with_fields k fields f) (spot_point q o point.Element) ≡ lies_in f (spot_point q o point.Element)
lies_element k fields f q o =
    ap₂ (λ kind n. is_counted_in point.Element kind && leb o n) (kind_of-with_fields k fields f q) (ap length (children_of-with_fields k fields f q))

fields_still : (k : ℕ) (fields : Fields) (f : Forest) (q : ℕ) → eqb q k ≡ false → fields_of (with_fields k fields f) q ≡ fields_of f q
fields_still k fields f q other =
    fields_of-with_fields k fields f q ∙ ap (λ b. option_map (λ old. cond b fields old) (fields_of f q)) other ∙ option_map_id (fields_of f q)

pub fields_now : (k : ℕ) (fields old : Fields) (f : Forest) → fields_of f k ≡ Some old → fields_of (with_fields k fields f) k ≡ Some fields
fields_now k fields old f e =
    let own : eqb k k ≡ true = grind (arith, eqb_tells k k) in
    fields_of-with_fields k fields f k ∙ ap₂ (λ b o. option_map (λ x. cond b fields x) o) own e

-- points elsewhere stay
lies_elsewhere : (k : ℕ) (fields : Fields) (f : Forest) (q o : ℕ) (kind : PointKind) → eqb q k ≡ false
    → lies_in (with_fields k fields f) (spot_point q o kind) ≡ lies_in f (spot_point q o kind)
lies_elsewhere k fields f q o point.Text other =
    ap₂ (λ kind x. is_counted_in point.Text kind && is_place_in o x) (kind_of-with_fields k fields f q) (fields_still k fields f q other)
lies_elsewhere k fields f q o point.Element other = lies_element k fields f q o

-- a text at a key
pub record IsText (f : Forest) (k : ℕ) (t : TextFields) : Type 0 where
  pub kind_is : kind_of f k ≡ Some kinds.Text
  pub fields_are : fields_of f k ≡ Some (fields.Text t)

record IsTextOf (kind : Kind) (x : Fields) (t : TextFields) : Type 0 where
  pub kind_is : kind ≡ kinds.Text
  pub fields_are : x ≡ fields.Text t

text_tells : (kind : Kind) (x : Fields) (t : TextFields) → text_fields kind x ≡ Some t → IsTextOf kind x t
text_tells kinds.Text (fields.Text u) t e = let same : u ≡ t = cc in record { kind_is = refl; fields_are = ap (λ s. fields.Text s) same }
text_tells kind x t e = absurd (cc)

pub text_at : (f : Forest) (k : ℕ) (t : TextFields) → text_in (label_of f k) ≡ Some t → IsText f k t
text_at f k t e = by_label (label_of f k) refl e where
  by_label : (l : Option Label) → label_of f k ≡ l → text_in l ≡ Some t → IsText f k t
  by_label None is e = absurd (cc)
  by_label (Some l) is e =
      let tells = text_tells l.kind l.fields t e in
      record {
        kind_is = ap (option_map (λ x. x.kind)) is ∙ ap (λ x. Some x) tells.kind_is;
        fields_are = ap (option_map (λ x. x.fields)) is ∙ ap (λ x. Some x) tells.fields_are;
      }

-- no point counts children in it
pub no_element : (f : Forest) (k : ℕ) (kind : Kind) (o : ℕ) → kind_of f k ≡ Some kind → is_element kind ≡ false
    → lies_in f (spot_point k o point.Element) ≡ true → ⊥
no_element f k kind o is leaf e =
    let first : is_counted_in point.Element (kind_of f k) ≡ true = (both _ _ e).0 in
    let bad : false ≡ true = sym leaf ∙ sym (ap (is_counted_in point.Element) is) ∙ first in
    cc

-- what a point in a text shows of it
pub record IsIn (f : Forest) (k o : ℕ) : Type 0 where
  pub counted : is_counted_in point.Text (kind_of f k) ≡ true
  pub within : leb o (length_of (fields_of f k)) ≡ true
  pub place : is_offset o (text_of (fields_of f k)) ≡ true

pub point_in : (f : Forest) (k o : ℕ) → lies_in f (spot_point k o point.Text) ≡ true → IsIn f k o
point_in f k o e =
    let parts = both (is_counted_in point.Text (kind_of f k)) (is_place_in o (fields_of f k)) e in
    let place = both (leb o (length_of (fields_of f k))) (is_offset o (text_of (fields_of f k))) parts.1 in
    record { counted = parts.0; within = place.0; place = place.1 }

-- a point in a node lies in it where the fields are written, if it is at a place of the new text
lies_now : (f : Forest) (k : ℕ) (t : TextFields) (old : Fields) (q o : ℕ) → q ≡ k → fields_of f k ≡ Some old
    → is_counted_in point.Text (kind_of f k) ≡ true → IsPlace o t.text
    → lies_in (with_fields k (fields.Text t) f) (spot_point q o point.Text) ≡ true
lies_now f k t old q o same is counted place =
    ap (λ n. lies_in (with_fields k (fields.Text t) f) (spot_point n o point.Text)) same
    ∙ ap₂ (λ kind x. is_counted_in point.Text kind && is_place_in o x) (kind_of-with_fields k (fields.Text t) f k) (fields_now k (fields.Text t) old f is)
    ∙ ap₂ ◌&&◌ counted (place_in o t.text place)

-- a point in the forest is in it after a piece of a text was replaced
pub lies_spliced : (f : Forest) (k from to : ℕ) (new : List ℕ) (t : TextFields) (q o : ℕ) (kind : PointKind) → IsText f k t
    → slice_fault t.text from to ≡ None
    → text_length (spliced_text from to new t.text) ≤ last_u32 → lies_in f (spot_point q o kind) ≡ true
    → lies_in (with_fields k (text_replaced t (spliced_text from to new t.text)) f) (splice_moves k from to (length_told new) (spot_point q o kind)) ≡ true
unfolding splice_moves is_element
lies_spliced f k from to new t q o kind is piece few e = by_key (eqb q k) refl kind e where
  g : Forest
  g = with_fields k (text_replaced t (spliced_text from to new t.text)) f

  by_key : (same : Bool) → eqb q k ≡ same → (kind : PointKind) → lies_in f (spot_point q o kind) ≡ true
      → lies_in g (cond same (spot_point q (spliced_offset from to (length_told new) o) kind) (spot_point q o kind)) ≡ true
  by_key false other kind e = lies_elsewhere k (text_replaced t (spliced_text from to new t.text)) f q o kind other ∙ e
  by_key true own point.Element e =
      let same : q ≡ k = grind (arith, own, eqb_tells q k) in
      absurd (no_element f k kinds.Text o is.kind_is refl (ap (λ n. lies_in f (spot_point n o point.Element)) (sym same) ∙ e))
  by_key true own point.Text e =
      let same : q ≡ k = grind (arith, own, eqb_tells q k) in
      let at = point_in f k o (ap (λ n. lies_in f (spot_point n o point.Text)) (sym same) ∙ e) in
      let place : is_offset o t.text ≡ true = ap (λ x. is_offset o (text_of x)) (sym is.fields_are) ∙ at.place in
      lies_now f k (record t { text = spliced_text from to new t.text }) (fields.Text t) q (spliced_offset from to (length_told new) o) same is.fields_are
      at.counted
      (spliced_place from to new t.text (piece_of from to t.text piece) few o place)

-- ---- a text set

-- what has the fields of a text isn't an element
text_kinds : (kind : Kind) (u : TextFields) → is_of_kind kind (fields.Text u) ≡ true → is_element kind ≡ false
unfolding is_of_kind fits_kind is_element_of is_element are_bare are_embed_fields
text_kinds kinds.Text u e = refl
text_kinds kinds.Tab u e = refl
text_kinds kinds.Break u e = refl
text_kinds kinds.Rule u e = refl
text_kinds kinds.Embed u e = refl
text_kinds kind u e = let bad : false ≡ true = (both (is_possible kind) (fits_kind kind (fields.Text u)) e).1 in absurd (cc)

-- a point in the forest is in it after the fields of a text were set
pub lies_set : (f : Forest) (k : ℕ) (now : Kind) (old : Fields) (u : TextFields) (q o : ℕ) (kind : PointKind) → kind_of f k ≡ Some now
    → fields_of f k ≡ Some old → is_of_kind now (fields.Text u) ≡ true → lies_in f (spot_point q o kind) ≡ true
    → lies_in (with_fields k (fields.Text u) f) (set_moves k u.text (spot_point q o kind)) ≡ true
unfolding set_moves
lies_set f k now old u q o kind is fields_is fit e = by_key (eqb q k) refl kind e where
  by_key : (same : Bool) → eqb q k ≡ same → (kind : PointKind) → lies_in f (spot_point q o kind) ≡ true
      → lies_in (with_fields k (fields.Text u) f) (cond same (spot_point q (within u.text o) kind) (spot_point q o kind)) ≡ true
  by_key false other kind e = lies_elsewhere k (fields.Text u) f q o kind other ∙ e
  by_key true own point.Element e =
      let same : q ≡ k = grind (arith, own, eqb_tells q k) in
      absurd (no_element f k now o is (text_kinds now u fit) (ap (λ n. lies_in f (spot_point n o point.Element)) (sym same) ∙ e))
  by_key true own point.Text e =
      let same : q ≡ k = grind (arith, own, eqb_tells q k) in
      let at = point_in f k o (ap (λ n. lies_in f (spot_point n o point.Text)) (sym same) ∙ e) in
      lies_now f k u old q (within u.text o) same fields_is at.counted (within_place o u.text (place_small o (fields_of f k) at.within))

-- ---- taken

fewer : (o i n : ℕ) → i < n → leb o n ≡ true → leb (cond (ltb i o) (o - 1) o) (n - 1) ≡ true
fewer o i n h le = grind (arith, h, le)

-- the size of each node after a child was taken
size_left : (f : Forest) (k p : ℕ) → IsForest f → parent_of f k ≡ Some p → size_of (take_out k f) p ≡ size_of f p - 1
size_left f k p h up =
    let among : is_among k (children_of f p) ≡ true = is_among-children_of f k p h ∙ rw up (grind (arith, eqb_tells p p)) in
    let counted : length (names_without k (children_of f p)) + cond (is_among k (children_of f p)) 1 0 ≡ size_of f p =
    length-names_without k (children_of f p) (NoRepeats-children_of f p h) in
    let less : length (names_without k (children_of f p)) + 1 ≡ size_of f p =
    ap (λ b. length (names_without k (children_of f p)) + cond b 1 0) (sym among) ∙ counted in
    ap length (children_of-take_out k f p h) ∙ omega (arith, less)

size_still : (f : Forest) (k p q : ℕ) → IsForest f → parent_of f k ≡ Some p → eqb q p ≡ false → size_of (take_out k f) q ≡ size_of f q
size_still f k p q h up other =
    let not_among : is_among k (children_of f q) ≡ false = is_among-children_of f k q h ∙ rw up (grind (arith, other, eqb_tells q p, eqb_tells p q)) in
    ap length (children_of-take_out k f q h ∙ names_without-absent_list k (children_of f q) not_among)

pub index_within : (f : Forest) (k p i : ℕ) → parent_of f k ≡ Some p → index_of f k ≡ Some i → i < size_of f p
index_within f k p i up at = subst (λ o. i < length (children_below f o)) up (positions.index_in-lt (siblings f k) k i at)

-- of the node itself
fewer_at : (f : Forest) (k p i o : ℕ) (behind : Bool) → IsForest f → parent_of f k ≡ Some p → index_of f k ≡ Some i → ltb i o ≡ behind
    → lies_in f (spot_point p o point.Element) ≡ true
    → lies_in (take_out k f) (cond behind (spot_point p (o - 1) point.Element) (spot_point p o point.Element)) ≡ true
fewer_at f k p i o true h up at order e =
    let parts = both _ _ e in
    let within : leb (o - 1) (size_of f p - 1) ≡ true =
    ap (λ b. leb (cond b (o - 1) o) (size_of f p - 1)) (sym order) ∙ fewer o i (size_of f p) (index_within f k p i up at) parts.1 in
    ap₂ (λ l n. fits_label point.Element l && leb (o - 1) n) (label_of-take_out k f p h) (size_left f k p h up)
    ∙ ap₂ ◌&&◌ parts.0 within
fewer_at f k p i o false h up at order e =
    let parts = both _ _ e in
    let within : leb o (size_of f p - 1) ≡ true =
    ap (λ b. leb (cond b (o - 1) o) (size_of f p - 1)) (sym order) ∙ fewer o i (size_of f p) (index_within f k p i up at) parts.1 in
    ap₂ (λ l n. fits_label point.Element l && leb o n) (label_of-take_out k f p h) (size_left f k p h up)
    ∙ ap₂ ◌&&◌ parts.0 within

at_element : (f : Forest) (k p i q o : ℕ) (same : Bool) → IsForest f → parent_of f k ≡ Some p → index_of f k ≡ Some i → eqb q p ≡ same
    → lies_in f (spot_point q o point.Element) ≡ true
    → lies_in (take_out k f) (cond (same && ltb i o) (spot_point q (o - 1) point.Element) (spot_point q o point.Element)) ≡ true
at_element f k p i q o true h up at is e =
    let own : q ≡ p = grind (arith, is, eqb_tells q p) in
    subst (λ n. lies_in f (spot_point n o point.Element) ≡ true
    → lies_in (take_out k f) (cond (ltb i o) (spot_point n (o - 1) point.Element) (spot_point n o point.Element)) ≡ true) (sym own)
    (fewer_at f k p i o (ltb i o) h up at refl) e
at_element f k p i q o false h up at is e =
    ap₂ (λ l n. fits_label point.Element l && leb o n) (label_of-take_out k f q h) (size_still f k p q h up is) ∙ e

-- a point in the forest is in it after a node was taken, as the point moves
pub lies_taken : (f : Forest) (k p i q o : ℕ) (kind : PointKind) → IsForest f → parent_of f k ≡ Some p → index_of f k ≡ Some i
    → lies_in f (spot_point q o kind) ≡ true
    → lies_in (take_out k f) (take_moves p i (spot_point q o kind)) ≡ true
unfolding take_moves is_behind is_counting_children
lies_taken f k p i q o point.Text h up at e = ap (text_lies o) (label_of-take_out k f q h) ∙ e
lies_taken f k p i q o point.Element h up at e = at_element f k p i q o (eqb q p) h up at refl e

-- and in the root's tree where it isn't in the tree of that node
pub attached_taken : (f : Forest) (k q : ℕ) → IsForest f → k ≢ 0 → is_within f k q ≡ false → is_attached f q ≡ true → is_attached (take_out k f) q ≡ true
attached_taken f k q h other outside e = is_attached-take_out k f q h other ∙ ap₂ (λ a b. a && not b) e outside

-- ---- put

-- the size of each node after a child was put
pub size_grown : (f : Forest) (k p : ℕ) (before : Option ℕ) → IsForest f → CanPut p k f → size_of (put_in p before k f) p ≡ size_of f p + 1
size_grown f k p before h can =
    let own : eqb p p ≡ true = grind (arith, eqb_tells p p) in
    ap length (children_of-put_in p before k f p h can ∙ ap (λ b. cond b (names_with before (k ∷ []) (children_of f p)) (children_of f p)) own)
    ∙ length-names_with before k (children_of f p)

size_kept : (f : Forest) (k p q : ℕ) (before : Option ℕ) → IsForest f → CanPut p k f → eqb q p ≡ false → size_of (put_in p before k f) q ≡ size_of f q
size_kept f k p q before h can other =
    ap length (children_of-put_in p before k f q h can ∙ ap (λ b. cond b (names_with before (k ∷ []) (children_of f q)) (children_of f q)) other)

one_more_at : (f : Forest) (k p o : ℕ) (before : Option ℕ) (behind : Bool) → IsForest f → CanPut p k f → lies_in f (spot_point p o point.Element) ≡ true
    → lies_in (put_in p before k f) (cond behind (spot_point p (min (o + 1) 4294967295) point.Element) (spot_point p o point.Element)) ≡ true
one_more_at f k p o before true h can e =
    let parts = both _ _ e in
    let within : leb (min (o + 1) 4294967295) (size_of f p + 1) ≡ true = grind (arith, parts.1) in
    ap₂ (λ l n. fits_label point.Element l && leb (min (o + 1) 4294967295) n) (label_of-put_in p before k f p h can) (size_grown f k p before h can)
    ∙ ap₂ ◌&&◌ parts.0 within
one_more_at f k p o before false h can e =
    let parts = both _ _ e in
    let within : leb o (size_of f p + 1) ≡ true = grind (arith, parts.1) in
    ap₂ (λ l n. fits_label point.Element l && leb o n) (label_of-put_in p before k f p h can) (size_grown f k p before h can) ∙ ap₂ ◌&&◌ parts.0 within

put_element : (f : Forest) (k p i q o : ℕ) (before : Option ℕ) (same : Bool) → IsForest f → CanPut p k f → eqb q p ≡ same
    → lies_in f (spot_point q o point.Element) ≡ true
    → lies_in (put_in p before k f) (cond (same && ltb i o) (spot_point q (min (o + 1) 4294967295) point.Element) (spot_point q o point.Element)) ≡ true
put_element f k p i q o before true h can is e =
    let own : q ≡ p = grind (arith, is, eqb_tells q p) in
    subst (λ n. lies_in f (spot_point n o point.Element) ≡ true
    → lies_in (put_in p before k f) (cond (ltb i o) (spot_point n (min (o + 1) 4294967295) point.Element) (spot_point n o point.Element)) ≡ true) (sym own)
    (one_more_at f k p o before (ltb i o) h can) e
put_element f k p i q o before false h can is e =
    ap₂ (λ l n. fits_label point.Element l && leb o n) (label_of-put_in p before k f q h can) (size_kept f k p q before h can is) ∙ e

pub lies_put : (f : Forest) (k p i q o : ℕ) (kind : PointKind) (before : Option ℕ) → IsForest f → CanPut p k f → lies_in f (spot_point q o kind) ≡ true
    → lies_in (put_in p before k f) (put_moves p i (spot_point q o kind)) ≡ true
unfolding put_moves is_behind is_counting_children offset_sum
lies_put f k p i q o point.Text before h can e = ap (text_lies o) (label_of-put_in p before k f q h can) ∙ e
lies_put f k p i q o point.Element before h can e = put_element f k p i q o before (eqb q p) h can refl e

-- what is moved to a place in the root's tree leaves nothing out of it
pub attached_moved : (f : Forest) (k p q : ℕ) (before : Option ℕ) → IsForest f → IsForest (take_out k f) → k ≢ 0 → has k f ≡ true → CanPut p k (take_out k f)
    → is_attached f p ≡ true → is_attached f q ≡ true
    → is_attached (put_in p before k (take_out k f)) q ≡ true
attached_moved f k p q before h taken other there can place e =
    is_attached-put_in p before k (take_out k f) q taken can
    ∙ grind (arith, is_attached-take_out k f q h other, is_attached-take_out k f p h other, is_within-take_out k f k q h, is_within-take_out k f k p h, is_within-self f k, there, can.outside, place, e)
