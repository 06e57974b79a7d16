-- What all the cuts of a split leave: its pieces, their order, and the nodes that stay.
use Rattle.std.proofs.Common.{◌≡◌, ◌≢◌, ◌∙◌, ℕ, ◌-◌, ◌≤◌, true, false, List, [], ◌∷◌, ◌++◌, map, None, Some, refl, sym, ap, ap₂, subst, arith, append-nil, inl, inr}
use Rattle.std.proofs.lemmas.Bool.Decides.{eqb_tells}
use Rattle.lx_trees.specs.Siblings.{is_named, is_among}
use Rattle.lx_node.specs.declared.kind.Kind.TheVariants as kinds
use Rattle.lx_node.specs.declared.fields.TextFields.{TextFields}
use Rattle.lx_node.specs.Limits.{last_u32}
use Rattle.lx_text.specs.Texts.{is_offset, slice_of, text_length}
use Rattle.lx_forest.specs.Forest.{Forest, Label}
use Rattle.lx_forest.specs.Lookups.{has, label_of, parent_of, children_of}
use Rattle.lx_forest.proofs.Lookups.{is_among-children_of}
use Rattle.lx_forest.proofs.Walks.{no_parent}
use Rattle.lx_draft.specs.Working.{Working}
use Rattle.lx_draft.specs.Covering.{IsReady}
use Rattle.lx_draft.specs.Selecting.{length_told}
use Rattle.lx_draft.specs.Faults.{text_in}
use Rattle.lx_draft.specs.Steps.{text_replaced}
use Rattle.lx_edit.specs.Conditions.{bad_offset}
use Rattle.lx_edit.specs.Texts.{text_or_none}
use Rattle.lx_edit_laws.specs.Reading.{text_at, texts_of, in_place_of}
use Rattle.lx_edit_laws.specs.Splits.{cut_from}
use Rattle.lx_edit_laws.proofs.Reading.{absent}
use Rattle.lx_edit_laws.proofs.ReadingPlaces.{in_place_of-self, in_place_of-twice}
use Rattle.lx_edit_laws.proofs.SplitCuts.{text_label, label_is, IsCut, new_free, stays_there, not_new, text_there, parent_there, not_above, above_old, far_from, far_from_new}
use Rattle.lx_edit_laws.proofs.SplitTexts.{IsCutAt, piece-front, piece-parts, offsets}

-- What a text and new ones leave that are its pieces: they are in its place, and have no children if it had none. All other
-- nodes stay as they were.
pub record AllStay (k : ℕ) (new : List ℕ) (w v : Working) : Type 0 where
  pub ready : IsReady v
  pub order : (p : ℕ) → parent_of w.forest k ≡ Some p → children_of v.forest p ≡ in_place_of k (k ∷ new) (children_of w.forest p)
  pub labels : (q : ℕ) → has q w.forest ≡ true → q ≢ k → label_of v.forest q ≡ label_of w.forest q
  pub parents : (q : ℕ) → has q w.forest ≡ true → parent_of v.forest q ≡ parent_of w.forest q
  pub children : (q : ℕ) → has q w.forest ≡ true → parent_of w.forest k ≢ Some q → children_of v.forest q ≡ children_of w.forest q
  pub bare : children_of w.forest k ≡ [] → (q : ℕ) → is_among q (k ∷ new) ≡ true → children_of v.forest q ≡ []

pub stay_self : (k : ℕ) (w : Working) → IsReady w → AllStay k [] w w
stay_self k w ready = record {
  ready = ready;
  order = λ p up. sym (in_place_of-self k (children_of w.forest p));
  labels = λ q so other. refl;
  parents = λ q so. refl;
  children = λ q so above. refl;
  bare = λ none q among. let same : q ≡ k = grind (arith, among, eqb_tells k q) in ap (children_of w.forest) same ∙ none;
}

-- The text k of the draft w, which has what is after a place of a whole text, was cut at offsets of that, and the new ones
-- are these.
pub record IsParted (k start : ℕ) (offsets new text : List ℕ) (t : TextFields) (w v : Working) : Type 0 where
  pub stay : AllStay k new w v
  pub pieces : map (text_at v.forest) (k ∷ new) ≡ cut_from start offsets text
  pub whole : texts_of v.forest (k ∷ new) ≡ slice_of start (length_told text) text
  pub alike : (q : ℕ) → is_among q (k ∷ new) ≡ true
      → label_of v.forest q ≡ Some (record { key = q; kind = kinds.Text; fields = text_replaced t (text_at v.forest q) })

-- ---- labels of texts

abbrev label_with : ℕ → TextFields → List ℕ → Label
label_with q t text = record { key = q; kind = kinds.Text; fields = text_replaced t text }

text_told : (f : Forest) (q : ℕ) (t : TextFields) (text : List ℕ) → label_of f q ≡ Some (label_with q t text) → text_at f q ≡ text
text_told f q t text e = ap (λ l. text_or_none (text_in l)) e

with_own : (f : Forest) (q : ℕ) (t : TextFields) (text : List ℕ) → label_of f q ≡ Some (label_with q t text)
    → label_of f q ≡ Some (label_with q t (text_at f q))
with_own f q t text e = e ∙ ap (λ s. Some (label_with q t s)) (sym (text_told f q t text e))

-- ---- nothing is cut

pub not_cut : (k start : ℕ) (text : List ℕ) (t : TextFields) (w : Working) → IsReady w → text_in (label_of w.forest k) ≡ Some t
    → t.text ≡ slice_of start (length_told text) text → IsParted k start [] [] text t w w
not_cut k start text t w ready here is =
    let own : text_at w.forest k ≡ slice_of start (length_told text) text = ap text_or_none here ∙ is in
    let label : label_of w.forest k ≡ Some (label_with k t (text_at w.forest k)) = with_own w.forest k t t.text (label_is w.forest k t here) in
    record {
      stay = stay_self k w ready;
      pieces = ap (λ s. s ∷ []) own;
      whole = append-nil (text_at w.forest k) ∙ own;
      alike = λ q among.
          let same : k ≡ q = grind (arith, among, eqb_tells k q) in
          subst (λ x. label_of w.forest x ≡ Some (label_with x t (text_at w.forest x))) same label;
    }

-- ---- one more cut

abbrev pub cut_text : ℕ → TextFields → TextFields
cut_text offset t = record t { text = slice_of offset (length_told t.text) t.text }

module _ (k start o : ℕ) (rest new text : List ℕ) (t : TextFields) (w u v : Working) (ready : IsReady w) (here : text_in (label_of w.forest k) ≡ Some t)
    (is : t.text ≡ slice_of start (length_told text) text)
    (place : IsCutAt start o text) (c : IsCut k (o - start) t w u) (r : IsParted w.next_key o rest new text (cut_text (o - start) t) u v) where
  abbrev n : ℕ
  n = w.next_key

  -- the first piece stays as this cut left it
  pub first_label : label_of v.forest k ≡ Some (label_with k t (slice_of start o text))
  first_label =
      r.stay.labels k (stays_there ready c k (text_there ready c)) c.other
      ∙ c.cuts_to.own (text_label k t) (label_is w.forest k t here)
      ∙ ap (λ s. Some (label_with k t s)) (piece-front start o text t.text place is)

  first_text : text_at v.forest k ≡ slice_of start o text
  first_text = text_told v.forest k t (slice_of start o text) first_label

  first_bare : children_of w.forest k ≡ [] → children_of v.forest k ≡ []
  first_bare none =
      r.stay.children k (stays_there ready c k (text_there ready c)) (far_from_new ready c k (not_above ready c))
      ∙ c.cuts_to.children k (not_above ready c) ∙ none

  ordered : (p : ℕ) → parent_of w.forest k ≡ Some p → children_of v.forest p ≡ in_place_of k (k ∷ n ∷ new) (children_of w.forest p)
  ordered p up =
      let same : c.parent ≡ p = sym (above_old ready c p up) in
      let above : parent_of u.forest n ≡ Some p = c.cuts_to.up ∙ ap (λ x. Some x) same in
      let cut : children_of u.forest p ≡ in_place_of k (k ∷ n ∷ []) (children_of w.forest p) =
      subst (λ x. children_of u.forest x ≡ in_place_of k (k ∷ n ∷ []) (children_of w.forest x)) same c.cuts_to.order in
      let nobodys : is_among n (children_of w.forest p) ≡ false =
      is_among-children_of w.forest n p ready.in_order ∙ ap (λ y. is_named y p) (no_parent w.forest n (new_free ready c)) in
      r.stay.order p above ∙ ap (in_place_of n (n ∷ new)) cut ∙ in_place_of-twice k n (n ∷ new) (children_of w.forest p) c.other nobodys

  all_stay : AllStay k (n ∷ new) w v
  all_stay = record {
    ready = r.stay.ready;
    order = ordered;
    labels = λ q so other. r.stay.labels q (stays_there ready c q so) (not_new ready c q so) ∙ c.cuts_to.labels q other (not_new ready c q so);
    parents = λ q so. r.stay.parents q (stays_there ready c q so) ∙ c.cuts_to.parents q (not_new ready c q so);
    children = λ q so above.
        let far : q ≢ c.parent = far_from ready c q above in
        r.stay.children q (stays_there ready c q so) (far_from_new ready c q far) ∙ c.cuts_to.children q far;
    bare = λ none q among. elim (eqb_tells k q) [
      | inl own ↦ subst (λ x. children_of v.forest x ≡ []) own.1 (first_bare none)
      | inr other ↦
          let alone : children_of u.forest n ≡ [] =
          c.cuts_to.children n (λ same. not_new ready c c.parent (parent_there ready c) (sym same)) ∙ (absent w.forest n (new_free ready c)).children in
          r.stay.bare alone q (grind (arith, among, other))
    ];
  }

  pub one_more : IsParted k start (o ∷ rest) (n ∷ new) text t w v
  one_more = record {
    stay = all_stay;
    pieces = ap₂ (λ s ss. s ∷ ss) first_text r.pieces;
    whole = ap₂ (λ s ss. s ++ ss) first_text r.whole ∙ piece-parts start o text place;
    alike = λ q among. elim (eqb_tells k q) [
      | inl own ↦
          subst (λ x. label_of v.forest x ≡ Some (label_with x t (text_at v.forest x))) own.1 (with_own v.forest k t (slice_of start o text) first_label)
      | inr other ↦ r.alike q (grind (arith, among, other))
    ];
  }

-- ---- offsets

-- a place that offsets are looked for after
pub cut_place : (start o : ℕ) (rest text : List ℕ) → is_offset start text ≡ true → text_length text ≤ last_u32 → bad_offset start text (o ∷ rest) ≡ None
    → IsCutAt start o text
cut_place start o rest text begin few none =
    let a = offsets start o text rest none in
    record { order = omega (arith, a.above); first = begin; second = a.place; few = few }
