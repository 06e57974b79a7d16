-- What a split leaves, law by law.
use Rattle.std.proofs.Common.{◌≡◌, ◌≢◌, ◌∙◌, ℕ, ◌≤◌, eqb, not, ◌||◌, Bool, true, List, [], ◌∷◌, length, map, Option, None, Some, Ok, refl, sym, ap, subst, arith, append-nil, inl, inr}
use Rattle.std.specs.Prelude.{is_some}
use Rattle.std.proofs.lemmas.Bool.{or_parts}
use Rattle.std.proofs.lemmas.Bool.Decides.{eqb_tells, nat_tests}
use Rattle.lx_node.specs.Kinds.{is_text, may_hold}
use Rattle.lx_node.specs.Limits.{last_u32}
use Rattle.lx_trees.specs.Siblings.{is_among}
use Rattle.lx_node.specs.declared.kind.Kind.{Kind}
use Rattle.lx_node.specs.declared.kind.Kind.TheVariants as kinds
use Rattle.lx_node.specs.declared.fields.TextFields.{TextFields}
use Rattle.lx_trees.proofs.Siblings.{is_named_tells}
use Rattle.lx_text.specs.Texts.{text_length, front_of, rest_of, slice_of}
use Rattle.lx_text.proofs.Told.{offset_start, told-none}
use Rattle.lx_forest.specs.Forest.{Label}
use Rattle.lx_forest.specs.Lookups.{has, spot, label_of, kind_of, parent_of, children_of, IsForest, IsHeld}
use Rattle.lx_forest.proofs.Lookups.{NoRepeats-children_of, has-child}
use Rattle.lx_draft.specs.Working.{Working}
use Rattle.lx_draft.specs.Covering.{IsReady}
use Rattle.lx_draft.specs.Selecting.{unlike, length_told}
use Rattle.lx_draft.specs.Faults.{text_in}
use Rattle.lx_draft.specs.Steps.{text_replaced}
use Rattle.lx_draft.proofs.Gaps.{parent_here}
use Rattle.lx_draft.proofs.Touched.{is_some-kind_of}
use Rattle.lx_edit.specs.Conditions.{length_at, bad_offset, split_fault}
use Rattle.lx_edit.specs.Texts.{text_or_none, cut_at, split_step, keys_from}
use Rattle.lx_edit_laws.specs.Reading.{text_at, texts_of, read_below, in_place_of, place_among, PlacesAreKept}
use Rattle.lx_edit_laws.specs.Splits.{cut_from, IsSplit, SplitsAreTold}
use Rattle.lx_edit_laws.proofs.Reading.{reads_of, read-leaf, reads-leaves, reads_by, reads_known, reads-in_place, childless_text}
use Rattle.lx_edit_laws.proofs.SplitPieces.{AllStay, stay_self, IsParted}
use Rattle.lx_edit_laws.proofs.WrapSteps.{was_allowed, was_same}
use Rattle.lx_edit_laws.proofs.SplitPoints.{PointsGo, none_go, parted}
use Rattle.lx_edit_laws.proofs.SplitTexts.{whole-is}
use Rattle.lx_edit_laws.proofs.WrapTrees.{same_spot_by}

-- ---- what isn't refused

-- no offset is within what has no characters
pub no_offset : (o : ℕ) (rest : List ℕ) → bad_offset 0 [] (o ∷ rest) ≢ None
no_offset o rest none = absurd (grind (arith, none, nat_tests, told-none))

-- what has to be a text is one
pub kind_by : (o : Option Kind) → is_some o ≡ true → unlike is_text o ≡ None → o ≡ Some kinds.Text
unfolding is_text
kind_by (Some kinds.Text) known e = refl
kind_by o known e = absurd (cc)

pub record IsCutUp (k : ℕ) (list : List ℕ) (w v : Working) : Type 0 where
  pub kind_is : kind_of w.forest k ≡ Some kinds.Text
  pub allowed : bad_offset 0 (text_at w.forest k) list ≡ None
  pub cut : cut_at k 0 list w ≡ Ok v

pub cut_up : (k : ℕ) (list : List ℕ) (w v : Working) → split_step k list w ≡ Ok v → IsCutUp k list w v
unfolding split_step
cut_up k list w v e =
    let a = was_allowed (split_fault k list w.forest) w v (cut_at k 0 list) e in
    record {
      kind_is = kind_by (kind_of w.forest k) (is_some-kind_of w.forest k ∙ grind (arith, a.0)) (grind (arith, a.0));
      allowed = grind (arith, a.0);
      cut = a.1;
    }

-- ---- what is left

pub record IsLeft (k : ℕ) (list new : List ℕ) (w v : Working) : Type 0 where
  pub stay : AllStay k new w v
  pub kind_is : kind_of w.forest k ≡ Some kinds.Text
  pub pieces : map (text_at v.forest) (k ∷ new) ≡ cut_from 0 list (text_at w.forest k)
  pub whole : texts_of v.forest (k ∷ new) ≡ text_at w.forest k
  pub alike : (q : ℕ) (text : TextFields) → is_among q (k ∷ new) ≡ true → text_in (label_of w.forest k) ≡ Some text →
      label_of v.forest q ≡ Some (record { key = q; kind = kinds.Text; fields = text_replaced text (text_at v.forest q) })
  pub points : PointsGo k new w v

left_by_cuts : (k : ℕ) (list : List ℕ) (t : TextFields) (w v : Working) → kind_of w.forest k ≡ Some kinds.Text → text_in (label_of w.forest k) ≡ Some t
    → text_length t.text ≤ last_u32
    → IsParted k 0 list (keys_from w.next_key (length list)) t.text t w v → PointsGo k (keys_from w.next_key (length list)) w v
    → IsLeft k list (keys_from w.next_key (length list)) w v
left_by_cuts k list t w v kind here few r go =
    let own : t.text ≡ text_at w.forest k = sym (ap text_or_none here) in
    record {
      stay = r.stay;
      kind_is = kind;
      pieces = r.pieces ∙ ap (cut_from 0 list) own;
      whole = r.whole ∙ whole-is t.text few ∙ own;
      alike = λ q text among is.
          let same : t ≡ text = let f : Some t ≡ Some text = sym here ∙ is in cc in
          r.alike q among ∙ ap (λ u. let m : Label = record { key = q; kind = kinds.Text; fields = text_replaced u (text_at v.forest q) } in Some m) same;
      points = go;
    }

-- a node of the kind of texts that doesn't have the fields of one has no characters
nothing_cut : slice_of 0 (length_told []) [] ≡ []
unfolding slice_of front_of rest_of
nothing_cut = refl

left_same : (k : ℕ) (w : Working) → IsReady w → kind_of w.forest k ≡ Some kinds.Text → text_in (label_of w.forest k) ≡ None → IsLeft k [] [] w w
left_same k w ready kind none =
    let own : text_at w.forest k ≡ [] = ap text_or_none none in
    record {
      stay = stay_self k w ready;
      kind_is = kind;
      pieces = ap (λ s. s ∷ []) (own ∙ sym nothing_cut ∙ ap (λ s. slice_of 0 (length_told s) s) (sym own));
      whole = append-nil (text_at w.forest k);
      alike = λ q text among is. let bad : None ≡ Some text = sym none ∙ is in absurd (cc);
      points = none_go k w;
    }

left_by : (k : ℕ) (list : List ℕ) (w v : Working) → IsReady w → text_length (text_at w.forest k) ≤ last_u32 → IsCutUp k list w v
    → IsLeft k list (keys_from w.next_key (length list)) w v
left_by k list w v ready few c = by_text (text_in (label_of w.forest k)) refl list c.allowed c.cut where
  by_text : (o : Option TextFields) → text_in (label_of w.forest k) ≡ o → (list : List ℕ) → bad_offset 0 (text_at w.forest k) list ≡ None
      → cut_at k 0 list w ≡ Ok v → IsLeft k list (keys_from w.next_key (length list)) w v
  by_text (Some t) here list allowed cut =
      let short : text_length t.text ≤ last_u32 = subst (λ s. text_length (text_or_none s) ≤ last_u32) here few in
      let good : bad_offset 0 t.text list ≡ None = ap (λ s. bad_offset 0 s list) (sym (ap text_or_none here)) ∙ allowed in
      let whole : t.text ≡ slice_of 0 (length_told t.text) t.text = sym (whole-is t.text short) in
      let both = parted k 0 list t.text t w v ready here whole (offset_start t.text) short good cut in
      left_by_cuts k list t w v c.kind_is here short both.0 both.1
  by_text None here [] allowed cut = subst (IsLeft k [] [] w) (was_same w v cut) (left_same k w ready c.kind_is here)
  by_text None here (o ∷ rest) allowed cut = absurd (no_offset o rest (ap (λ s. bad_offset 0 s (o ∷ rest)) (sym (ap text_or_none here)) ∙ allowed))

pub left : (k : ℕ) (list pieces : List ℕ) (w v : Working) → IsSplit k list pieces w v → IsLeft k list (keys_from w.next_key (length list)) w v
left k list pieces w v s = left_by k list w v s.ready s.fits (cut_up k list w v s.split)

-- ---- points

places : (k : ℕ) (new : List ℕ) (w v : Working) → PointsGo k new w v → PlacesAreKept (k ∷ []) (k ∷ new) w v
places k new w v go = (
  go.moved,
  record {
    selection = go.selection;
    on_them = λ p among within.
        let own : p.key ≡ k = grind (arith, among, eqb_tells k p.key) in
        let there = go.on_it p own (subst (λ q. p.offset ≤ length_at w.forest q) own within) in
        let before : place_among w.forest (k ∷ []) p ≡ p.offset = grind (arith, own, eqb_tells p.key k) in
        (there.0, there.1 ∙ sym before);
    others = λ p kind so among. go.still p so (λ own. absurd (grind (arith, own, among, eqb_tells k p.key))) (inl kind);
  },
)

-- ---- what is read

module _ (k : ℕ) (list new : List ℕ) (w v : Working) (h : IsForest w.forest) (held : IsHeld may_hold w.forest) (a : IsLeft k list new w v) where
  leaf : children_of w.forest k ≡ []
  leaf = childless_text w.forest k h held a.kind_is

  pieces_read : reads_of v.forest (k ∷ new) ≡ read_below w.forest k
  pieces_read = reads-leaves v.forest (k ∷ new) a.stay.ready.in_order (a.stay.bare leaf) ∙ a.whole ∙ sym (read-leaf w.forest k h leaf)

  -- nothing is said of the text, and of what isn't there
  abbrev skip : ℕ → Bool
  skip q = eqb q k || not (has q w.forest)

  same_read : (b : ℕ) → b ≢ k → has b w.forest ≡ true → read_below v.forest b ≡ read_below w.forest b
  same_read b other so = reads_by w.forest v.forest skip h a.stay.ready.in_order (λ b clear known.
      let c = or_parts (eqb b k) (not (has b w.forest)) clear in
      let so : has b w.forest ≡ true = grind (arith, c.1) in
      record {
        text = ap (λ l. text_or_none (text_in l)) (a.stay.labels b so (λ same. absurd (grind (arith, same, c.0, eqb_tells b k))));
        below = elim (is_named_tells (parent_of w.forest k) b) [
          | inl above ↦
              ap (reads_of v.forest) (a.stay.order b above.1)
              ∙ reads-in_place w.forest v.forest k (k ∷ new) (children_of w.forest b) (NoRepeats-children_of w.forest b h) pieces_read (λ q among apart.
              let up = parent_here w.forest b q h among in
              known.child q up (grind (arith, apart, has-child w.forest q b up, eqb_tells q k)))
          | inr far ↦
              ap (reads_of v.forest) (a.stay.children b so far.1)
              ∙ reads_known w.forest v.forest skip b h known (λ q up. grind (arith, up, far, has-child w.forest q b up, eqb_tells q k))
        ];
      }) b (grind (arith, other, so, eqb_tells b k))

-- ---- the laws

pub told-splits : SplitsAreTold
told-splits = record {
  pieces = λ k list pieces w v s. ap (map (text_at v.forest)) s.pieces_are ∙ (left k list pieces w v s).pieces;
  whole = λ k list pieces w v s. ap (texts_of v.forest) s.pieces_are ∙ (left k list pieces w v s).whole;
  order = λ k list pieces w v p s up. (left k list pieces w v s).stay.order p up ∙ ap (λ ks. in_place_of k ks (children_of w.forest p)) (sym s.pieces_are);
  alike = λ k list pieces w v q text s among here. (left k list pieces w v s).alike q text (ap (is_among q) (sym s.pieces_are) ∙ among) here;
  others = λ k list pieces w v q s so other above.
      let stay = (left k list pieces w v s).stay in
      same_spot_by (spot v.forest q) (spot w.forest q) (stay.labels q so other) (stay.parents q so) (stay.children q so above);
  points =
      λ k list pieces w v s. subst (λ ks. PlacesAreKept (k ∷ []) ks w v) (sym s.pieces_are)
      (places k (keys_from w.next_key (length list)) w v (left k list pieces w v s).points);
  read = λ k list pieces w v b s held so other. same_read k list (keys_from w.next_key (length list)) w v s.ready.in_order held (left k list pieces w v s) b
      other so;
}
