-- Removing what is selected from one text to another of the same parent.
use Rattle.lx_blocks.specs.Blocks.{block_of, is_at}
use Rattle.lx_blocks.specs.Places.{comes_first, covered, is_less, outermost}
use Rattle.lx_blocks.specs.Ranges.{caret_at, characters_at, end_of, if_normal, is_collapsed, lies, normal_at, start_of}
use Rattle.lx_blocks.specs.declared.ranges.Ranged.{Ranged}
use Rattle.lx_caret.proofs.Cleared.{remove_text_fits}
use Rattle.lx_caret.proofs.Fit.{Fit, after_tells}
use Rattle.lx_caret.proofs.Lies.{both, text_at}
use Rattle.lx_caret.specs.Deleting.{Reach, delete_step}
use Rattle.lx_caret.specs.Removing.{cut_step, end_cut, merge_step, remove_between, remove_text_step, removed_below, removed_in, start_cut}
use Rattle.lx_caret_laws.proofs.AtCaret.{Goes, goes, place_lies, ranged}
use Rattle.lx_caret_laws.proofs.Covers.{AreBeside, among_at, first_up, last_up, moved_on, no_repeats_back, out_of_front, outermost_between}
use Rattle.lx_caret_laws.proofs.Gone.{deleted_removes, merged_itself}
use Rattle.lx_caret_laws.proofs.ReadBeside.{LeftBeside, between}
use Rattle.lx_caret_laws.proofs.Spliced.{text_few, text_of_normal}
use Rattle.lx_caret_laws.proofs.WentOut.{CutSo, WentOut, cut_so, went_out}
use Rattle.lx_caret_laws.specs.Carets.{HasCaret, OnlyReads}
use Rattle.lx_caret_laws.specs.Ranges.{IsGoneAcross, IsSelectedAcross, ReadsNow}
use Rattle.lx_draft.proofs.Gaps.{parent_here}
use Rattle.lx_draft.specs.Faults.{after, text_in}
use Rattle.lx_draft.specs.Selecting.{length_of, lies_in}
use Rattle.lx_draft.specs.Steps.{text_replaced}
use Rattle.lx_draft.specs.Working.{Working}
use Rattle.lx_edit.specs.Edits.{text_point}
use Rattle.lx_edit.specs.InTurn.{in_turn}
use Rattle.lx_edit_laws.proofs.Reading.{childless_text}
use Rattle.lx_edit_laws.proofs.WrapSteps.{was_same}
use Rattle.lx_forest.proofs.Lookups.{NoRepeats-children_of, has-child}
use Rattle.lx_forest.proofs.Walks.{ancestors-step, is_attached-up, order_of-children}
use Rattle.lx_forest.proofs.Within.{is_within-leaf, is_within-self}
use Rattle.lx_forest.specs.Forest.{Forest, Label}
use Rattle.lx_forest.specs.Lookups.{IsForest, ancestors, children_of, is_attached, is_within, kind_of, label_of, parent_of}
use Rattle.lx_node.specs.Kinds.{is_element, is_text_block}
use Rattle.lx_node.specs.declared.cause.Cause.{Cause}
use Rattle.lx_node.specs.declared.cause.Point.{Point}
use Rattle.lx_node.specs.declared.cause.PointKind.TheVariants as point
use Rattle.lx_node.specs.declared.fields.TextFields.{TextFields}
use Rattle.lx_node.specs.declared.kind.Kind.TheVariants as kinds
use Rattle.lx_select.specs.Selection.{each_point}
use Rattle.lx_select.specs.declared.selection.Selection.TheVariants.{Range}
use Rattle.lx_text.proofs.Places.{front-start, rest-end}
use Rattle.lx_text.proofs.Told.{told-all}
use Rattle.lx_text.specs.Texts.{front_of, is_offset, rest_of, text_length}
use Rattle.lx_trees.specs.Siblings.{ComesBefore, NoRepeats, index_in, is_among}
use Rattle.lx_trees.specs.Spots.{Spot, children_at}
use Rattle.std.proofs.Common.{Bool, List, Ok, Result, Some, [], ap, append-nil, append_assoc, ap₂, arith, cond, eqb, false, inl, inr, length, length-append, option_map, refl, subst, sym, true, ℕ, ◌++◌, ◌+◌, ◌∙◌, ◌∷◌, ◌≡◌, ◌≢◌, ◌≤◌, ◌⊎◌}
use Rattle.std.proofs.lemmas.Bool.Decides.{eqb_tells}
use Rattle.std.specs.Prelude.{find}

-- ---- one block

-- the block of a text is that of its parent
block_up : (f : Forest) (k p : ℕ) → IsForest f → parent_of f k ≡ Some p → kind_of f k ≡ Some kinds.Text → block_of f k ≡ block_of f p
unfolding is_text_block is_element
block_up f k p h up kind =
    let off : is_at is_text_block f k ≡ false = rw kind refl in
    ap (λ ks. find (is_at is_text_block f) (k ∷ ks)) (ancestors-step f k p h up)
    ∙ ap (λ t. cond t (Some k) (find (is_at is_text_block f) (p ∷ ancestors f p))) off

-- ---- what a text that is cut leaves of others

pub label_stays : (f g : Forest) (k : ℕ) (now : List ℕ) → OnlyReads k now f g → (q : ℕ) → q ≢ k → label_of g q ≡ label_of f q
label_stays f g k now only q other = ap (option_map (λ (y : Spot Label). y.label)) (only.others q other)

pub children_stay : (f g : Forest) (k : ℕ) (now : List ℕ) → OnlyReads k now f g → (q : ℕ) → children_of g q ≡ children_of f q
children_stay f g k now only q = elim (eqb_tells q k) [
  | inl own ↦ ap (children_of g) own.1 ∙ only.children ∙ ap (children_of f) (sym own.1)
  | inr other ↦ ap children_at (only.others q other.1)
]

-- ---- removing between

-- a draft from which what is between two texts went
pub record LeftDraft (p s e i j : ℕ) (one other : TextFields) (before rest : List ℕ) (w v : Working) : Type 0 where
  pub first : ReadsNow v.forest s one (front_of i one.text)
  pub last : ReadsNow v.forest e other (rest_of j other.text)
  pub labels : (q : ℕ) → q ≢ s → q ≢ e → label_of v.forest q ≡ label_of w.forest q
  pub at : children_of v.forest p ≡ before ++ (s ∷ (e ∷ rest))
  pub others : (q : ℕ) → q ≢ p → children_of v.forest q ≡ children_of w.forest q
  pub within : (b : ℕ) → is_within v.forest b s ≡ is_within w.forest b s
  pub caret : (format : ℕ) → (caret_at (text_point s i) w).selection ≡ Range (text_point s i) (text_point s i) format → HasCaret s i format v
  pub written : v.written ≡ w.written

-- what the three parts leave: the first text is cut, the nodes between go, and the last text is cut
record Parts (p s e i j len : ℕ) (one other : TextFields) (before rest : List ℕ) (w v : Working) : Type 0 where
  cut : Working
  gone : Working
  first : CutSo s i len one (caret_at (text_point s i) w) cut
  out : WentOut p s (before ++ (s ∷ [])) (e ∷ rest) cut gone
  last : CutSo e 0 j other gone v

in_parts : (p s e i j : ℕ) (one other : TextFields) (before mid rest : List ℕ) (w v : Working) → AreBeside w.forest p s e before mid rest
    → normal_at w.forest s ≡ Some one → normal_at w.forest e ≡ Some other → kind_of w.forest s ≡ Some kinds.Text
    → kind_of w.forest e ≡ Some kinds.Text → s ≢ e → remove_between (text_point s i) (text_point e j) w ≡ Ok v
    → Parts p s e i j (characters_at w.forest s) one other before rest w v
unfolding remove_between
in_parts p s e i j one other before mid rest w v b normal_s normal_e kind_s kind_e apart done =
    let f : Forest = w.forest in
    let start : Point = text_point s i in
    let end : Point = text_point e j in
    let u : Working = caret_at start w in
    let merge : Working → Result Working Cause = merge_step (block_of f s) (block_of f e) in
    let tail : Working → Result Working Cause = λ removed. after (end_cut start end point.Text removed) merge in
    let next : Working → Result Working Cause = λ cut. after (in_turn removed_below (outermost f (covered f start end)) cut) tail in
    let a = after_tells (start_cut start end point.Text u) next v done in
    let o = after_tells (in_turn removed_below (outermost f (covered f start end)) a.0) tail v a.1.1 in
    let z = after_tells (end_cut start end point.Text o.0) merge v o.1.1 in
    let off : eqb s e ≡ false = grind (arith, apart, eqb_tells s e) in
    let first_cut : cut_step s i (characters_at f s) u ≡ Ok a.0 =
    sym (ap (λ t. cut_step s i (cond t j (characters_at f s)) u) off) ∙ a.1.0 in
    let last_cut : cut_step e 0 j o.0 ≡ Ok z.0 = sym (ap (λ t. cond t (Ok o.0) (cut_step e 0 j o.0)) off) ∙ z.1.0 in
    let goes : in_turn removed_below mid a.0 ≡ Ok o.0 =
    sym (ap (λ ks. in_turn removed_below ks a.0) (outermost_between f p s e before mid rest b i j)) ∙ o.1.0 in
    let first : CutSo s i (characters_at f s) one u a.0 = cut_so s i (characters_at f s) one u a.0 normal_s first_cut in
    let are : children_of a.0.forest p ≡ (before ++ (s ∷ [])) ++ (mid ++ (e ∷ rest)) =
    children_stay f a.0.forest s _ first.read p ∙ b.are ∙ sym (append_assoc before (s ∷ []) (mid ++ (e ∷ rest))) in
    let out : WentOut p s (before ++ (s ∷ [])) (e ∷ rest) a.0 o.0 =
    went_out mid p s (before ++ (s ∷ [])) (e ∷ rest) a.0 o.0 (first.ordered b.order) (among_at before s []) are goes in
    let still : normal_at o.0.forest e ≡ Some other =
    ap (λ l. if_normal (text_in l)) (out.label e ∙ label_stays f a.0.forest s _ first.read e (λ same. apart (sym same))) ∙ normal_e in
    let last : CutSo e 0 j other o.0 z.0 = cut_so e 0 j other o.0 z.0 still last_cut in
    let same_block : block_of f s ≡ block_of f e =
    block_up f s p b.order (first_up f p s e before mid rest b) kind_s ∙ sym (block_up f e p b.order (last_up f p s e before mid rest b) kind_e) in
    let is : z.0 ≡ v =
    was_same z.0 v (sym (merged_itself (block_of f e) z.0) ∙ sym (ap (λ o. merge_step o (block_of f e) z.0) same_block) ∙ z.1.1) in
    subst (Parts p s e i j (characters_at f s) one other before rest w) is
    (record { cut = a.0; gone = o.0; first = first; out = out; last = last })

left_by : (p s e i j len : ℕ) (one other : TextFields) (before rest : List ℕ) (w v : Working) → s ≢ e → text_length one.text ≤ len
    → text_in (label_of w.forest s) ≡ Some one → text_in (label_of w.forest e) ≡ Some other
    → Parts p s e i j len one other before rest w v → LeftDraft p s e i j one other before rest w v
left_by p s e i j len one other before rest w v apart long here_s here_e parts =
    let f : Forest = w.forest in
    let c : Forest = parts.cut.forest in
    let r : Forest = parts.gone.forest in
    let turned : e ≢ s = λ same. apart (sym same) in
    let front_is : front_of i one.text ++ rest_of len one.text ≡ front_of i one.text =
    ap (λ t. front_of i one.text ++ t) (rest-end len one.text long) ∙ append-nil (front_of i one.text) in
    let rest_is : front_of 0 other.text ++ rest_of j other.text ≡ rest_of j other.text =
    ap (λ t. t ++ rest_of j other.text) (front-start other.text) in
    let label_e : label_of r e ≡ label_of f e = parts.out.label e ∙ label_stays f c s _ parts.first.read e turned in
    let now_s : ReadsNow c s one (front_of i one.text) =
    parts.first.read.text one here_s
    ∙ ap (λ t. let l : Label = record { key = s; kind = kinds.Text; fields = text_replaced one t } in Some l) front_is in
    record {
      first = label_stays r v.forest e _ parts.last.read s apart ∙ parts.out.label s ∙ now_s;
      last = parts.last.read.text other (ap text_in label_e ∙ here_e)
          ∙ ap (λ t. let l : Label = record { key = e; kind = kinds.Text; fields = text_replaced other t } in Some l) rest_is;
      labels = λ q not_s not_e.
          label_stays r v.forest e _ parts.last.read q not_e ∙ parts.out.label q ∙ label_stays f c s _ parts.first.read q not_s;
      at = children_stay r v.forest e _ parts.last.read p ∙ parts.out.at ∙ append_assoc before (s ∷ []) (e ∷ rest);
      others = λ q other.
          children_stay r v.forest e _ parts.last.read q ∙ parts.out.others q other ∙ children_stay f c s _ parts.first.read q;
      within = λ b. parts.last.within b s ∙ parts.out.within b ∙ parts.first.within b s;
      caret = λ format at.
          let one_at = parts.first.caret s i format at (inr refl) ∙ at in
          let two_at = parts.out.caret i format one_at ∙ one_at in
          parts.last.caret s i format two_at (inl apart) ∙ two_at;
      written = parts.last.written ∙ parts.out.written ∙ parts.first.written;
    }

-- ---- which point is first

index_at : (front : List ℕ) (x : ℕ) (rest : List ℕ) → is_among x front ≡ false → index_in (front ++ (x ∷ rest)) x ≡ Some (length front)
index_at [] x rest out = grind (arith, eqb_tells x x)
index_at (y ∷ ys) x rest out =
    let other : eqb y x ≡ false = grind (arith, out) in
    let more = index_at ys x rest (grind (arith, out)) in
    rw other (ap (option_map (λ i. i + 1)) more ∙ ap (λ n. Some n) (omega arith))

pub record Order (f : Forest) (s e i j : ℕ) : Type 0 where
  pub on : comes_first f (text_point s i) (text_point e j) ≡ true
  pub back : comes_first f (text_point e j) (text_point s i) ≡ false

order : (f : Forest) (p s e i j : ℕ) (before mid rest : List ℕ) → AreBeside f p s e before mid rest → s ≢ e → Order f s e i j
order f p s e i j before mid rest b apart =
    let up_s = first_up f p s e before mid rest b in
    let up_e = last_up f p s e before mid rest b in
    let moved = moved_on f p s e before mid rest b in
    let once = NoRepeats-children_of f p b.order in
    let comes : ComesBefore (children_of f p) s e = record {
      first = length before;
      second = length (before ++ (s ∷ mid));
      first_is = ap (λ ks. index_in ks s) b.are
          ∙ index_at before s (mid ++ (e ∷ rest)) (out_of_front before s (mid ++ (e ∷ rest)) (subst NoRepeats b.are once));
      second_is = ap (λ ks. index_in ks e) moved
          ∙ index_at (before ++ (s ∷ mid)) e rest (out_of_front (before ++ (s ∷ mid)) e rest (subst NoRepeats moved once));
      before = omega (arith, length-append before (s ∷ mid));
    } in
    let own_s : is_within f s s ≡ true = is_within-self f s ∙ has-child f s p up_s in
    let own_e : is_within f e e ≡ true = is_within-self f e ∙ has-child f e p up_e in
    let told = order_of-children f p s e s e b.order b.there comes own_s own_e in
    let off : eqb s e ≡ false = grind (arith, apart, eqb_tells s e) in
    let turned : eqb e s ≡ false = grind (arith, apart, eqb_tells e s) in
    let se : is_within f s e ≡ false = is_within-leaf f s e b.order b.first ∙ grind (arith, turned) in
    let es : is_within f e s ≡ false = is_within-leaf f e s b.order b.last ∙ grind (arith, off) in
    record {
      on = rw (off, se, es) (ap is_less told.0);
      back = rw (turned, es, se) (ap is_less told.1);
    }

-- what a range covers from one text to another, by the order of its points
pub either_way : (a c : Point) (s e i j format : ℕ) (w v : Working) → Order w.forest s e i j → s ≢ e
    → ((a ≡ text_point s i) × (c ≡ text_point e j)) ⊎ ((a ≡ text_point e j) × (c ≡ text_point s i))
    → removed_in (ranged a c format) w ≡ Ok v → remove_between (text_point s i) (text_point e j) w ≡ Ok v
either_way a c s e i j format w v o apart (inl is) done =
    let r : Ranged = ranged (text_point s i) (text_point e j) format in
    let here : removed_in r w ≡ Ok v = ap₂ (λ x y. removed_in (ranged x y format) w) (sym is.0) (sym is.1) ∙ done in
    let off : is_collapsed r ≡ false = grind (arith, apart, eqb_tells s e) in
    let start : start_of w.forest r ≡ text_point s i = ap (λ t. cond t (text_point s i) (text_point e j)) o.on in
    let end : end_of w.forest r ≡ text_point e j = ap (λ t. cond t (text_point e j) (text_point s i)) o.on in
    sym (ap₂ (λ x y. remove_between x y w) start end)
    ∙ sym (ap (λ t. cond t (Ok w) (remove_between (start_of w.forest r) (end_of w.forest r) w)) off) ∙ here
either_way a c s e i j format w v o apart (inr is) done =
    let r : Ranged = ranged (text_point e j) (text_point s i) format in
    let here : removed_in r w ≡ Ok v = ap₂ (λ x y. removed_in (ranged x y format) w) (sym is.0) (sym is.1) ∙ done in
    let off : is_collapsed r ≡ false = grind (arith, apart, eqb_tells e s) in
    let start : start_of w.forest r ≡ text_point s i = ap (λ t. cond t (text_point e j) (text_point s i)) o.back in
    let end : end_of w.forest r ≡ text_point e j = ap (λ t. cond t (text_point s i) (text_point e j)) o.back in
    sym (ap₂ (λ x y. remove_between x y w) start end)
    ∙ sym (ap (λ t. cond t (Ok w) (remove_between (start_of w.forest r) (end_of w.forest r) w)) off) ∙ here

-- ---- the command

-- all that is known where what is selected from one text to another was removed
pub record Across (p s e i j format : ℕ) (one other : TextFields) (before mid rest : List ℕ) (w v : Working) : Type 0 where
  pub beside : AreBeside w.forest p s e before mid rest
  pub draft : LeftDraft p s e i j one other before rest w v
  pub left : LeftBeside p s e i j one other before rest w.forest v.forest
  pub first : text_in (label_of w.forest s) ≡ Some one
  pub last : text_in (label_of w.forest e) ≡ Some other
  pub in_first : is_offset i one.text ≡ true
  pub in_last : is_offset j other.text ≡ true
  pub leaf : is_at is_element w.forest s ≡ false
  pub leaf_last : is_at is_element w.forest e ≡ false
  pub caret : HasCaret s i format v
  pub fit : Fit v

pub no_element : (f : Forest) (k : ℕ) → kind_of f k ≡ Some kinds.Text → is_at is_element f k ≡ false
unfolding is_element
no_element f k kind = rw kind refl

-- the two texts aren't one
pub texts_apart : (p s e i j format : ℕ) (one other : TextFields) (w : Working) → IsSelectedAcross p s e i j format one other w → s ≢ e
texts_apart p s e i j format one other w is =
    let once = no_repeats_back is.before (s ∷ (is.between ++ (e ∷ is.behind)))
    (subst NoRepeats is.children (NoRepeats-children_of w.forest p is.sound.ready.in_order)) in
    λ same. absurd (grind (arith, same, once.0, among_at is.between e is.behind))

-- the points of a selection from one text to another, whichever is its anchor
across_points : (a c : Point) (p s e i j format : ℕ) (one other : TextFields) (w v : Working)
    → (is : IsSelectedAcross p s e i j format one other w) → w.selection ≡ Range a c format
    → ((a ≡ text_point s i) × (c ≡ text_point e j)) ⊎ ((a ≡ text_point e j) × (c ≡ text_point s i))
    → lies w.forest (text_point s i) ≡ true → lies w.forest (text_point e j) ≡ true → Goes a c format w v → remove_text_step w ≡ Ok v
    → Across p s e i j format one other is.before is.between is.behind w v
across_points a c p s e i j format one other w v is selects points place_s place_e goes done =
    let f : Forest = w.forest in
    let h : IsForest f = is.sound.ready.in_order in
    let first : text_in (label_of f s) ≡ Some one = text_of_normal f s one is.first_normal in
    let last : text_in (label_of f e) ≡ Some other = text_of_normal f e other is.last_normal in
    let text_s = text_at f s one first in
    let text_e = text_at f e other last in
    let up_s : parent_of f s ≡ Some p =
    parent_here f p s h (ap (is_among s) is.children ∙ among_at is.before s (is.between ++ (e ∷ is.behind))) in
    let b : AreBeside f p s e is.before is.between is.behind = record {
      order = h;
      there = sym (is_attached-up f s p h up_s) ∙ (both (is_attached f s) (lies_in f (text_point s i)) place_s).0;
      are = is.children;
      first = childless_text f s h is.sound.held text_s.kind_is;
      last = childless_text f e h is.sound.held text_e.kind_is;
    } in
    let apart : s ≢ e = texts_apart p s e i j format one other w is in
    let removed : remove_between (text_point s i) (text_point e j) w ≡ Ok v =
    either_way a c s e i j format w v (order f p s e i j is.before is.between is.behind b apart) apart points goes.removed in
    let parts = in_parts p s e i j one other is.before is.between is.behind w v b is.first_normal is.last_normal text_s.kind_is text_e.kind_is apart
    removed in
    let long : text_length one.text ≤ characters_at f s =
    omega (arith, ap length_of text_s.fields_are ∙ told-all one.text (text_few w s one is.sound first)) in
    let draft = left_by p s e i j (characters_at f s) one other is.before is.behind w v apart long first last parts in
    let fit : Fit v = remove_text_fits w v is.sound.ready is.sound.held is.sound.short done in
    record {
      beside = b;
      draft = draft;
      left = record {
        ordered = fit.ready.in_order;
        first = draft.first;
        last = draft.last;
        labels = draft.labels;
        at = draft.at;
        others = draft.others;
      };
      first = first;
      last = last;
      in_first = (place_lies f s i one first place_s).0;
      in_last = (place_lies f e j other last place_e).0;
      leaf = no_element f s text_s.kind_is;
      leaf_last = no_element f e text_e.kind_is;
      caret = draft.caret format (ap (each_point (λ x. text_point s i)) selects);
      fit = fit;
    }

pub across : (p s e i j format : ℕ) (one other : TextFields) (w v : Working) → (is : IsSelectedAcross p s e i j format one other w)
    → remove_text_step w ≡ Ok v → Across p s e i j format one other is.before is.between is.behind w v
across p s e i j format one other w v is done = elim is.selects [
  | inl selects ↦
      let told = goes (text_point s i) (text_point e j) format w v selects done in
      across_points (text_point s i) (text_point e j) p s e i j format one other w v is selects (inl (refl, refl))
      told.is.anchor told.is.focus told done
  | inr selects ↦
      let told = goes (text_point e j) (text_point s i) format w v selects done in
      across_points (text_point e j) (text_point s i) p s e i j format one other w v is selects (inr (refl, refl))
      told.is.focus told.is.anchor told done
]

pub gone_across : (p s e i j format : ℕ) (one other : TextFields) (w v : Working) → (is : IsSelectedAcross p s e i j format one other w)
    → remove_text_step w ≡ Ok v → IsGoneAcross p s e i j format one other is.before is.behind w v
gone_across p s e i j format one other w v is done =
    let a = across p s e i j format one other w v is done in
    record {
      first_reads = a.draft.first;
      last_reads = a.draft.last;
      children = a.draft.at;
      around = between w.forest v.forest p s e i j one other is.before is.between is.behind a.beside a.left a.first
          a.last a.in_first a.in_last a.leaf;
      caret = a.caret;
    }

-- what is selected so is deleted as it is removed
pub deleted_across : (back : Bool) (reach : Reach) (p s e i j format : ℕ) (one other : TextFields) (w v : Working)
    → (is : IsSelectedAcross p s e i j format one other w) → delete_step back reach w ≡ Ok v
    → IsGoneAcross p s e i j format one other is.before is.behind w v
deleted_across back reach p s e i j format one other w v is done =
    let apart : s ≢ e = texts_apart p s e i j format one other w is in
    gone_across p s e i j format one other w v is (elim is.selects [
      | inl selects ↦
          deleted_removes back reach (text_point s i) (text_point e j) format w v selects (grind (arith, apart, eqb_tells s e)) done
      | inr selects ↦
          deleted_removes back reach (text_point e j) (text_point s i) format w v selects (grind (arith, apart, eqb_tells e s)) done
    ])
