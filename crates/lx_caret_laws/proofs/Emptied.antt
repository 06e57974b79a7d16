-- Removing between two texts, up to where their blocks are joined: both texts are cut, and what lies wholly between them goes.
use Rattle.lx_blocks.specs.Blocks.{block_of}
use Rattle.lx_blocks.specs.Places.{covered, outermost}
use Rattle.lx_blocks.specs.Ranges.{caret_at, characters_at, if_normal, normal_at}
use Rattle.lx_caret.proofs.Fit.{after_tells}
use Rattle.lx_caret.specs.Removing.{cut_step, end_cut, merge_step, remove_between, removed_below, start_cut}
use Rattle.lx_caret_laws.proofs.Across.{children_stay, label_stays}
use Rattle.lx_caret_laws.proofs.AllOut.{AllOut, all_out}
use Rattle.lx_caret_laws.proofs.Going.{going, going_clear, going_once, goes_out, leaves_some}
use Rattle.lx_caret_laws.proofs.LyingBetween.{Between, attached_first}
use Rattle.lx_caret_laws.proofs.WentOut.{CutSo, cut_so}
use Rattle.lx_caret_laws.specs.Carets.{HasCaret, OnlyReads}
use Rattle.lx_caret_laws.specs.Ranges.{ReadsNow}
use Rattle.lx_draft.specs.Faults.{after, text_in}
use Rattle.lx_draft.specs.Steps.{text_replaced}
use Rattle.lx_draft.specs.Working.{Working}
use Rattle.lx_edit.specs.Edits.{text_point}
use Rattle.lx_edit.specs.InTurn.{in_turn}
use Rattle.lx_forest.proofs.Within.{is_within-self}
use Rattle.lx_forest.specs.Forest.{Forest, Label}
use Rattle.lx_forest.specs.Lookups.{IsForest, children_of, is_within, label_of, parent_of}
use Rattle.lx_links.proofs.Ordered.{there_within}
use Rattle.lx_node.specs.declared.cause.Cause.{Cause}
use Rattle.lx_node.specs.declared.cause.Point.{Point}
use Rattle.lx_node.specs.declared.cause.PointKind.TheVariants as point
use Rattle.lx_node.specs.declared.fields.TextFields.{TextFields}
use Rattle.lx_node.specs.declared.kind.Kind.TheVariants as kinds
use Rattle.lx_select.specs.declared.selection.Selection.TheVariants.{Range}
use Rattle.lx_text.proofs.Places.{front-start, rest-end}
use Rattle.lx_text.specs.Texts.{front_of, rest_of, text_length}
use Rattle.lx_trees.specs.Siblings.{is_among}
use Rattle.lx_trees.specs.Spots.{parent_at}
use Rattle.std.proofs.Common.{List, Ok, Result, Some, ap, append-nil, arith, cond, eqb, false, inl, inr, not, refl, sym, true, ℕ, ◌++◌, ◌∙◌, ◌≡◌, ◌≢◌, ◌≤◌}
use Rattle.std.proofs.lemmas.Bool.Decides.{eqb_tells}
use Rattle.std.proofs.lemmas.Bool.{cases_Bool}
use Rattle.std.specs.Prelude.{filter}

-- a draft in which two texts were cut, and what lies wholly between them is out
pub record Emptied (s e i j : ℕ) (one other : TextFields) (gone : List ℕ) (w v : Working) : Type 0 where
  pub ordered : IsForest v.forest
  pub first : ReadsNow v.forest s one (front_of i one.text)
  pub last : ReadsNow v.forest e other (rest_of j other.text)
  pub labels : (q : ℕ) → q ≢ s → q ≢ e → label_of v.forest q ≡ label_of w.forest q
  pub children : (q : ℕ) → children_of v.forest q ≡ filter (λ c. not (is_among c gone)) (children_of w.forest q)
  pub within : (x y : ℕ) → ((k : ℕ) → is_among k gone ≡ true → is_within w.forest k y ≡ false) → is_within v.forest x y ≡ is_within w.forest x y
  pub caret : (format : ℕ) → (caret_at (text_point s i) w).selection ≡ Range (text_point s i) (text_point s i) format → HasCaret s i format v
  pub written : v.written ≡ w.written

-- and what is still to do
pub record EmptiedFirst (s e i j : ℕ) (one other : TextFields) (gone : List ℕ) (w v : Working) : Type 0 where
  pub draft : Working
  pub is : Emptied s e i j one other gone w draft
  pub merge : merge_step (block_of w.forest s) (block_of w.forest e) draft ≡ Ok v

parent_stays : (f g : Forest) (k : ℕ) (now : List ℕ) → OnlyReads k now f g → (q : ℕ) → parent_of g q ≡ parent_of f q
parent_stays f g k now only q = elim (eqb_tells q k) [
  | inl own ↦ ap (parent_of g) own.1 ∙ only.parent ∙ ap (parent_of f) (sym own.1)
  | inr other ↦ ap parent_at (only.others q other.1)
]

-- the three parts together
all_parts : (s e i j len : ℕ) (one other : TextFields) (gone : List ℕ) (w c r v : Working) → s ≢ e → text_length one.text ≤ len
    → text_in (label_of w.forest s) ≡ Some one → text_in (label_of w.forest e) ≡ Some other → is_among s gone ≡ false
    → CutSo s i len one (caret_at (text_point s i) w) c → AllOut gone c r → CutSo e 0 j other r v → Emptied s e i j one other gone w v
all_parts s e i j len one other gone w cut out_of v apart long here_s here_e s_stays first out last =
    let f : Forest = w.forest in
    let c : Forest = cut.forest in
    let r : Forest = out_of.forest in
    let turned : e ≢ s = λ same. apart (sym same) in
    let front_is : front_of i one.text ++ rest_of len one.text ≡ front_of i one.text =
    ap (λ t. front_of i one.text ++ t) (rest-end len one.text long) ∙ append-nil (front_of i one.text) in
    let rest_is : front_of 0 other.text ++ rest_of j other.text ≡ rest_of j other.text =
    ap (λ t. t ++ rest_of j other.text) (front-start other.text) in
    let label_e : label_of r e ≡ label_of f e = out.label e ∙ label_stays f c s _ first.read e turned in
    let now_s : ReadsNow c s one (front_of i one.text) =
    first.read.text one here_s
    ∙ ap (λ t. let l : Label = record { key = s; kind = kinds.Text; fields = text_replaced one t } in Some l) front_is in
    record {
      ordered = last.ordered out.ordered;
      first = label_stays r v.forest e _ last.read s apart ∙ out.label s ∙ now_s;
      last = last.read.text other (ap text_in label_e ∙ here_e)
          ∙ ap (λ t. let l : Label = record { key = e; kind = kinds.Text; fields = text_replaced other t } in Some l) rest_is;
      labels = λ q not_s not_e.
          label_stays r v.forest e _ last.read q not_e ∙ out.label q ∙ label_stays f c s _ first.read q not_s;
      children = λ q.
          children_stay r v.forest e _ last.read q ∙ out.children q
          ∙ ap (filter (λ c. not (is_among c gone))) (children_stay f c s _ first.read q);
      within = λ x y clear.
          last.within x y ∙ out.within x y (λ k at. first.within k y ∙ clear k at) ∙ first.within x y;
      caret = λ format at.
          let one_at = first.caret s i format at (inr refl) ∙ at in
          let two_at = out.caret s i format s_stays one_at ∙ one_at in
          last.caret s i format two_at (inl apart) ∙ two_at;
      written = last.written ∙ out.written ∙ first.written;
    }

pub emptied : (s e i j : ℕ) (one other : TextFields) (a m z : List ℕ) (w v : Working) → (b : Between w.forest s e a m z) → s ≢ e
    → normal_at w.forest s ≡ Some one → normal_at w.forest e ≡ Some other
    → text_in (label_of w.forest s) ≡ Some one → text_in (label_of w.forest e) ≡ Some other → text_length one.text ≤ characters_at w.forest s
    → remove_between (text_point s i) (text_point e j) w ≡ Ok v → EmptiedFirst s e i j one other (going w.forest s e a m z b) w v
unfolding remove_between
emptied s e i j one other a m z w v b apart normal_s normal_e here_s here_e long done =
    let f : Forest = w.forest in
    let gone : List ℕ = going f s e a m z b in
    let start : Point = text_point s i in
    let end : Point = text_point e j in
    let u : Working = caret_at start w in
    let merge : Working → Result Working Cause = merge_step (block_of f s) (block_of f e) in
    let tail : Working → Result Working Cause = λ removed. after (end_cut start end point.Text removed) merge in
    let next : Working → Result Working Cause = λ cut. after (in_turn removed_below (outermost f (covered f start end)) cut) tail in
    let a1 = after_tells (start_cut start end point.Text u) next v done in
    let o = after_tells (in_turn removed_below (outermost f (covered f start end)) a1.0) tail v a1.1.1 in
    let y = after_tells (end_cut start end point.Text o.0) merge v o.1.1 in
    let off : eqb s e ≡ false = grind (arith, apart, eqb_tells s e) in
    let first_cut : cut_step s i (characters_at f s) u ≡ Ok a1.0 =
    sym (ap (λ t. cut_step s i (cond t j (characters_at f s)) u) off) ∙ a1.1.0 in
    let last_cut : cut_step e 0 j o.0 ≡ Ok y.0 = sym (ap (λ t. cond t (Ok o.0) (cut_step e 0 j o.0)) off) ∙ y.1.0 in
    let goes : in_turn removed_below gone a1.0 ≡ Ok o.0 =
    sym (ap (λ ks. in_turn removed_below ks a1.0) (goes_out f s e a m z b i j)) ∙ o.1.0 in
    let first : CutSo s i (characters_at f s) one u a1.0 = cut_so s i (characters_at f s) one u a1.0 normal_s first_cut in
    let c : Forest = a1.0.forest in
    let order_c : IsForest c = first.ordered b.order in
    let out : AllOut gone a1.0 o.0 = all_out gone a1.0 o.0 order_c (going_once f s e a m z b) (λ k at.
    let l = leaves_some f s e a m z b k at in
    record {
      parent = l.parent;
      up = parent_stays f c s _ first.read k ∙ l.up;
      sibling = l.sibling;
      at = ap (is_among l.sibling) (children_stay f c s _ first.read l.parent) ∙ l.at;
      stays = l.stays;
    }) goes in
    let still : normal_at o.0.forest e ≡ Some other =
    ap (λ l. if_normal (text_in l)) (out.label e ∙ label_stays f c s _ first.read e (λ same. apart (sym same))) ∙ normal_e in
    let last : CutSo e 0 j other o.0 y.0 = cut_so e 0 j other o.0 y.0 still last_cut in
    let s_stays : is_among s gone ≡ false = elim (cases_Bool (is_among s gone)) [
      | inl bad ↦ absurd (grind (arith, (going_clear f s e a m z b s bad).0, is_within-self f s, there_within f 0 s (attached_first f s e a m z b)))
      | inr fine ↦ fine
    ] in
    record {
      draft = y.0;
      is = all_parts s e i j (characters_at f s) one other gone w a1.0 o.0 y.0 apart long here_s here_e s_stays first out last;
      merge = y.1.1;
    }
