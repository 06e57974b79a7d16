-- What removing leaves: a text that is cut at one end, and children of a node that go while others stay.
use Rattle.lx_caret.proofs.Fit.{after_tells}
use Rattle.lx_caret.specs.Removing.{cut_step, removed_below}
use Rattle.lx_caret_laws.proofs.Covers.{among_at, out_of_front}
use Rattle.lx_caret_laws.proofs.Spliced.{only_reads, reads_itself, text_of_normal}
use Rattle.lx_caret_laws.specs.Carets.{OnlyReads}
use Rattle.lx_blocks.specs.Ranges.{normal_at}
use Rattle.lx_draft.proofs.Covered.{answered}
use Rattle.lx_draft.proofs.Gaps.{parent_here}
use Rattle.lx_draft.specs.Faults.{over_counts, over_limits, splice_fault, text_in}
use Rattle.lx_draft.specs.Steps.{differ, fields_written, label_with_piece, marked_if, node_taken, splice_points, splice_step, take_points, take_step, text_replaced, with_piece, wrote}
use Rattle.lx_draft.specs.Working.{Working}
use Rattle.lx_links.specs.Faults.{detach_fault}
use Rattle.lx_edit.proofs.Climbed.{sent_away-apart}
use Rattle.lx_edit.specs.Edits.{remove_step, sent_away, sent_from, text_point}
use Rattle.lx_edit.specs.InTurn.{in_turn}
use Rattle.lx_edit_laws.proofs.WrapSteps.{was_same}
use Rattle.lx_edit_laws.proofs.WrapTurns.{left_alone, removed_alone}
use Rattle.lx_forest.proofs.Lookups.{NoRepeats-children_of, children_of-take_out, is_among-children_of, label_of-take_out}
use Rattle.lx_forest.proofs.Order.{IsForest-take_out, IsForest-with_fields}
use Rattle.lx_forest.proofs.Within.{is_within-parent, is_within-take_out, is_within-up, is_within-with_fields}
use Rattle.lx_forest.specs.Edits.{take_out, with_fields}
use Rattle.lx_forest.specs.Forest.{Forest}
use Rattle.lx_forest.specs.Lookups.{IsForest, children_of, fields_of, index_of, is_within, label_of, parent_of}
use Rattle.lx_node.specs.declared.fields.Fields.{Fields}
use Rattle.lx_node.specs.declared.fields.TextFields.{TextFields}
use Rattle.lx_select.specs.Rules.{is_behind, is_counting_children, offset_sum, splice_moves, spliced_offset, take_moves}
use Rattle.lx_select.specs.Selection.{has_point_on}
use Rattle.lx_select.specs.declared.selection.Selection.TheVariants.{Range}
use Rattle.lx_text.proofs.Places.{parts}
use Rattle.lx_text.specs.Texts.{front_of, rest_of, spliced_text}
use Rattle.lx_trees.proofs.Siblings.{is_among-append, names_without-absent_list}
use Rattle.lx_trees.specs.Siblings.{NoRepeats, is_among, names_without}
use Rattle.std.proofs.Common.{Bool, List, None, Ok, Option, Result, Some, [], ap, append-nil, arith, cond, eqb, false, inl, inr, refl, subst, sym, true, ℕ, ◌++◌, ◌∙◌, ◌∷◌, ◌≡◌, ◌≢◌, ◌⊎◌}
use Rattle.std.proofs.lemmas.Bool.Decides.{eqb_tells, nat_tests}
use Rattle.std.specs.Option.{option_or}
use Rattle.std.specs.Prelude.{is_some}

-- ---- a text that is cut

-- the text keeps what was before the one offset and what was after the other, and a caret elsewhere, or at the first offset, stays
pub record CutSo (k from to : ℕ) (t : TextFields) (w v : Working) : Type 0 where
  pub read : OnlyReads k (front_of from t.text ++ rest_of to t.text) w.forest v.forest
  pub caret : (s i format : ℕ) → w.selection ≡ Range (text_point s i) (text_point s i) format → (s ≢ k) ⊎ (i ≡ from) → v.selection ≡ w.selection
  pub written : v.written ≡ w.written
  pub within : (b q : ℕ) → is_within v.forest b q ≡ is_within w.forest b q
  pub ordered : IsForest w.forest → IsForest v.forest

point_stays : (k from to len s i : ℕ) → (s ≢ k) ⊎ (i ≡ from) → splice_moves k from to len (text_point s i) ≡ text_point s i
unfolding splice_moves spliced_offset offset_sum
point_stays k from to len s i (inl other) = grind (arith, other, eqb_tells s k)
point_stays k from to len s i (inr at) = elim (eqb_tells s k) [
  | inl own ↦ rw own.0 (ap (text_point s) (grind (arith, at, nat_tests)))
  | inr other ↦ rw other.0 refl
]

none_written : (b : Bool) (f : Forest) (k : ℕ) (w : Working) → (marked_if b f k (wrote 0 w)).written ≡ w.written
none_written true f k w = omega (arith)
none_written false f k w = omega (arith)

spliced_so : (k from to : ℕ) (t : TextFields) (w v : Working) → text_in (label_of w.forest k) ≡ Some t → splice_step k from to [] w ≡ Ok v
    → CutSo k from to t w v
unfolding splice_step spliced_text
spliced_so k from to t w v here e =
    let x : Fields = label_with_piece (label_of w.forest k) from to [] in
    let now : List ℕ = front_of from t.text ++ [] ++ rest_of to t.text in
    let left : Working = fields_written k x 0 (splice_points k from to []) w in
    let told = answered (option_or (splice_fault k from to w.forest) (over_limits 0 w)) left v e in
    let forest : v.forest ≡ with_fields k (text_replaced t now) w.forest =
    ap (λ (u : Working). u.forest) (sym told.1) ∙ ap (λ o. with_fields k (with_piece o from to []) w.forest) here in
    let read : OnlyReads k now w.forest v.forest =
    subst (λ g. OnlyReads k now w.forest g) (sym forest) (only_reads w.forest k t now here) in
    record {
      read = subst (λ now. OnlyReads k now w.forest v.forest) (ap (λ cs. cs ++ rest_of to t.text) (append-nil (front_of from t.text))) read;
      caret = λ s i format at on.
          ap (λ (u : Working). u.selection) (sym told.1) ∙ ap (splice_points k from to []) at
          ∙ ap (λ p. Range p p format) (point_stays k from to _ s i on) ∙ sym at;
      written = ap (λ (u : Working). u.written) (sym told.1) ∙ none_written (differ (fields_of w.forest k) x) w.forest k w;
      within = λ b q. ap (λ g. is_within g b q) forest ∙ is_within-with_fields k (text_replaced t now) w.forest b q;
      ordered = λ h. subst IsForest (sym forest) (IsForest-with_fields k (text_replaced t now) w.forest h);
    }

-- a normal text that is cut
pub cut_so : (k from to : ℕ) (t : TextFields) (w v : Working) → normal_at w.forest k ≡ Some t → cut_step k from to w ≡ Ok v → CutSo k from to t w v
unfolding cut_step
cut_so k from to t w v normal e =
    let here : text_in (label_of w.forest k) ≡ Some t = text_of_normal w.forest k t normal in
    let rest : Result Working _ = cond (is_some (normal_at w.forest k)) (splice_step k from to [] w) (remove_step k w) in
    elim (eqb_tells from to) [
      | inl same ↦
          let is : w ≡ v = was_same w v (sym (ap (λ b. cond b (Ok w) rest) same.0) ∙ e) in
          let whole : t.text ≡ front_of from t.text ++ rest_of to t.text =
          sym (parts from t.text) ∙ ap (λ x. front_of from t.text ++ rest_of x t.text) same.1 in
          subst (CutSo k from to t w) is (record {
            read = subst (λ now. OnlyReads k now w.forest w.forest) whole (reads_itself w.forest k t here);
            caret = λ s i format at on. refl;
            written = refl;
            within = λ b q. refl;
            ordered = λ h. h;
          })
      | inr other ↦
          let s : splice_step k from to [] w ≡ Ok v =
          sym (ap (λ b. cond b (Ok w) rest) other.0 ∙ ap (λ o. cond (is_some o) (splice_step k from to [] w) (remove_step k w)) normal) ∙ e in
          spliced_so k from to t w v here s
    ]

-- ---- children that go

-- some children of a node went: the others have their order, and a caret in a text among them stays
pub record WentOut (p s : ℕ) (front rest : List ℕ) (w v : Working) : Type 0 where
  pub ordered : IsForest v.forest
  pub label : (q : ℕ) → label_of v.forest q ≡ label_of w.forest q
  pub at : children_of v.forest p ≡ front ++ rest
  pub others : (q : ℕ) → q ≢ p → children_of v.forest q ≡ children_of w.forest q
  pub within : (b : ℕ) → is_within v.forest b s ≡ is_within w.forest b s
  pub caret : (i format : ℕ) → w.selection ≡ Range (text_point s i) (text_point s i) format → v.selection ≡ w.selection
  pub written : v.written ≡ w.written

pub without_middle : (k : ℕ) (front rest : List ℕ) → NoRepeats (front ++ (k ∷ rest)) → names_without k (front ++ (k ∷ rest)) ≡ front ++ rest
without_middle k [] rest once =
    let own : eqb k k ≡ true = grind (arith, eqb_tells k k) in
    rw own (names_without-absent_list k rest once.0)
without_middle k (x ∷ xs) rest once =
    let other : eqb x k ≡ false = grind (arith, out_of_front (x ∷ xs) k rest once, eqb_tells x k) in
    rw other (ap (λ t. x ∷ t) (without_middle k xs rest once.1))

sent_written : (k : ℕ) (p index : Option ℕ) (w : Working) → (sent_from k p index w).written ≡ w.written
sent_written k None index w = refl
sent_written k (Some p) None w = refl
sent_written k (Some p) (Some index) w = refl

sent_away-written : (k : ℕ) (w : Working) → (sent_away k w).written ≡ w.written
unfolding sent_away
sent_away-written k w = sent_written k (parent_of w.forest k) (index_of w.forest k) w

-- a caret in a text counts no children
caret_counts : (o index : Option ℕ) (s i format : ℕ) → take_points o index (Range (text_point s i) (text_point s i) format)
    ≡ Range (text_point s i) (text_point s i) format
unfolding take_moves is_behind is_counting_children
caret_counts None index s i format = refl
caret_counts (Some p) None s i format = refl
caret_counts (Some p) (Some index) s i format = refl

-- what taking a node leaves besides the forest
pub record TookIt (k s : ℕ) (w v : Working) : Type 0 where
  pub caret : (i format : ℕ) → w.selection ≡ Range (text_point s i) (text_point s i) format → v.selection ≡ w.selection
  pub written : v.written ≡ w.written

pub took_written : (k : ℕ) (w v : Working) → take_step k w ≡ Ok v → v.written ≡ w.written
unfolding take_step
took_written k w v e =
    let told = answered (option_or (detach_fault k w.forest) (over_counts w)) (node_taken k w) v e in
    ap (λ (u : Working). u.written) (sym told.1)

pub took_caret : (k s i format : ℕ) (w v : Working) → w.selection ≡ Range (text_point s i) (text_point s i) format → take_step k w ≡ Ok v
    → v.selection ≡ w.selection
unfolding take_step
took_caret k s i format w v at e =
    let told = answered (option_or (detach_fault k w.forest) (over_counts w)) (node_taken k w) v e in
    ap (λ (u : Working). u.selection) (sym told.1) ∙ ap (take_points (parent_of w.forest k) (index_of w.forest k)) at
    ∙ caret_counts (parent_of w.forest k) (index_of w.forest k) s i format ∙ sym at

pub took_it : (k s : ℕ) (w v : Working) → s ≢ k → take_step k (sent_away k w) ≡ Ok v → TookIt k s w v
took_it k s w v other e = record {
  caret = λ i format at.
      let off : has_point_on k w.selection ≡ false = ap (has_point_on k) at ∙ grind (arith, other, eqb_tells s k) in
      let same : sent_away k w ≡ w = sent_away-apart k w off in
      took_caret k s i format w v at (ap (take_step k) (sym same) ∙ e);
  written = took_written k (sent_away k w) v e ∙ sent_away-written k w;
}

-- where another child is left, a child goes alone
one_out : (k p s : ℕ) (front rest : List ℕ) (w v : Working) → IsForest w.forest → is_among s front ≡ true
    → children_of w.forest p ≡ front ++ (k ∷ rest) → removed_below k w ≡ Ok v → WentOut p s front rest w v
unfolding removed_below
one_out k p s front rest w v h among are e =
    let f : Forest = w.forest in
    let once : NoRepeats (front ++ (k ∷ rest)) = subst NoRepeats are (NoRepeats-children_of f p h) in
    let other : s ≢ k = λ same. absurd (grind (arith, same, among, out_of_front front k rest once)) in
    let up : parent_of f k ≡ Some p = parent_here f p k h (ap (is_among k) are ∙ among_at front k rest) in
    let at_s : is_among s (children_of f p) ≡ true =
    ap (is_among s) are ∙ is_among-append s front (k ∷ rest) ∙ grind (arith, among) in
    let up_s : parent_of f s ≡ Some p = parent_here f p s h at_s in
    let goes : remove_step k w ≡ Ok v = sym (ap (λ o. cond (is_some o) (remove_step k w) (Ok w)) up) ∙ e in
    let took = took_it k s w v other (left_alone k p s w v h up at_s other goes) in
    let forest : v.forest ≡ take_out k f = removed_alone k p s w v h up at_s other goes in
    let out : is_within f k s ≡ false = is_within-up f k s p h up_s other ∙ is_within-parent f k p h up in
    record {
      ordered = subst IsForest (sym forest) (IsForest-take_out k f h);
      label = λ q. ap (λ g. label_of g q) forest ∙ label_of-take_out k f q h;
      at = ap (λ g. children_of g p) forest ∙ children_of-take_out k f p h ∙ ap (names_without k) are ∙ without_middle k front rest once;
      others = λ q apart.
          let none : is_among k (children_of f q) ≡ false = is_among-children_of f k q h ∙ grind (arith, up, apart, eqb_tells q p, eqb_tells p q) in
          ap (λ g. children_of g q) forest ∙ children_of-take_out k f q h ∙ names_without-absent_list k (children_of f q) none;
      within = λ b. ap (λ g. is_within g b s) forest ∙ is_within-take_out k f b s h ∙ grind (arith, out);
      caret = took.caret;
      written = took.written;
    }

pub went_out : (ks : List ℕ) (p s : ℕ) (front rest : List ℕ) (w v : Working) → IsForest w.forest → is_among s front ≡ true
    → children_of w.forest p ≡ front ++ (ks ++ rest) → in_turn removed_below ks w ≡ Ok v → WentOut p s front rest w v
unfolding in_turn
went_out [] p s front rest w v h among are e = subst (WentOut p s front rest w) (was_same w v e) (record {
  ordered = h;
  label = λ q. refl;
  at = are;
  others = λ q apart. refl;
  within = λ b. refl;
  caret = λ i format at. refl;
  written = refl;
})
went_out (k ∷ ks) p s front rest w v h among are e =
    let first = after_tells (removed_below k w) (in_turn removed_below ks) v e in
    let one = one_out k p s front (ks ++ rest) w first.0 h among are first.1.0 in
    let more = went_out ks p s front rest first.0 v one.ordered among one.at first.1.1 in
    record {
      ordered = more.ordered;
      label = λ q. more.label q ∙ one.label q;
      at = more.at;
      others = λ q apart. more.others q apart ∙ one.others q apart;
      within = λ b. more.within b ∙ one.within b;
      caret = λ i format at. more.caret i format (one.caret i format at ∙ at) ∙ one.caret i format at;
      written = more.written ∙ one.written;
    }
