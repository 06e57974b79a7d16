-- A node without children in which nothing is read is removed, with those above it that may not be left: nothing else changes.
use Rattle.lx_blocks.specs.Blocks.{passes}
use Rattle.lx_caret.proofs.Fit.{after_tells}
use Rattle.lx_caret_laws.proofs.ReadLevels.{read-leaf}
use Rattle.lx_caret_laws.proofs.RuleGone.{read_without}
use Rattle.lx_caret_laws.proofs.SilentBlocks.{silent_element}
use Rattle.lx_caret_laws.proofs.WentIn.{take_caret}
use Rattle.lx_caret_laws.specs.Reading.{read_in, said}
use Rattle.lx_draft.specs.Steps.{take_step}
use Rattle.lx_draft.specs.Working.{Working}
use Rattle.lx_edit.proofs.Climbed.{sent_away-apart, sent_away-forest, taken-forest}
use Rattle.lx_edit.specs.Edits.{goes_too, may_not_be_left, removed, sent_away}
use Rattle.lx_edit_laws.proofs.WrapSteps.{was_same, was_taken}
use Rattle.lx_forest.proofs.Lookups.{children_of-take_out, is_among-children_of, label_of-take_out, parent_of-take_out}
use Rattle.lx_forest.proofs.Order.{IsForest-take_out}
use Rattle.lx_forest.proofs.Up.{ancestors-take_out_outside}
use Rattle.lx_forest.proofs.Walks.{ancestors-step, ancestors-top}
use Rattle.lx_forest.proofs.Within.{is_within-parent}
use Rattle.lx_forest.specs.Edits.{take_out}
use Rattle.lx_forest.specs.Forest.{Forest}
use Rattle.lx_forest.specs.Lookups.{IsForest, ancestors, children_of, kind_of, label_of, parent_of, size_of}
use Rattle.lx_forest.specs.Suited.{IsSuited, is_suited}
use Rattle.lx_node.specs.Kinds.{is_element, is_item, may_be_empty}
use Rattle.lx_node.specs.declared.cause.Point.{Point}
use Rattle.lx_node.specs.declared.kind.Kind.TheVariants as kinds
use Rattle.lx_node.specs.declared.kind.Kind.{Kind}
use Rattle.lx_select.specs.Selection.{has_point_on}
use Rattle.lx_select.specs.declared.selection.Selection.TheVariants.{Range}
use Rattle.lx_trees.proofs.Siblings.{names_without-absent_list}
use Rattle.lx_trees.specs.Siblings.{is_among}
use Rattle.std.proofs.Common.{Bool, List, None, Ok, Option, Some, [], ap, arith, cond, eqb, false, refl, subst, sym, true, ℕ, ◌&&◌, ◌||◌, ◌∙◌, ◌∷◌, ◌≡◌, ◌≢◌}
use Rattle.std.proofs.lemmas.Bool.Decides.{eqb_tells}
use Rattle.std.proofs.lemmas.List.{nil_from_length}
use Rattle.std.specs.Prelude.{is_some}

-- nothing but nodes on the way up went
pub record IsQuiet (k : ℕ) (above : List ℕ) (r : Point) (format : ℕ) (w v : Working) : Type 0 where
  pub order : IsForest v.forest
  pub labels : (q : ℕ) → label_of v.forest q ≡ label_of w.forest q
  pub read : (b : ℕ) → read_in v.forest b ≡ read_in w.forest b
  pub children : (q : ℕ) → is_among q above ≡ false → children_of v.forest q ≡ children_of w.forest q
  pub tops : (q : ℕ) → parent_of w.forest q ≡ None → parent_of v.forest q ≡ None
  pub gone : parent_of v.forest k ≡ None
  pub caret : v.selection ≡ Range r r format

-- one of them goes
record OneOut (k p : ℕ) (r : Point) (format : ℕ) (w u : Working) : Type 0 where
  forest : u.forest ≡ take_out k w.forest
  caret : u.selection ≡ Range r r format

pub none_on : (k : ℕ) (r : Point) → r.key ≢ k → (eqb r.key k || eqb r.key k) ≡ false
none_on k r off = grind (arith, off, eqb_tells r.key k)

one_out : (k p : ℕ) (r : Point) (format : ℕ) (w u : Working) → parent_of w.forest k ≡ Some p → w.selection ≡ Range r r format
    → r.key ≢ k → r.key ≢ p → take_step k (sent_away k w) ≡ Ok u → OneOut k p r format w u
one_out k p r format w u up at off off_p e =
    let none : has_point_on k w.selection ≡ false = ap (has_point_on k) at ∙ none_on k r off in
    let sent : sent_away k w ≡ w = sent_away-apart k w none in
    let t = take_caret p k r format w u up at (ap (take_step k) (sym sent) ∙ e) in
    record {
      forest = taken-forest k (sent_away k w) u e ∙ ap (take_out k) (sent_away-forest k w);
      caret = t.is ∙ ap (λ x. Range x x format) (t.stays.other off_p);
    }

out_quiet : (k p : ℕ) (above : List ℕ) (r : Point) (format : ℕ) (w u : Working) → IsForest w.forest → parent_of w.forest k ≡ Some p
    → read_in w.forest k ≡ [] → OneOut k p r format w u → IsQuiet k (p ∷ above) r format w u
out_quiet k p above r format w u h up none o =
    let f : Forest = w.forest in
    let own : eqb k k ≡ true = grind (arith, eqb_tells k k) in
    record {
      order = subst IsForest (sym o.forest) (IsForest-take_out k f h);
      labels = λ q. ap (λ x. label_of x q) o.forest ∙ label_of-take_out k f q h;
      read = λ b. ap (λ x. read_in x b) o.forest ∙ read_without k f h none b;
      children = λ q out.
          let other : q ≢ p = λ e. absurd (grind (arith, out, e, eqb_tells p q)) in
          let absent : is_among k (children_of f q) ≡ false =
          is_among-children_of f k q h ∙ grind (arith, up, other, eqb_tells q p, eqb_tells p q) in
          ap (λ x. children_of x q) o.forest ∙ children_of-take_out k f q h ∙ names_without-absent_list k (children_of f q) absent;
      tops = λ q top.
          ap (λ x. parent_of x q) o.forest ∙ parent_of-take_out k f q h ∙ ap (cond (eqb q k) None) top ∙ same (eqb q k);
      gone = ap (λ x. parent_of x k) o.forest ∙ parent_of-take_out k f k h ∙ ap (λ t. cond t None (parent_of f k)) own;
      caret = o.caret;
    } where
      same : (t : Bool) → ◌≡◌ {A = Option ℕ} (cond t None None) None
      same true = refl
      same false = refl

then_quiet : (k p : ℕ) (above : List ℕ) (r : Point) (format : ℕ) (w u v : Working) → IsQuiet k (p ∷ above) r format w u
    → IsQuiet p above r format u v → IsQuiet k (p ∷ above) r format w v
then_quiet k p above r format w u v one two = record {
  order = two.order;
  labels = λ q. two.labels q ∙ one.labels q;
  read = λ b. two.read b ∙ one.read b;
  children = λ q out. two.children q (grind (arith, out)) ∙ one.children q out;
  tops = λ q top. two.tops q (one.tops q top);
  gone = two.tops k one.gone;
  caret = two.caret;
}

-- what goes too is an element
goes_element : (o inner : Option Kind) → may_not_be_left o inner ≡ true → passes is_element o ≡ true
unfolding may_be_empty is_item is_element
goes_element None inner e = absurd (cc)
goes_element (Some kind) None e = absurd (cc)
goes_element (Some kinds.Text) (Some inner) e = absurd (cc)
goes_element (Some kinds.Tab) (Some inner) e = absurd (cc)
goes_element (Some kinds.Break) (Some inner) e = absurd (cc)
goes_element (Some kinds.Rule) (Some inner) e = absurd (cc)
goes_element (Some kinds.Embed) (Some inner) e = absurd (cc)
goes_element (Some kind) (Some inner) e = refl

all_three : (a b c : Bool) → (a && (b && c)) ≡ true → (a ≡ true) × (c ≡ true)
all_three true true true e = (refl, refl)
all_three true true false e = absurd (cc)
all_three true false c e = absurd (cc)
all_three false b c e = absurd (cc)

suited_by : (f g : Forest) → ((q : ℕ) → label_of g q ≡ label_of f q) → IsSuited f → IsSuited g
suited_by f g same suited = record { each = λ q. ap is_suited (same q) ∙ suited.each q }

pub removed_quiet : (above : List ℕ) (k : ℕ) (r : Point) (format : ℕ) (w v : Working) → IsForest w.forest → IsSuited w.forest
    → ancestors w.forest k ≡ above → read_in w.forest k ≡ [] → w.selection ≡ Range r r format → is_among r.key (k ∷ above) ≡ false
    → removed k above w ≡ Ok v → IsQuiet k above r format w v
removed_quiet [] k r format w v h suited are none at off e =
    let taken = was_taken k (sent_away k w) v e in
    let up : parent_of w.forest k ≡ Some taken.1.0 = ap (λ x. parent_of x k) (sym (sent_away-forest k w)) ∙ taken.1.1 in
    absurd (let bad : ◌≡◌ {A = List ℕ} [] (taken.1.0 ∷ ancestors w.forest taken.1.0) = sym are ∙ ancestors-step w.forest k taken.1.0 h up in cc)
removed_quiet (p ∷ above) k r format w v h suited are none at off e =
    by_parent (λ u. removed_quiet above p r format u v) (parent_of w.forest k) refl where
      by_test : ((u : Working) → IsForest u.forest → IsSuited u.forest → ancestors u.forest p ≡ above → read_in u.forest p ≡ []
          → u.selection ≡ Range r r format → is_among r.key (p ∷ above) ≡ false → removed p above u ≡ Ok v → IsQuiet p above r format u v)
          → (u : Working) → IsQuiet k (p ∷ above) r format w u → ancestors w.forest p ≡ above → is_among r.key (p ∷ above) ≡ false
          → parent_of w.forest k ≡ Some p → u.forest ≡ take_out k w.forest → (t : Bool) → goes_too (kind_of w.forest k) u.forest p ≡ t
          → cond t (removed p above u) (Ok u) ≡ Ok v → IsQuiet k (p ∷ above) r format w v
      by_test again u one rest later up forest false is e = subst (IsQuiet k (p ∷ above) r format w) (was_same u v e) one
      by_test again u one rest later up forest true is e =
          let g : Forest = u.forest in
          let parts = all_three (eqb (size_of g p) 0) (is_some (parent_of g p)) (may_not_be_left (kind_of g p) (kind_of w.forest k)) is in
          let empty : children_of g p ≡ [] = nil_from_length (children_of g p) (grind (arith, parts.0, eqb_tells (size_of g p) 0)) in
          let suited_g : IsSuited g = suited_by w.forest g one.labels suited in
          let silent : said g p ≡ [] = silent_element g p suited_g (goes_element (kind_of g p) (kind_of w.forest k) parts.1) in
          let out = ancestors-take_out_outside k w.forest p h (is_within-parent w.forest k p h up) in
          then_quiet k p above r format w u v one
          (again u one.order suited_g (ap (λ x. ancestors x p) forest ∙ out ∙ rest) (read-leaf g p one.order empty ∙ silent) one.caret later e)

      by_parent : ((u : Working) → IsForest u.forest → IsSuited u.forest → ancestors u.forest p ≡ above → read_in u.forest p ≡ []
          → u.selection ≡ Range r r format → is_among r.key (p ∷ above) ≡ false → removed p above u ≡ Ok v → IsQuiet p above r format u v)
          → (o : Option ℕ) → parent_of w.forest k ≡ o → IsQuiet k (p ∷ above) r format w v
      by_parent again None top =
          absurd (let bad : ◌≡◌ {A = List ℕ} [] (p ∷ above) = sym (ancestors-top w.forest k top) ∙ are in cc)
      by_parent again (Some q) up =
          let f : Forest = w.forest in
          let both_are : q ∷ ancestors f q ≡ p ∷ above = sym (ancestors-step f k q h up) ∙ are in
          let same : q ≡ p = cc in
          let rest : ancestors f p ≡ above = let tails : ancestors f q ≡ above = cc in ap (ancestors f) (sym same) ∙ tails in
          let up_p : parent_of f k ≡ Some p = up ∙ ap (λ x. Some x) same in
          let off_k : r.key ≢ k = λ x. absurd (grind (arith, off, x, eqb_tells k r.key)) in
          let off_p : r.key ≢ p = λ x. absurd (grind (arith, off, x, eqb_tells p r.key)) in
          let later : is_among r.key (p ∷ above) ≡ false = grind (arith, off) in
          let a = after_tells (take_step k (sent_away k w)) (λ u. cond (goes_too (kind_of f k) u.forest p) (removed p above u) (Ok u)) v e in
          let u : Working = a.0 in
          let o = one_out k p r format w u up_p at off_k off_p a.1.0 in
          let one = out_quiet k p above r format w u h up_p none o in
          by_test again u one rest later up_p o.forest (goes_too (kind_of f k) u.forest p) refl a.1.1
