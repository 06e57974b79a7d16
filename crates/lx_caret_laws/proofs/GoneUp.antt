-- An empty node goes, and those above it that may not be left: in no node is less read, and what is read at a text is where it was.
use Rattle.std.specs.Prelude.{is_some}
use Rattle.lx_draft.proofs.Touched.{is_some-kind_of}
use Rattle.lx_caret_laws.proofs.LeafOut.{CutAlike, leaf_out, leaf_reads}
use Rattle.lx_caret_laws.proofs.Silent.{goer_no_text, goer_silent}
use Rattle.lx_caret_laws.proofs.WentOut.{took_it}
use Rattle.lx_caret_laws.specs.Reading.{said, read_in}
use Rattle.lx_draft.proofs.Gaps.{parent_here}
use Rattle.lx_draft.specs.Steps.{take_step}
use Rattle.lx_draft.specs.Working.{Working}
use Rattle.lx_edit.proofs.Climbed.{first_part, sent_away-forest, taken-forest}
use Rattle.lx_edit.specs.Edits.{goes_too, may_not_be_left, remove_step, removed, sent_away, text_point}
use Rattle.lx_forest.proofs.Lookups.{children_of-take_out, kind_of-take_out, label_of-take_out, parent_of-take_out}
use Rattle.lx_forest.proofs.Order.{IsForest-take_out}
use Rattle.lx_forest.proofs.Suited.{IsSuited-take_out}
use Rattle.lx_forest.proofs.Up.{ancestors-take_out_outside}
use Rattle.lx_forest.proofs.Walks.{ancestors-step, ancestors-top, cases_option}
use Rattle.lx_forest.proofs.Within.{is_within-leaf, is_within-parent, is_within-take_out}
use Rattle.lx_forest.specs.Edits.{take_out}
use Rattle.lx_forest.specs.Forest.{Forest, Label}
use Rattle.lx_forest.specs.Lookups.{IsForest, ancestors, children_of, is_attached, is_within, keys_within, kind_of, label_of, parent_of, has}
use Rattle.lx_forest.specs.Suited.{IsSuited}
use Rattle.lx_node.specs.declared.kind.Kind.{Kind}
use Rattle.lx_select.specs.declared.selection.Selection.TheVariants.{Range}
use Rattle.lx_trees.proofs.Siblings.{names_without-absent_list}
use Rattle.lx_trees.specs.Siblings.{is_among}
use Rattle.std.proofs.Common.{Bool, List, None, Ok, Option, Some, [], ap, arith, cond, eqb, false, inl, inr, length, refl, subst, sym, true, ℕ, ◌++◌, ◌∙◌, ◌∷◌, ◌≡◌, ◌≢◌, not, ◌&&◌, ◌||◌, option_map}
use Rattle.std.proofs.lemmas.Bool.{cases_Bool}
use Rattle.std.proofs.lemmas.Bool.Decides.{eqb_tells}
use Rattle.std.proofs.lemmas.List.{nil_from_length}
use Rattle.lx_node.specs.declared.kind.Kind.TheVariants as kinds

-- what goes is high up: it isn't the text s, and nothing that isn't high loses a child
pub record GoneUp (high : ℕ → Bool) (s : ℕ) (w v : Working) : Type 0 where
  pub order : IsForest v.forest
  pub label : (q : ℕ) → label_of v.forest q ≡ label_of w.forest q
  pub others : (q : ℕ) → high q ≡ false → children_of v.forest q ≡ children_of w.forest q
  pub within : (q : ℕ) → is_within v.forest q s ≡ is_within w.forest q s
  pub cuts : (q : ℕ) (left rest : List ℕ) → is_within w.forest q s ≡ true → keys_within w.forest q ≡ left ++ (s ∷ rest)
      → is_among s left ≡ false → CutAlike w.forest v.forest s q left rest
  pub reads : (q : ℕ) → has q w.forest ≡ true → read_in v.forest q ≡ read_in w.forest q
  pub fewer : (q : ℕ) → is_attached w.forest q ≡ false → is_attached v.forest q ≡ false
  pub stays : (q : ℕ) → high q ≡ false → is_attached w.forest q ≡ true → is_attached v.forest q ≡ true
  pub ups : (q p : ℕ) → high q ≡ false → parent_of w.forest q ≡ Some p → parent_of v.forest q ≡ Some p
  pub tops : (q : ℕ) → parent_of w.forest q ≡ None → parent_of v.forest q ≡ None
  pub caret : (i format : ℕ) → w.selection ≡ Range (text_point s i) (text_point s i) format → v.selection ≡ w.selection
  pub written : v.written ≡ w.written

-- the draft allows it: what is above a high node is high
pub record Rises (high : ℕ → Bool) (s : ℕ) (w : Working) : Type 0 where
  pub order : IsForest w.forest
  pub suited : IsSuited w.forest
  pub text : kind_of w.forest s ≡ Some kinds.Text
  pub above : (k p : ℕ) → high k ≡ true → parent_of w.forest k ≡ Some p → high p ≡ true

pub none_gone : (high : ℕ → Bool) (s : ℕ) (w v : Working) → IsForest w.forest → w ≡ v → GoneUp high s w v
none_gone high s w v h same = subst (GoneUp high s w) same (record {
  order = h;
  label = λ q. refl;
  others = λ q low. refl;
  within = λ q. refl;
  cuts = λ q left rest inside keys out. record { front = left; back = rest; keys = keys; ahead = refl; behind = refl; away = out };
  reads = λ q so. refl;
  fewer = λ q out. out;
  stays = λ q low there. there;
  ups = λ q p low up. up;
  tops = λ q top. top;
  caret = λ i format at. refl;
  written = refl;
})

gone_twice : (high : ℕ → Bool) (s : ℕ) (w u v : Working) → GoneUp high s w u → GoneUp high s u v → GoneUp high s w v
gone_twice high s w u v one two = record {
  order = two.order;
  label = λ q. two.label q ∙ one.label q;
  others = λ q low. two.others q low ∙ one.others q low;
  within = λ q. two.within q ∙ one.within q;
  cuts = λ q left rest inside keys out.
      let first = one.cuts q left rest inside keys out in
      let second = two.cuts q first.front first.back (one.within q ∙ inside) first.keys first.away in
      record {
        front = second.front;
        back = second.back;
        keys = second.keys;
        ahead = second.ahead ∙ first.ahead;
        behind = second.behind ∙ first.behind;
        away = second.away;
      };
  reads = λ q so.
      let there : has q u.forest ≡ true =
      sym (is_some-kind_of u.forest q) ∙ ap (λ l. is_some (option_map (λ (l : Label). l.kind) l)) (one.label q) ∙ is_some-kind_of w.forest q ∙ so in
      two.reads q there ∙ one.reads q so;
  fewer = λ q out. two.fewer q (one.fewer q out);
  stays = λ q low there. two.stays q low (one.stays q low there);
  ups = λ q p low up. two.ups q p low (one.ups q p low up);
  tops = λ q top. two.tops q (one.tops q top);
  caret = λ i format at. two.caret i format (one.caret i format at ∙ at) ∙ one.caret i format at;
  written = two.written ∙ one.written;
}

-- a node that is to go: it is high, empty, and says nothing
record IsEmptyLeaf (high : ℕ → Bool) (s k : ℕ) (w : Working) : Type 0 where
  high_up : high k ≡ true
  leaf : children_of w.forest k ≡ []
  silent : said w.forest k ≡ []
  other : k ≢ s

taken_is : (k : ℕ) (w v : Working) → take_step k (sent_away k w) ≡ Ok v → v.forest ≡ take_out k w.forest
taken_is k w v e = taken-forest k (sent_away k w) v e ∙ ap (take_out k) (sent_away-forest k w)

one_gone : (high : ℕ → Bool) (s k : ℕ) (w v : Working) → Rises high s w → IsEmptyLeaf high s k w → take_step k (sent_away k w) ≡ Ok v
    → GoneUp high s w v
one_gone high s k w v r is e =
    let f : Forest = w.forest in
    let h = r.order in
    let forest = taken_is k w v e in
    let took = took_it k s w v (λ same. is.other (sym same)) e in
    let attached : (q : ℕ) → is_attached v.forest q ≡ (is_attached f q && (is_within f k 0 || not (is_within f k q))) =
    λ q. ap (λ g. is_attached g q) forest ∙ is_within-take_out k f 0 q h in
    let out : is_within f k s ≡ false = is_within-leaf f k s h is.leaf ∙ grind (arith, is.other, eqb_tells s k) in
    record {
      order = subst IsForest (sym forest) (IsForest-take_out k f h);
      label = λ q. ap (λ g. label_of g q) forest ∙ label_of-take_out k f q h;
      others = λ q low.
          let none : is_among k (children_of f q) ≡ false = elim (cases_Bool (is_among k (children_of f q))) [
            | inl bad ↦ absurd (let no : false ≡ true = sym low ∙ r.above k q is.high_up (parent_here f q k h bad) in cc)
            | inr fine ↦ fine
          ] in
          ap (λ g. children_of g q) forest ∙ children_of-take_out k f q h ∙ names_without-absent_list k (children_of f q) none;
      within = λ q. ap (λ g. is_within g q s) forest ∙ is_within-take_out k f q s h ∙ grind (arith, out);
      cuts = λ q left rest inside keys away.
          let apart : q ≢ k = λ same. absurd (grind (arith, inside, out, ap (λ x. is_within f x s) same)) in
          subst (λ g. CutAlike f g s q left rest) (sym forest) (leaf_out k s f q left rest h is.leaf is.silent is.other inside apart keys away);
      reads = λ q so. ap (λ g. read_in g q) forest ∙ leaf_reads k f q h is.leaf is.silent so;
      fewer = λ q out. attached q ∙ grind (arith, out);
      stays = λ q low there.
          let apart : q ≢ k = λ same. absurd (grind (arith, low, is.high_up, ap high same)) in
          attached q ∙ grind (arith, there, apart, is_within-leaf f k q h is.leaf, eqb_tells q k);
      ups = λ q p low up.
          let apart : q ≢ k = λ same. absurd (grind (arith, low, is.high_up, ap high same)) in
          ap (λ g. parent_of g q) forest ∙ parent_of-take_out k f q h ∙ grind (arith, up, apart, eqb_tells q k);
      tops = λ q top. ap (λ g. parent_of g q) forest ∙ parent_of-take_out k f q h ∙ grind (arith, top, eqb_tells q k);
      caret = took.caret;
      written = took.written;
    }

rises_on : (high : ℕ → Bool) (s k : ℕ) (w v : Working) → Rises high s w → take_step k (sent_away k w) ≡ Ok v → Rises high s v
rises_on high s k w v r e =
    let forest = taken_is k w v e in
    record {
      order = subst IsForest (sym forest) (IsForest-take_out k w.forest r.order);
      suited = subst IsSuited (sym forest) (IsSuited-take_out w.forest k r.order r.suited);
      text = ap (λ g. kind_of g s) forest ∙ kind_of-take_out k w.forest s r.order ∙ r.text;
      above = λ x p up at.
          let old : cond (eqb x k) None (parent_of w.forest x) ≡ Some p =
          sym (parent_of-take_out k w.forest x r.order) ∙ ap (λ g. parent_of g x) (sym forest) ∙ at in
          r.above x p up (some_of (eqb x k) (parent_of w.forest x) p old);
    } where
      some_of : (b : Bool) (o : Option ℕ) (p : ℕ) → cond b None o ≡ Some p → o ≡ Some p
      some_of true o p e = absurd (cc)
      some_of false o p e = e

-- the parent, and what is above that
record StepsUp (f : Forest) (k p : ℕ) (above : List ℕ) : Type 0 where
  up : parent_of f k ≡ Some p
  rest : above ≡ ancestors f p

steps_up : (f : Forest) (k p : ℕ) (above : List ℕ) → IsForest f → p ∷ above ≡ ancestors f k → StepsUp f k p above
steps_up f k p above h e = elim (cases_option (parent_of f k)) [
  | inl top ↦ absurd (let bad : p ∷ above ≡ [] = e ∙ ancestors-top f k top in cc)
  | inr (x, up) ↦
      let both : p ∷ above ≡ x ∷ ancestors f x = e ∙ ancestors-step f k x h up in
      let head : p ≡ x = cc in
      let tail : above ≡ ancestors f x = cc in
      record { up = up ∙ ap (λ n. Some n) (sym head); rest = tail ∙ ap (ancestors f) (sym head) }
]

empty_above : (high : ℕ → Bool) (s p : ℕ) (inner : Option Kind) (u : Working) → Rises high s u → high p ≡ true → goes_too inner u.forest p ≡ true
    → IsEmptyLeaf high s p u
empty_above high s p inner u r up goes =
    let left : may_not_be_left (kind_of u.forest p) inner ≡ true = grind (arith, goes) in
    record {
      high_up = up;
      leaf = nil_from_length (children_of u.forest p) (grind (arith, goes, eqb_tells (length (children_of u.forest p)) 0));
      silent = goer_silent u.forest p inner r.suited left;
      other = goer_no_text u.forest p s inner r.text left;
    }

goes_on : (high : ℕ → Bool) (s p : ℕ) (above : List ℕ) (inner : Option Kind) (u v : Working) (goes : Bool) → Rises high s u → high p ≡ true
    → (IsEmptyLeaf high s p u → removed p above u ≡ Ok v → GoneUp high s u v) → goes_too inner u.forest p ≡ goes
    → cond goes (removed p above u) (Ok u) ≡ Ok v → GoneUp high s u v
goes_on high s p above inner u v false r up again is e = let same : u ≡ v = cc in none_gone high s u v r.order same
goes_on high s p above inner u v true r up again is e = again (empty_above high s p inner u r up is) e

-- what goes has no parent then
parent_gone : (k : ℕ) (w v : Working) → IsForest w.forest → take_step k (sent_away k w) ≡ Ok v → parent_of v.forest k ≡ None
parent_gone k w v h e = ap (λ g. parent_of g k) (taken_is k w v e) ∙ parent_of-take_out k w.forest k h ∙ grind (arith, eqb_tells k k)

gone_up : (high : ℕ → Bool) (s k : ℕ) (above : List ℕ) (w v : Working) → Rises high s w → IsEmptyLeaf high s k w → above ≡ ancestors w.forest k
    → removed k above w ≡ Ok v → GoneUp high s w v × (parent_of v.forest k ≡ None)
gone_up high s k [] w v r is way e = (one_gone high s k w v r is e, parent_gone k w v r.order e)
gone_up high s k (p ∷ above) w v r is way e =
    let inner : Option Kind = kind_of w.forest k in
    let a = first_part (take_step k (sent_away k w)) (λ u. cond (goes_too inner u.forest p) (removed p above u) (Ok u)) v e in
    let u : Working = a.0 in
    let rises = rises_on high s k w u r a.1 in
    let step = steps_up w.forest k p above r.order way in
    let on : above ≡ ancestors u.forest p =
    step.rest ∙ sym (ap (λ g. ancestors g p) (taken_is k w u a.1)
    ∙ ancestors-take_out_outside k w.forest p r.order (is_within-parent w.forest k p r.order step.up)) in
    let rest = goes_on high s p above inner u v (goes_too inner u.forest p) rises (r.above k p is.high_up step.up)
    (λ leaf f. (gone_up high s p above u v rises leaf on f).0) refl a.2 in
    (gone_twice high s w u v (one_gone high s k w u r is a.1) rest, rest.tops k (parent_gone k w u r.order a.1))

-- an empty node that says nothing is removed
pub empty_gone : (high : ℕ → Bool) (s k : ℕ) (w v : Working) → Rises high s w → high k ≡ true → children_of w.forest k ≡ [] → said w.forest k ≡ []
    → k ≢ s → remove_step k w ≡ Ok v → GoneUp high s w v × (parent_of v.forest k ≡ None)
unfolding remove_step
empty_gone high s k w v r up leaf silent other e =
    gone_up high s k (ancestors w.forest k) w v r (record { high_up = up; leaf = leaf; silent = silent; other = other }) refl e
