-- Children that go into another node at its end, one after another: they go as each does that is moved to the end, and where a caret goes.
use Rattle.lx_caret.proofs.Fit.{after_tells}
use Rattle.lx_caret.proofs.Moves.{key_of_take}
use Rattle.lx_caret.specs.Deleting.{moved_in}
use Rattle.lx_draft.proofs.Covered.{answered}
use Rattle.lx_draft.specs.Faults.{after, over_counts, put_fault}
use Rattle.lx_draft.specs.Steps.{node_placed, node_taken, put_step, take_points, take_step}
use Rattle.lx_draft.specs.Working.{Working}
use Rattle.lx_edit.specs.Edits.{moved_to_end}
use Rattle.lx_edit.specs.InTurn.{in_turn}
use Rattle.lx_edit_laws.proofs.WrapLists.{names_with-end}
use Rattle.lx_edit_laws.proofs.WrapSteps.{was_moved_to_end, was_same, was_taken}
use Rattle.lx_edit_laws.proofs.WrapTrees.{IsForest-moved, children_of-moved, not_child, parent_of-moved}
use Rattle.lx_forest.proofs.Lookups.{children_of-take_out}
use Rattle.lx_forest.specs.Forest.{Forest}
use Rattle.lx_forest.specs.Lookups.{IsForest, children_of, index_of, parent_of, size_of}
use Rattle.lx_links.specs.Faults.{detach_fault}
use Rattle.lx_node.specs.declared.cause.Point.{Point}
use Rattle.lx_select.specs.Rules.{is_behind, is_counting_children, offset_sum, put_moves, take_moves}
use Rattle.lx_select.specs.Selection.{each_point}
use Rattle.lx_select.specs.declared.selection.Selection.TheVariants.{Range}
use Rattle.lx_select.specs.declared.selection.Selection.{Selection}
use Rattle.lx_trees.proofs.Siblings.{names_without-absent_list}
use Rattle.lx_trees.specs.Siblings.{NoRepeats, is_among, names_without}
use Rattle.std.proofs.Common.{Bool, List, None, Ok, Option, Some, [], ap, arith, cond, eqb, false, inl, inr, length, length-append, refl, subst, sym, true, ℕ, ◌&&◌, ◌++◌, ◌+◌, ◌-◌, ◌∙◌, ◌∷◌, ◌≡◌, ◌≢◌, ◌≤◌}
use Rattle.std.proofs.lemmas.Bool.Decides.{eqb_tells, nat_tests}
use Rattle.std.specs.Option.{option_or}
use Rattle.std.specs.Prelude.{nat_lt}

-- ---- one after another

-- what is known of children that go from one node to another
pub record MayGo (from to index : ℕ) (ks : List ℕ) (w : Working) : Type 0 where
  pub order : IsForest w.forest
  pub apart : from ≢ to
  pub once : NoRepeats ks
  pub up : (c : ℕ) → is_among c ks ≡ true → parent_of w.forest c ≡ Some from
  pub at : index ≡ size_of w.forest to

-- the first of them goes
record FirstGoes (from to index k : ℕ) (ks : List ℕ) (w v : Working) : Type 0 where
  took : Working
  put : Working
  taken : take_step k w ≡ Ok took
  placed : put_step k to index took ≡ Ok put
  one : moved_to_end to k w ≡ Ok put
  rest : moved_in to (index + 1) ks put ≡ Ok v
  may : MayGo from to (index + 1) ks put

first_goes : (from to index k : ℕ) (ks : List ℕ) (w v : Working) → MayGo from to index (k ∷ ks) w → moved_in to index (k ∷ ks) w ≡ Ok v
    → FirstGoes from to index k ks w v
unfolding moved_in moved_to_end
first_goes from to index k ks w v m e =
    let f : Forest = w.forest in
    let a = after_tells (take_step k w) (λ u. after (put_step k to index u) (moved_in to (index + 1) ks)) v e in
    let u : Working = a.0 in
    let b = after_tells (put_step k to index u) (moved_in to (index + 1) ks) v a.1.1 in
    let g : Forest = b.0.forest in
    let taken = was_taken k w u a.1.0 in
    let above : parent_of f k ≡ Some from = m.up k (grind (arith, eqb_tells k k)) in
    let still : names_without k (children_of f to) ≡ children_of f to =
    names_without-absent_list k (children_of f to) (not_child f k from to m.order above m.apart) in
    let same : children_of u.forest to ≡ children_of f to =
    ap (λ x. children_of x to) taken.0 ∙ children_of-take_out k f to m.order ∙ still in
    let size : size_of u.forest to ≡ index = ap length same ∙ sym m.at in
    let one : moved_to_end to k w ≡ Ok b.0 =
    ap (λ r. after r (λ x. put_step k to (size_of x.forest to) x)) a.1.0 ∙ ap (λ n. put_step k to n u) size ∙ b.1.0 in
    let moved = was_moved_to_end to k w b.0 one in
    let there : children_of g to ≡ children_of f to ++ (k ∷ []) =
    grind (arith, children_of-moved f g to k None m.order moved to, still, names_with-end k (children_of f to), eqb_tells to to) in
    record {
      took = u;
      put = b.0;
      taken = a.1.0;
      placed = b.1.0;
      one = one;
      rest = b.1.1;
      may = record {
        order = IsForest-moved f g to k None m.order moved;
        apart = m.apart;
        once = m.once.1;
        up = λ c among. parent_of-moved f g to k None m.order moved c ∙ grind (arith, among, m.once.0, eqb_tells c k, m.up c);
        at = omega (arith, m.at, ap length there, length-append (children_of f to) (k ∷ []));
      };
    }

pub as_moved : (from to index : ℕ) (ks : List ℕ) (w v : Working) → MayGo from to index ks w → moved_in to index ks w ≡ Ok v
    → in_turn (moved_to_end to) ks w ≡ Ok v
unfolding moved_in in_turn
as_moved from to index [] w v m e = e
as_moved from to index (k ∷ ks) w v m e =
    let a = first_goes from to index k ks w v m e in
    ap (λ r. after r (in_turn (moved_to_end to) ks)) a.one ∙ as_moved from to (index + 1) ks a.put v a.may a.rest

-- ---- where a caret goes

-- a point on another node stays, and one on this node stays on it
pub record Stays (from : ℕ) (p q : Point) : Type 0 where
  pub other : p.key ≢ from → q ≡ p
  pub own : p.key ≡ from → q.key ≡ from

pub record CaretStays (from : ℕ) (p : Point) (format : ℕ) (s : Selection) : Type 0 where
  pub point : Point
  pub is : s ≡ Range point point format
  pub stays : Stays from p point

and_none : (a b : Bool) → (a && (false && b)) ≡ false
and_none true b = refl
and_none false b = refl

and_none_last : (a b : Bool) → (a && (b && false)) ≡ false
and_none_last true true = refl
and_none_last true false = refl
and_none_last false b = refl

pub take_apart : (parent index : ℕ) (p : Point) → p.key ≢ parent → take_moves parent index p ≡ p
unfolding take_moves is_behind is_counting_children
take_apart parent index p other =
    let off : eqb p.key parent ≡ false = grind (arith, other, eqb_tells p.key parent) in
    let none : (is_counting_children p.kind && (eqb p.key parent && nat_lt index p.offset)) ≡ false =
    ap (λ t. is_counting_children p.kind && (t && nat_lt index p.offset)) off ∙ and_none (is_counting_children p.kind) (nat_lt index p.offset) in
    let moved : Point = record { key = p.key; offset = p.offset - 1; kind = p.kind } in
    ap (λ t. cond t moved p) none

put_apart : (parent index : ℕ) (p : Point) → (p.key ≡ parent → p.offset ≤ index) → put_moves parent index p ≡ p
unfolding put_moves is_behind is_counting_children
put_apart parent index p at =
    let moved : Point = record { key = p.key; offset = offset_sum p.offset 1; kind = p.kind } in
    elim (eqb_tells p.key parent) [
      | inl own ↦
          let few : nat_lt index p.offset ≡ false = grind (arith, nat_tests, at own.1) in
          let none : (is_counting_children p.kind && (eqb p.key parent && nat_lt index p.offset)) ≡ false =
          ap (λ t. is_counting_children p.kind && (eqb p.key parent && t)) few ∙ and_none_last (is_counting_children p.kind) (eqb p.key parent) in
          ap (λ t. cond t moved p) none
      | inr other ↦
          let none : (is_counting_children p.kind && (eqb p.key parent && nat_lt index p.offset)) ≡ false =
          ap (λ t. is_counting_children p.kind && (t && nat_lt index p.offset)) other.0
          ∙ and_none (is_counting_children p.kind) (nat_lt index p.offset) in
          ap (λ t. cond t moved p) none
    ]

taken_caret : (from : ℕ) (o i : Option ℕ) (p : Point) (format : ℕ) → o ≡ Some from → CaretStays from p format (take_points o i (Range p p format))
taken_caret from None i p format e = absurd (cc)
taken_caret from (Some a) None p format e = record { point = p; is = refl; stays = record { other = λ x. refl; own = λ x. x } }
taken_caret from (Some a) (Some i) p format e =
    let same : a ≡ from = cc in
    record {
      point = take_moves a i p;
      is = refl;
      stays = record {
        other = λ off. take_apart a i p (λ x. off (x ∙ same));
        own = λ x. key_of_take a i p ∙ x;
      };
    }

pub take_caret : (from k : ℕ) (p : Point) (format : ℕ) (w v : Working) → parent_of w.forest k ≡ Some from → w.selection ≡ Range p p format
    → take_step k w ≡ Ok v → CaretStays from p format v.selection
unfolding take_step
take_caret from k p format w v up at e =
    let told = answered (option_or (detach_fault k w.forest) (over_counts w)) (node_taken k w) v e in
    subst (CaretStays from p format) (ap (λ (x : Working). x.selection) told.1)
    (subst (λ s. CaretStays from p format (take_points (parent_of w.forest k) (index_of w.forest k) s)) (sym at)
    (taken_caret from (parent_of w.forest k) (index_of w.forest k) p format up))

put_caret : (k to index : ℕ) (p : Point) (format : ℕ) (w v : Working) → (p.key ≡ to → p.offset ≤ index) → w.selection ≡ Range p p format
    → put_step k to index w ≡ Ok v → v.selection ≡ Range p p format
unfolding put_step
put_caret k to index p format w v few at e =
    let told = answered (option_or (put_fault k to index w.forest) (over_counts w)) (node_placed k to index w) v e in
    ap (λ (x : Working). x.selection) (sym told.1) ∙ ap (λ s. each_point (put_moves to index) s) at
    ∙ ap (λ q. Range q q format) (put_apart to index p few)

stays_then : (from : ℕ) (p q r : Point) → Stays from p q → Stays from q r → Stays from p r
stays_then from p q r one two = record {
  other = λ off. two.other (λ x. off (ap (λ (y : Point). y.key) (sym (one.other off)) ∙ x)) ∙ one.other off;
  own = λ x. two.own (one.own x);
}

pub caret_goes : (from to index : ℕ) (ks : List ℕ) (p : Point) (format : ℕ) (w v : Working) → MayGo from to index ks w
    → w.selection ≡ Range p p format → (p.key ≡ to → p.offset ≤ index) → moved_in to index ks w ≡ Ok v → CaretStays from p format v.selection
unfolding moved_in
caret_goes from to index [] p format w v m at few e =
    let same : w ≡ v = was_same w v e in
    record { point = p; is = ap (λ (x : Working). x.selection) (sym same) ∙ at; stays = record { other = λ x. refl; own = λ x. x } }
caret_goes from to index (k ∷ ks) p format w v m at few e =
    let a = first_goes from to index k ks w v m e in
    let t = take_caret from k p format w a.took (m.up k (grind (arith, eqb_tells k k))) at a.taken in
    let q : Point = t.point in
    let few_q : q.key ≡ to → q.offset ≤ index = λ on. elim (eqb_tells p.key from) [
      | inl own ↦ absurd (m.apart (sym (t.stays.own own.1) ∙ on))
      | inr other ↦
          let same : q ≡ p = t.stays.other other.1 in
          subst (λ (x : Point). x.offset ≤ index) (sym same) (few (ap (λ (x : Point). x.key) (sym same) ∙ on))
    ] in
    let placed = put_caret k to index q format a.took a.put few_q t.is a.placed in
    let more = caret_goes from to (index + 1) ks q format a.put v a.may placed (λ on. omega (arith, few_q on)) a.rest in
    record { point = more.point; is = more.is; stays = stays_then from p q more.point t.stays more.stays }
