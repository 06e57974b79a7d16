-- What nodes that are moved one after another leave of a forest, and what is left where one is removed.
use Rattle.std.proofs.Common.{◌≡◌, ◌≢◌, ◌∙◌, ℕ, Bool, true, false, cond, eqb, not, List, [], ◌∷◌, ◌++◌, length, Option, None, Some, Ok, refl, sym, ap, subst, arith, append_assoc}
use Rattle.std.specs.List.{filter}
use Rattle.std.proofs.lemmas.List.{append-nil, nil_from_length}
use Rattle.std.proofs.lemmas.Bool.Decides.{eqb_tells}
use Rattle.lx_trees.specs.Siblings.{is_among, NoRepeats, names_without, names_with}
use Rattle.lx_node.specs.declared.kind.Kind.{Kind}
use Rattle.lx_trees.proofs.Siblings.{is_among-names_without, names_without-absent_list}
use Rattle.lx_forest.specs.Forest.{Forest}
use Rattle.lx_forest.specs.Lookups.{label_of, kind_of, parent_of, children_of, ancestors, IsForest}
use Rattle.lx_forest.specs.Edits.{take_out}
use Rattle.lx_forest.proofs.Lookups.{children_of-take_out}
use Rattle.lx_forest.proofs.Order.{IsForest-take_out}
use Rattle.lx_forest.proofs.Walks.{ancestors-step}
use Rattle.lx_draft.specs.Working.{Working}
use Rattle.lx_draft.specs.Faults.{text_in}
use Rattle.lx_draft.specs.Steps.{take_step}
use Rattle.lx_edit.specs.InTurn.{in_turn}
use Rattle.lx_edit.specs.Edits.{moved_before, moved_to_end, sent_away, goes_too, removed, remove_step}
use Rattle.lx_edit.specs.Texts.{text_or_none}
use Rattle.lx_edit.proofs.Climbed.{first_part, sent_away-forest, taken-forest}
use Rattle.lx_edit_laws.specs.Reading.{text_at, read_below}
use Rattle.lx_edit_laws.proofs.Reading.{read-leaf}
use Rattle.lx_edit_laws.proofs.WrapLists.{names_with-twice, names_with-none, names_with-end, filter-kept, filter-without}
use Rattle.lx_edit_laws.proofs.WrapTrees.{not_child, IsForest-moved, label_of-moved, parent_of-moved, children_of-moved}
use Rattle.lx_edit_laws.proofs.WrapReads.{HasFirst, first_other, left_behind, come_ahead, read_ahead}
use Rattle.lx_edit_laws.proofs.WrapSteps.{was_same, was_moved_to_end, was_moved_before, silent_gone}

-- ---- to the end of a node's children

-- Some children of a node went after those of another, and nothing else changed.
pub record WentOver (f g : Forest) (from to : ℕ) (ks : List ℕ) : Type 0 where
  pub in_order : IsForest g
  pub label : (q : ℕ) → label_of g q ≡ label_of f q
  pub up : (q : ℕ) → parent_of g q ≡ cond (is_among q ks) (Some to) (parent_of f q)
  pub there : children_of g to ≡ children_of f to ++ ks
  pub left : children_of g from ≡ filter (λ q. not (is_among q ks)) (children_of f from)
  pub others : (q : ℕ) → q ≢ from → q ≢ to → children_of g q ≡ children_of f q

pub went_over : (from to : ℕ) (ks : List ℕ) (w v : Working) → IsForest w.forest → from ≢ to → NoRepeats ks
    → ((c : ℕ) → is_among c ks ≡ true → parent_of w.forest c ≡ Some from) → in_turn (moved_to_end to) ks w ≡ Ok v → WentOver w.forest v.forest from to ks
unfolding in_turn
went_over from to [] w v h two once up e =
    subst (λ (x : Working). WentOver w.forest x.forest from to []) (was_same w v e) (record {
      in_order = h;
      label = λ q. refl;
      up = λ q. refl;
      there = sym (append-nil (children_of w.forest to));
      left = sym (filter-kept (λ q. true) (children_of w.forest from) (λ q among. refl));
      others = λ q a b. refl;
    })
went_over from to (k ∷ ks) w v h two once up e =
    let f : Forest = w.forest in
    let a = first_part (moved_to_end to k w) (in_turn (moved_to_end to) ks) v e in
    let g : Forest = a.0.forest in
    let m = was_moved_to_end to k w a.0 a.1 in
    let above : parent_of f k ≡ Some from = up k (grind (arith, eqb_tells k k)) in
    let still : (q : ℕ) → from ≢ q → names_without k (children_of f q) ≡ children_of f q =
    λ q other. names_without-absent_list k (children_of f q) (not_child f k from q h above other) in
    let later : (c : ℕ) → is_among c ks ≡ true → parent_of g c ≡ Some from =
    λ c among. parent_of-moved f g to k None h m c ∙ grind (arith, among, once.0, eqb_tells c k, up c) in
    let rest = went_over from to ks a.0 v (IsForest-moved f g to k None h m) two once.1 later a.2 in
    let there : children_of g to ≡ children_of f to ++ (k ∷ []) =
    grind (arith, children_of-moved f g to k None h m to, still to two, names_with-end k (children_of f to), eqb_tells to to) in
    let left : children_of g from ≡ names_without k (children_of f from) = grind (arith, children_of-moved f g to k None h m from, two, eqb_tells from to) in
    record {
      in_order = rest.in_order;
      label = λ q. rest.label q ∙ label_of-moved f g to k None h m q;
      up = λ q. rest.up q ∙ ap (cond (is_among q ks) (Some to)) (parent_of-moved f g to k None h m q) ∙ grind (arith, eqb_tells q k, eqb_tells k q);
      there = rest.there ∙ ap (λ xs. xs ++ ks) there ∙ append_assoc (children_of f to) (k ∷ []) ks;
      left = rest.left ∙ ap (filter (λ q. not (is_among q ks))) left ∙ filter-without k ks (children_of f from);
      others = λ q x y. rest.others q x y ∙ grind (arith, children_of-moved f g to k None h m q, still q (λ e. x (sym e)), y, eqb_tells q to);
    }

-- ---- before their parent

-- the children of k came before it, and it has none
pub record CameBefore (f g : Forest) (p k : ℕ) (ks : List ℕ) : Type 0 where
  pub in_order : IsForest g
  pub up : parent_of g k ≡ Some p
  pub none : children_of g k ≡ []
  pub there : children_of g p ≡ names_with (Some k) ks (children_of f p)
  pub label : (q : ℕ) → label_of g q ≡ label_of f q
  pub read : text_at f k ≡ [] → (b : ℕ) → b ≢ k → read_below g b ≡ read_below f b

-- and each of them
pub came_before : (p k : ℕ) (ks : List ℕ) (w v : Working) → IsForest w.forest → parent_of w.forest k ≡ Some p → children_of w.forest k ≡ ks
    → in_turn (moved_before k) ks w ≡ Ok v → CameBefore w.forest v.forest p k ks
unfolding in_turn
came_before p k [] w v h up below e =
    subst (λ (x : Working). CameBefore w.forest x.forest p k []) (was_same w v e) (record {
      in_order = h;
      up = up;
      none = below;
      there = sym (names_with-none k (children_of w.forest p));
      label = λ q. refl;
      read = λ silent b other. refl;
    })
came_before p k (c ∷ cs) w v h up below e =
    let f : Forest = w.forest in
    let s : HasFirst f p k c cs = record { in_order = h; up = up; below = below } in
    let other : k ≢ c = first_other f p k c cs s in
    let a = first_part (moved_before k c w) (in_turn (moved_before k) cs) v e in
    let g : Forest = a.0.forest in
    let m = was_moved_before k c p w a.0 h up other a.1 in
    let still : parent_of g k ≡ Some p = parent_of-moved f g p c (Some k) h m k ∙ grind (arith, up, other, eqb_tells k c) in
    let rest = came_before p k cs a.0 v (IsForest-moved f g p c (Some k) h m) still (left_behind f g p k c cs s m) a.2 in
    let same : (q : ℕ) → label_of g q ≡ label_of f q = λ q. label_of-moved f g p c (Some k) h m q in
    record {
      in_order = rest.in_order;
      up = rest.up;
      none = rest.none;
      there = rest.there ∙ ap (names_with (Some k) cs) (come_ahead f g p k c cs s m)
          ∙ names_with-twice k c cs (children_of f p) (grind (arith, other, eqb_tells c k));
      label = λ q. rest.label q ∙ same q;
      read = λ silent b away.
          rest.read (ap (λ o. text_or_none (text_in o)) (same k) ∙ silent) b away ∙ read_ahead f g p k c cs s m silent b away;
    }

-- ---- removed

taken_alone : (k : ℕ) (w v : Working) → take_step k (sent_away k w) ≡ Ok v → v.forest ≡ take_out k w.forest
taken_alone k w v e = taken-forest k (sent_away k w) v e ∙ ap (take_out k) (sent_away-forest k w)

not_empty : (xs : List ℕ) (s : ℕ) → is_among s xs ≡ true → eqb (length xs) 0 ≡ false
not_empty [] s among = absurd (cc)
not_empty (x ∷ xs) s among = grind arith

-- where another child is left, nothing above goes too
pub left_alone : (k p s : ℕ) (w v : Working) → IsForest w.forest → parent_of w.forest k ≡ Some p → is_among s (children_of w.forest p) ≡ true → s ≢ k
    → remove_step k w ≡ Ok v → take_step k (sent_away k w) ≡ Ok v
unfolding remove_step
left_alone k p s w v h up among other e =
    let above : removed k (p ∷ ancestors w.forest p) w ≡ Ok v = ap (λ ks. removed k ks w) (sym (ancestors-step w.forest k p h up)) ∙ e in
    let a = first_part (take_step k (sent_away k w)) (λ u. cond (goes_too (kind_of w.forest k) u.forest p) (removed p (ancestors w.forest p) u) (Ok u)) v
    above in
    let left : is_among s (children_of a.0.forest p) ≡ true =
    ap (λ f. is_among s (children_of f p)) (taken_alone k w a.0 a.1) ∙ ap (is_among s) (children_of-take_out k w.forest p h)
    ∙ is_among-names_without k s (children_of w.forest p) ∙ grind (arith, among, other, eqb_tells s k) in
    let stays : goes_too (kind_of w.forest k) a.0.forest p ≡ false = grind (arith, not_empty (children_of a.0.forest p) s left) in
    a.1 ∙ sym (ap (λ b. cond b (removed p (ancestors w.forest p) a.0) (Ok a.0)) stays) ∙ a.2

pub removed_alone : (k p s : ℕ) (w v : Working) → IsForest w.forest → parent_of w.forest k ≡ Some p → is_among s (children_of w.forest p) ≡ true → s ≢ k
    → remove_step k w ≡ Ok v → v.forest ≡ take_out k w.forest
removed_alone k p s w v h up among other e = taken_alone k w v (left_alone k p s w v h up among other e)

-- what goes too has no children and no text
goes_silent : (inner : Option Kind) (f : Forest) (p : ℕ) → IsForest f → goes_too inner f p ≡ true → read_below f p ≡ []
goes_silent inner f p h e =
    read-leaf f p h (nil_from_length (children_of f p) (grind (arith, e, eqb_tells (length (children_of f p)) 0))) ∙ silent_gone f p inner (grind (arith, e))

-- what holds of a forest and itself, of one change after another, and where a tree is taken out in which nothing is read
pub record HoldsAsSilentGo (P : Forest → Forest → Type 0) : Type 0 where
  pub self : (f : Forest) → P f f
  pub then : (f g h : Forest) → P f g → P g h → P f h
  pub out : (k : ℕ) (f : Forest) → IsForest f → read_below f k ≡ [] → P f (take_out k f)

goes_on : (P : Forest → Forest → Type 0) → HoldsAsSilentGo P → (inner : Option Kind) (p : ℕ) (above : List ℕ) (u v : Working) (goes : Bool) → IsForest u.forest
    → (read_below u.forest p ≡ [] → removed p above u ≡ Ok v → P u.forest v.forest) → goes_too inner u.forest p ≡ goes
    → cond goes (removed p above u) (Ok u) ≡ Ok v → P u.forest v.forest
goes_on P so inner p above u v false h again is e = subst (λ (x : Working). P u.forest x.forest) (was_same u v e) (so.self u.forest)
goes_on P so inner p above u v true h again is e = again (goes_silent inner u.forest p h is) e

-- holds where such a tree is removed, since nothing is read in what goes too
removed_by : (P : Forest → Forest → Type 0) → HoldsAsSilentGo P → (k : ℕ) (above : List ℕ) (w v : Working) → IsForest w.forest → read_below w.forest k ≡ []
    → removed k above w ≡ Ok v → P w.forest v.forest
removed_by P so k [] w v h silent e = subst (P w.forest) (sym (taken_alone k w v e)) (so.out k w.forest h silent)
removed_by P so k (p ∷ above) w v h silent e =
    let inner : Option Kind = kind_of w.forest k in
    let a = first_part (take_step k (sent_away k w)) (λ u. cond (goes_too inner u.forest p) (removed p above u) (Ok u)) v e in
    let gone : take_out k w.forest ≡ a.0.forest = sym (taken_alone k w a.0 a.1) in
    let order : IsForest a.0.forest = subst IsForest gone (IsForest-take_out k w.forest h) in
    so.then w.forest a.0.forest v.forest (subst (P w.forest) gone (so.out k w.forest h silent))
    (goes_on P so inner p above a.0 v (goes_too inner a.0.forest p) order (λ none f. removed_by P so p above a.0 v order none f) refl a.2)

pub was_removed : (P : Forest → Forest → Type 0) → HoldsAsSilentGo P → (k : ℕ) (w v : Working) → IsForest w.forest → read_below w.forest k ≡ []
    → remove_step k w ≡ Ok v → P w.forest v.forest
unfolding remove_step
was_removed P so k w v h silent e = removed_by P so k (ancestors w.forest k) w v h silent e
