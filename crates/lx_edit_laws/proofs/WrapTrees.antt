-- A node that was put somewhere, or moved, in a forest; and what undoes that.
use Rattle.std.proofs.Common.{◌≡◌, ◌≢◌, ◌∙◌, ℕ, true, false, cond, eqb, [], ◌∷◌, Option, None, Some, refl, sym, ap, ap₂, subst, arith}
use Rattle.std.specs.Prelude.{option_map}
use Rattle.std.proofs.lemmas.Bool.Decides.{eqb_tells}
use Rattle.lx_trees.specs.Siblings.{is_among, next_in, names_without, names_with}
use Rattle.lx_trees.specs.Spots.{Spot, parent_at, children_at}
use Rattle.lx_trees.proofs.Siblings.{names_without-absent_list}
use Rattle.lx_trees.proofs.Positions.{names_without-names_with}
use Rattle.lx_forest.specs.Forest.{Forest, Label}
use Rattle.lx_forest.specs.Lookups.{spot, label_of, parent_of, children_of, IsForest}
use Rattle.lx_forest.specs.Edits.{take_out, put_in, CanPut}
use Rattle.lx_forest.proofs.Lookups.{is_among-children_of, parent_of-self, NoRepeats-children_of, label_of-take_out, label_of-put_in, parent_of-take_out, parent_of-put_in, children_of-take_out, children_of-put_in}
use Rattle.lx_forest.proofs.Within.{is_within-self}
use Rattle.lx_forest.proofs.Order.{IsForest-take_out, IsForest-put_in, same_forest}
use Rattle.lx_edit_laws.proofs.WrapLists.{where_it_was, swapped}

-- ---- keys

pub own : (q : ℕ) → eqb q q ≡ true
own q = grind (arith, eqb_tells q q)

pub different : (q k : ℕ) → q ≢ k → eqb q k ≡ false
different q k other = grind (arith, other, eqb_tells q k)

-- a node is below one parent alone
pub not_child : (f : Forest) (k p q : ℕ) → IsForest f → parent_of f k ≡ Some p → p ≢ q → is_among k (children_of f q) ≡ false
not_child f k p q h up other = is_among-children_of f k q h ∙ rw up (different q p (λ e. other (sym e)))

-- ---- forests that are read alike

-- two nodes with the same label, parent and children stand alike
pub same_spot_by : (o r : Option (Spot Label)) → option_map (λ (s : Spot Label). s.label) o ≡ option_map (λ (s : Spot Label). s.label) r
    → parent_at o ≡ parent_at r → children_at o ≡ children_at r → o ≡ r
same_spot_by None None a b c = refl
same_spot_by (Some s) (Some t) a b c =
    let labels : s.label ≡ t.label = cc in
    ap (λ x. let made : Spot Label = record { label = x; parent = s.parent; children = s.children } in Some made) labels
    ∙ ap₂ (λ x y. let made : Spot Label = record { label = t.label; parent = x; children = y } in Some made) b c
same_spot_by o r a b c = absurd (cc)

pub same_reads : (f g : Forest) → IsForest f → IsForest g → ((q : ℕ) → label_of f q ≡ label_of g q) → ((q : ℕ) → parent_of f q ≡ parent_of g q)
    → ((q : ℕ) → children_of f q ≡ children_of g q) → f ≡ g
same_reads f g h j labels parents children = same_forest f g h j (λ q. same_spot_by (spot f q) (spot g q) (labels q) (parents q) (children q))

-- to take out what was put in undoes that
take-put : (f : Forest) (p k : ℕ) (before : Option ℕ) → IsForest f → CanPut p k f → take_out k (put_in p before k f) ≡ f
take-put f p k before h can =
    let g : Forest = put_in p before k f in
    let order : IsForest g = IsForest-put_in p before k f h can in
    same_reads (take_out k g) f (IsForest-take_out k g order) h
    (λ q. label_of-take_out k g q order ∙ label_of-put_in p before k f q h can)
    (λ q. parent_of-take_out k g q order ∙ grind (arith, parent_of-put_in p before k f q h can, can.detached, eqb_tells q k))
    (λ q. let ks = children_of f q in children_of-take_out k g q order ∙ ap (names_without k) (children_of-put_in p before k f q h can)
    ∙ grind (arith, is_among-children_of f k q h, can.detached, names_without-names_with before k ks, names_without-absent_list k ks, eqb_tells q p))

-- ---- a node that is moved

-- the node k came from below another among the children of p
pub record WasMoved (f g : Forest) (p k : ℕ) (before : Option ℕ) : Type 0 where
  pub above : ℕ
  pub up : parent_of f k ≡ Some above
  pub can : CanPut p k (take_out k f)
  pub is : g ≡ put_in p before k (take_out k f)

-- what is read of any node then
module _ (f g : Forest) (p k : ℕ) (before : Option ℕ) (h : IsForest f) (m : WasMoved f g p k before) where
  out_order : IsForest (take_out k f)
  out_order = IsForest-take_out k f h

  pub IsForest-moved : IsForest g
  IsForest-moved = subst IsForest (sym m.is) (IsForest-put_in p before k (take_out k f) out_order m.can)

  pub label_of-moved : (q : ℕ) → label_of g q ≡ label_of f q
  label_of-moved q = ap (λ x. label_of x q) m.is ∙ label_of-put_in p before k (take_out k f) q out_order m.can ∙ label_of-take_out k f q h

  pub parent_of-moved : (q : ℕ) → parent_of g q ≡ cond (eqb q k) (Some p) (parent_of f q)
  parent_of-moved q =
      ap (λ x. parent_of x q) m.is
      ∙ grind (arith, parent_of-put_in p before k (take_out k f) q out_order m.can, parent_of-take_out k f q h, eqb_tells q k)

  pub children_of-moved : (q : ℕ)
      → children_of g q ≡ cond (eqb q p) (names_with before (k ∷ []) (names_without k (children_of f q))) (names_without k (children_of f q))
  children_of-moved q =
      ap (λ x. children_of x q) m.is ∙ children_of-put_in p before k (take_out k f) q out_order m.can
      ∙ ap (λ xs. cond (eqb q p) (names_with before (k ∷ []) xs) xs) (children_of-take_out k f q h)

  -- without the node it is the old forest without it
  pub take-moved : take_out k g ≡ take_out k f
  take-moved = ap (take_out k) m.is ∙ take-put (take_out k f) p k before out_order m.can

  -- so one that moves twice moves once
  pub moved_twice : (u : Forest) (to : ℕ) (next : Option ℕ) → WasMoved g u to k next → WasMoved f u to k next
  moved_twice u to next n = record {
    above = m.above;
    up = m.up;
    can = subst (CanPut to k) take-moved n.can;
    is = n.is ∙ ap (put_in to next k) take-moved;
  }

-- one that goes to where it is leaves the forest as it is
pub moved_back : (f u : Forest) (p k : ℕ) → IsForest f → parent_of f k ≡ Some p → WasMoved f u p k (next_in (children_of f p) k) → u ≡ f
moved_back f u p k h up m =
    let next : Option ℕ = next_in (children_of f p) k in
    same_reads u f (IsForest-moved f u p k next h m) h (label_of-moved f u p k next h m)
    (λ q. grind (arith, parent_of-moved f u p k next h m q, up, eqb_tells q k))
    (λ q. let ks = children_of f q in let stays = where_it_was k ks (NoRepeats-children_of f q h) in children_of-moved f u p k next h m q
    ∙ grind (arith, up, is_among-children_of f k q h, stays, names_without-absent_list k ks, eqb_tells q p, eqb_tells p p))

-- ---- a detached node that is put before another

abbrev pub beside : ℕ → ℕ → ℕ → Forest → Forest
beside p k new f = put_in p (Some k) new f

-- the new one may come before k, which is a child of p
pub record MayStandBefore (f : Forest) (p k new : ℕ) : Type 0 where
  pub in_order : IsForest f
  pub up : parent_of f k ≡ Some p
  pub can : CanPut p new f

module _ (f : Forest) (p k new : ℕ) (s : MayStandBefore f p k new) where
  -- the three are three
  pub not_new : p ≢ new
  not_new e = absurd (grind (arith, e, s.can.outside, is_within-self f new, s.can.there))

  pub not_self : p ≢ k
  not_self e = absurd (grind (arith, e, s.up, parent_of-self f k s.in_order, eqb_tells p k))

  pub apart : k ≢ new
  apart e = absurd (grind (arith, e, s.up, s.can.detached))

  pub beside-order : IsForest (beside p k new f)
  beside-order = IsForest-put_in p (Some k) new f s.in_order s.can

  pub beside-label : (q : ℕ) → label_of (beside p k new f) q ≡ label_of f q
  beside-label q = label_of-put_in p (Some k) new f q s.in_order s.can

  pub beside-parent : (q : ℕ) → parent_of (beside p k new f) q ≡ cond (eqb q new) (Some p) (parent_of f q)
  beside-parent q = parent_of-put_in p (Some k) new f q s.in_order s.can

  pub beside-children : (q : ℕ) → children_of (beside p k new f) q ≡ cond (eqb q p) (names_with (Some k) (new ∷ []) (children_of f q)) (children_of f q)
  beside-children q = children_of-put_in p (Some k) new f q s.in_order s.can

  -- p is the parent of both
  pub beside-up : parent_of (beside p k new f) k ≡ Some p
  beside-up = grind (arith, beside-parent k, apart, s.up, eqb_tells k new)

  pub beside-up_new : parent_of (beside p k new f) new ≡ Some p
  beside-up_new = grind (arith, beside-parent new, eqb_tells new new)

  -- any other node has the children that it had
  pub beside-elsewhere : (q : ℕ) → q ≢ p → children_of (beside p k new f) q ≡ children_of f q
  beside-elsewhere q other = grind (arith, beside-children q, other, eqb_tells q p)

  -- where k comes before the new one, and that is taken out, the forest is the old one
  pub stood_aside : (u : Forest) → WasMoved (beside p k new f) u p k (Some new) → take_out new u ≡ f
  stood_aside u m =
      let b : Forest = beside p k new f in
      let order : IsForest u = IsForest-moved b u p k (Some new) beside-order m in
      same_reads (take_out new u) f (IsForest-take_out new u order) s.in_order
      (λ q. label_of-take_out new u q order ∙ label_of-moved b u p k (Some new) beside-order m q ∙ beside-label q)
      (λ q. parent_of-take_out new u q order
      ∙ grind (arith, parent_of-moved b u p k (Some new) beside-order m q, beside-parent q, s.can.detached, s.up, eqb_tells q new, eqb_tells q k))
      (λ q. let ks = children_of f q in
      let gone : (c : ℕ) → is_among c ks ≡ false → names_without c ks ≡ ks = λ c. names_without-absent_list c ks in
      let swap = swapped k new ks (NoRepeats-children_of f q s.in_order) in
      let nobodys : is_among new ks ≡ false = grind (arith, s.can.detached, is_among-children_of f new q s.in_order) in
      children_of-take_out new u q order
      ∙ ap (names_without new) (children_of-moved b u p k (Some new) beside-order m q
      ∙ ap (λ xs. cond (eqb q p) (names_with (Some new) (k ∷ []) (names_without k xs)) (names_without k xs)) (beside-children q))
      ∙ grind (arith, apart, s.up, nobodys, is_among-children_of f k q s.in_order, swap, gone k, gone new, eqb_tells q p, eqb_tells p q))
