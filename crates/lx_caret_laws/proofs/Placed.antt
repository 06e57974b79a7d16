-- A new node comes among the children of another: what is where then.
use Rattle.lx_draft.proofs.Covered.{answered}
use Rattle.lx_draft.specs.Beside.{before_at, behind_at, put_before_step, put_behind_step}
use Rattle.lx_draft.specs.Covering.{IsReady}
use Rattle.lx_draft.specs.Faults.{over_limits}
use Rattle.lx_draft.specs.Steps.{made, new_step, put_step}
use Rattle.lx_draft.specs.Working.{Working}
use Rattle.lx_edit_laws.proofs.Reading.{absent}
use Rattle.lx_edit_laws.proofs.ReadingPlaces.{names_with-behind}
use Rattle.lx_edit_laws.proofs.WrapSteps.{was_put}
use Rattle.lx_edit_laws.specs.Reading.{in_place_of}
use Rattle.lx_forest.proofs.Lookups.{NoRepeats-children_of, children_of-put_in, children_of-with_new, label_of-put_in, label_of-with_new, parent_of-with_new}
use Rattle.lx_forest.proofs.Order.{IsForest-put_in, IsForest-with_new}
use Rattle.lx_forest.proofs.Within.{is_within-self}
use Rattle.lx_forest.specs.Edits.{CanPut, put_in, with_new}
use Rattle.lx_forest.specs.Forest.{Forest, Label}
use Rattle.lx_forest.specs.Lookups.{IsForest, children_below, children_of, has, index_of, label_of, parent_of}
use Rattle.lx_node.specs.Strings.{characters_of}
use Rattle.lx_node.specs.declared.fields.Fields.{Fields}
use Rattle.lx_node.specs.declared.kind.Kind.{Kind}
use Rattle.lx_trees.proofs.Positions.{slice_get-index_in}
use Rattle.lx_trees.proofs.Siblings.{is_some-index_in}
use Rattle.lx_trees.specs.Siblings.{index_in, is_among, names_with}
use Rattle.std.proofs.Common.{List, Ok, Option, Some, [], ap, append_assoc, arith, cond, eqb, false, inl, inr, refl, subst, sym, true, ℕ, ◌++◌, ◌+◌, ◌∙◌, ◌∷◌, ◌≡◌, ◌≢◌}
use Rattle.std.proofs.lemmas.Bool.Decides.{eqb_tells}
use Rattle.std.specs.Prelude.{is_some, slice_get}

-- ---- the forest

-- a new node came among the children of p, before this one
pub record IsPlaced (f g : Forest) (p n : ℕ) (before : Option ℕ) (l : Label) : Type 0 where
  pub ordered : IsForest g
  pub labels : (q : ℕ) → has q f ≡ true → label_of g q ≡ label_of f q
  pub new : label_of g n ≡ Some l
  pub bare : children_of g n ≡ []
  pub order : children_of g p ≡ names_with before (n ∷ []) (children_of f p)
  pub children : (q : ℕ) → q ≢ p → children_of g q ≡ children_of f q

placed : (f : Forest) (l : Label) (p : ℕ) (before : Option ℕ) → IsForest f → has l.key f ≡ false → CanPut p l.key (with_new l f)
    → IsPlaced f (put_in p before l.key (with_new l f)) p l.key before l
placed f l p before h free can =
    let n : ℕ = l.key in
    let a : Forest = with_new l f in
    let g : Forest = put_in p before n a in
    let j : IsForest a = IsForest-with_new l f h free in
    let apart : n ≢ p = λ e. absurd (grind (arith, e, can.outside, is_within-self a n, can.there)) in
    let children : (q : ℕ) → q ≢ p → children_of g q ≡ children_of f q =
    λ q other. children_of-put_in p before n a q j can ∙ grind (arith, other, eqb_tells q p, children_of-with_new l f q h free) in
    let own : eqb n n ≡ true = grind (arith, eqb_tells n n) in
    let own_p : eqb p p ≡ true = grind (arith, eqb_tells p p) in
    record {
      ordered = IsForest-put_in p before n a j can;
      labels = λ q so.
          let off : eqb q n ≡ false = grind (arith, so, free, eqb_tells q n) in
          label_of-put_in p before n a q j can ∙ label_of-with_new l f q h free ∙ ap (λ t. cond t (Some l) (label_of f q)) off;
      new = label_of-put_in p before n a n j can ∙ label_of-with_new l f n h free ∙ ap (λ t. cond t (Some l) (label_of f n)) own;
      bare = children n apart ∙ (absent f n free).children;
      order = children_of-put_in p before n a p j can ∙ ap (λ t. cond t (names_with before (n ∷ []) (children_of a p)) (children_of a p)) own_p
          ∙ ap (names_with before (n ∷ [])) (children_of-with_new l f p h free);
      children = children;
    }

-- ---- the steps

abbrev pub label_new : Working → Kind → Fields → Label
label_new s kind x = record { key = s.next_key; kind = kind; fields = x }

pub made_forest : (kind : Kind) (x : Fields) (s m : Working) → new_step kind x s ≡ Ok m → with_new (label_new s kind x) s.forest ≡ m.forest
unfolding new_step
made_forest kind x s m e =
    let told = answered (over_limits (characters_of x) s) (made kind x s) m e in ap (λ (u : Working). u.forest) told.1

pub put_placed : (kind : Kind) (x : Fields) (p index : ℕ) (s m v : Working) → IsReady s → new_step kind x s ≡ Ok m
    → put_step s.next_key p index m ≡ Ok v
    → IsPlaced s.forest v.forest p s.next_key (slice_get (children_of s.forest p) index) (label_new s kind x)
put_placed kind x p index s m v ready new put =
    let l : Label = label_new s kind x in
    let free : has s.next_key s.forest ≡ false = ready.free s.next_key (omega arith) in
    let forest : with_new l s.forest ≡ m.forest = made_forest kind x s m new in
    let was = was_put s.next_key p index m v put in
    let can : CanPut p s.next_key (with_new l s.forest) = subst (CanPut p s.next_key) (sym forest) was.0 in
    let same : children_of m.forest p ≡ children_of s.forest p =
    ap (λ f. children_of f p) (sym forest) ∙ children_of-with_new l s.forest p ready.in_order free in
    let is : v.forest ≡ put_in p (slice_get (children_of s.forest p) index) s.next_key (with_new l s.forest) =
    was.1 ∙ ap (λ cs. put_in p (slice_get cs index) s.next_key m.forest) same
    ∙ ap (put_in p (slice_get (children_of s.forest p) index) s.next_key) (sym forest) in
    subst (λ g. IsPlaced s.forest g p s.next_key (slice_get (children_of s.forest p) index) l) (sym is)
    (placed s.forest l p (slice_get (children_of s.forest p) index) ready.in_order free can)

-- ---- beside a node

-- a new node came beside k, so that these are in its place
pub record IsBeside (f g : Forest) (k n : ℕ) (ks : List ℕ) (l : Label) : Type 0 where
  pub parent : ℕ
  pub up : parent_of f k ≡ Some parent
  pub ordered : IsForest g
  pub labels : (q : ℕ) → has q f ≡ true → label_of g q ≡ label_of f q
  pub new : label_of g n ≡ Some l
  pub bare : children_of g n ≡ []
  pub order : children_of g parent ≡ in_place_of k ks (children_of f parent)
  pub children : (q : ℕ) → q ≢ parent → children_of g q ≡ children_of f q

beside : (f g : Forest) (k p n : ℕ) (before : Option ℕ) (ks : List ℕ) (l : Label) → parent_of f k ≡ Some p → IsPlaced f g p n before l
    → names_with before (n ∷ []) (children_of f p) ≡ in_place_of k ks (children_of f p) → IsBeside f g k n ks l
beside f g k p n before ks l up is order = record {
  parent = p;
  up = up;
  ordered = is.ordered;
  labels = is.labels;
  new = is.new;
  bare = is.bare;
  order = is.order ∙ order;
  children = is.children;
}

names_with-ahead : (k n : ℕ) (xs : List ℕ) → is_among k xs ≡ true → names_with (Some k) (n ∷ []) xs ≡ in_place_of k (n ∷ k ∷ []) xs
names_with-ahead k n [] among = absurd (cc)
names_with-ahead k n (x ∷ xs) among = elim (eqb_tells x k) [
  | inl own ↦ rw (own.0, own.1) refl
  | inr other ↦ rw other.0 (ap (λ ys. x ∷ ys) (names_with-ahead k n xs (grind (arith, among, other.0))))
]

index_among : (xs : List ℕ) (k i : ℕ) → index_in xs k ≡ Some i → is_among k xs ≡ true
index_among xs k i e = sym (is_some-index_in xs k) ∙ ap is_some e

-- where the other is in the draft with the new node
module _ (kind : Kind) (x : Fields) (k : ℕ) (s m v : Working) (ready : IsReady s) (new : new_step kind x s ≡ Ok m) where
  free : has s.next_key s.forest ≡ false
  free = ready.free s.next_key (omega arith)

  up_still : parent_of m.forest k ≡ parent_of s.forest k
  up_still = ap (λ f. parent_of f k) (sym (made_forest kind x s m new)) ∙ parent_of-with_new (label_new s kind x) s.forest k ready.in_order free

  children_still : (p : ℕ) → children_of m.forest p ≡ children_of s.forest p
  children_still p = ap (λ f. children_of f p) (sym (made_forest kind x s m new))
      ∙ children_of-with_new (label_new s kind x) s.forest p ready.in_order free

  index_here : (p i : ℕ) → parent_of m.forest k ≡ Some p → index_of m.forest k ≡ Some i → index_in (children_of s.forest p) k ≡ Some i
  index_here p i up at = sym (ap (λ o. index_in (children_below m.forest o) k) up ∙ ap (λ cs. index_in cs k) (children_still p)) ∙ at

  pub put_ahead : put_before_step s.next_key k m ≡ Ok v → IsBeside s.forest v.forest k s.next_key (s.next_key ∷ k ∷ []) (label_new s kind x)
  unfolding put_before_step
  put_ahead e = by_place (parent_of m.forest k) (index_of m.forest k) refl refl e where
    by_place : (o i : Option ℕ) → parent_of m.forest k ≡ o → index_of m.forest k ≡ i → before_at s.next_key k o i m ≡ Ok v
        → IsBeside s.forest v.forest k s.next_key (s.next_key ∷ k ∷ []) (label_new s kind x)
    by_place (Some p) (Some i) up at e =
        let cs : List ℕ = children_of s.forest p in
        let here = index_here p i up at in
        beside s.forest v.forest k p s.next_key (slice_get cs i) (s.next_key ∷ k ∷ []) (label_new s kind x) (sym up_still ∙ up)
        (put_placed kind x p i s m v ready new e)
        (ap (λ o. names_with o (s.next_key ∷ []) cs) (slice_get-index_in cs k i here) ∙ names_with-ahead k s.next_key cs (index_among cs k i here))
    by_place o i up at e = absurd (cc)

  pub put_after : put_behind_step s.next_key k m ≡ Ok v → IsBeside s.forest v.forest k s.next_key (k ∷ s.next_key ∷ []) (label_new s kind x)
  unfolding put_behind_step
  put_after e = by_place (parent_of m.forest k) (index_of m.forest k) refl refl e where
    by_place : (o i : Option ℕ) → parent_of m.forest k ≡ o → index_of m.forest k ≡ i → behind_at s.next_key k o i m ≡ Ok v
        → IsBeside s.forest v.forest k s.next_key (k ∷ s.next_key ∷ []) (label_new s kind x)
    by_place (Some p) (Some i) up at e =
        let cs : List ℕ = children_of s.forest p in
        let here = index_here p i up at in
        beside s.forest v.forest k p s.next_key (slice_get cs (i + 1)) (k ∷ s.next_key ∷ []) (label_new s kind x) (sym up_still ∙ up)
        (put_placed kind x p (i + 1) s m v ready new e) (names_with-behind s.next_key k i cs (NoRepeats-children_of s.forest p ready.in_order) here)
    by_place o i up at e = absurd (cc)

-- ---- in the place of one and what came after it

pub in_place_of-again : (k : ℕ) (new rest xs : List ℕ) → in_place_of k new (in_place_of k (k ∷ rest) xs) ≡ in_place_of k (new ++ rest) xs
in_place_of-again k new rest [] = refl
in_place_of-again k new rest (x ∷ xs) = elim (eqb_tells x k) [
  | inl own ↦
      let here : eqb k k ≡ true = grind (arith, eqb_tells k k) in
      rw own.0 (ap (λ t. cond t (new ++ (rest ++ xs)) (k ∷ in_place_of k new (rest ++ xs))) here ∙ sym (append_assoc new rest xs))
  | inr other ↦ rw (other.0, other.0) (ap (λ ys. x ∷ ys) (in_place_of-again k new rest xs))
]
