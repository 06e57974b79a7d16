-- What is read after the first child of a node came before it: the same, where the node has no text.
use Rattle.std.proofs.Common.{◌≡◌, ◌≢◌, ◌∙◌, ℕ, true, eqb, List, [], ◌∷◌, ◌++◌, Some, sym, ap, ap₂, subst, arith, append-nil, inl, inr}
use Rattle.std.proofs.lemmas.Bool.Decides.{eqb_tells}
use Rattle.lx_trees.specs.Siblings.{is_among, NoRepeats, names_without, names_with}
use Rattle.lx_trees.proofs.Siblings.{names_without-absent_list}
use Rattle.lx_forest.specs.Forest.{Forest}
use Rattle.lx_forest.specs.Lookups.{parent_of, children_of, IsForest}
use Rattle.lx_forest.proofs.Lookups.{NoRepeats-children_of, parent_of-self}
use Rattle.lx_draft.specs.Faults.{text_in}
use Rattle.lx_draft.proofs.Gaps.{parent_here, child_of}
use Rattle.lx_edit.specs.Texts.{text_or_none}
use Rattle.lx_edit_laws.specs.Reading.{text_at, read_below}
use Rattle.lx_edit_laws.proofs.Reading.{reads_of, read-level, IsKnown, reads_by, reads_known, reads-same, reads-instead}
use Rattle.lx_edit_laws.proofs.WrapTrees.{not_child, different, WasMoved, IsForest-moved, label_of-moved, children_of-moved}

-- a node with a parent p, and its first child c
pub record HasFirst (f : Forest) (p k c : ℕ) (cs : List ℕ) : Type 0 where
  pub in_order : IsForest f
  pub up : parent_of f k ≡ Some p
  pub below : children_of f k ≡ c ∷ cs

pub first_up : (f : Forest) (p k c : ℕ) (cs : List ℕ) → HasFirst f p k c cs → parent_of f c ≡ Some k
first_up f p k c cs s = parent_here f k c s.in_order (ap (is_among c) s.below ∙ grind (arith, eqb_tells c c))

pub first_other : (f : Forest) (p k c : ℕ) (cs : List ℕ) → HasFirst f p k c cs → k ≢ c
first_other f p k c cs s same = absurd (grind (arith, same, first_up f p k c cs s, parent_of-self f c s.in_order, eqb_tells k c, eqb_tells c c))

-- that child came before the node
module _ (f g : Forest) (p k c : ℕ) (cs : List ℕ) (s : HasFirst f p k c cs) (m : WasMoved f g p c (Some k)) where
  h : IsForest f
  h = s.in_order

  apart : k ≢ p
  apart e = absurd (grind (arith, e, s.up, parent_of-self f k h, eqb_tells k p, eqb_tells p p))

  rest_once : NoRepeats (c ∷ cs)
  rest_once = subst NoRepeats s.below (NoRepeats-children_of f k h)

  -- it left the children of the node ..
  pub left_behind : children_of g k ≡ cs
  left_behind =
      grind (arith, children_of-moved f g p c (Some k) h m k, s.below, rest_once.0, apart, eqb_tells c c, eqb_tells k p, names_without-absent_list c cs)

  absent_from : (q : ℕ) → k ≢ q → names_without c (children_of f q) ≡ children_of f q
  absent_from q other = names_without-absent_list c (children_of f q) (not_child f c k q h (first_up f p k c cs s) other)

  -- .. and came before it
  pub come_ahead : children_of g p ≡ names_with (Some k) (c ∷ []) (children_of f p)
  come_ahead = grind (arith, children_of-moved f g p c (Some k) h m p, absent_from p apart, eqb_tells p p)

  order : IsForest g
  order = IsForest-moved f g p c (Some k) h m

  texts : (q : ℕ) → text_at g q ≡ text_at f q
  texts q = ap (λ o. text_or_none (text_in o)) (label_of-moved f g p c (Some k) h m q)

  -- what is read of the two together
  both : text_at f k ≡ [] → IsKnown f g (λ q. eqb q k) p → reads_of g (c ∷ []) ++ read_below g k ≡ read_below f k
  both silent known =
      let below : (q : ℕ) → is_among q (c ∷ cs) ≡ true → read_below g q ≡ read_below f q =
      λ q among. let up : parent_of f q ≡ Some k = parent_here f k q h (ap (is_among q) s.below ∙ among) in
      known.grandchild k q s.up up (grind (arith, up, parent_of-self f q h, eqb_tells q k, eqb_tells k q)) in
      ap₂ (λ x y. x ++ y) (append-nil (read_below g c)) (read-level g k order ∙ ap₂ (λ t ks. t ++ reads_of g ks) (texts k ∙ silent) left_behind)
      ∙ reads-same f g (c ∷ cs) below
      ∙ sym (read-level f k h ∙ ap₂ (λ t ks. t ++ reads_of f ks) silent s.below)

  pub read_ahead : text_at f k ≡ [] → (b : ℕ) → b ≢ k → read_below g b ≡ read_below f b
  read_ahead silent b away = reads_by f g (λ q. eqb q k) h order (λ b clear known. record {
    text = texts b;
    below = elim (eqb_tells b p) [
      | inl here ↦ rw here.1 (
          ap (reads_of g) come_ahead
          ∙ reads-instead f g k (c ∷ []) (children_of f p) (NoRepeats-children_of f p h) (child_of f p k h s.up)
          (both silent (subst (IsKnown f g (λ q. eqb q k)) here.1 known))
          (λ q there other. known.child q (parent_here f p q h there ∙ ap (λ x. Some x) (sym here.1)) (different q k other))
          )
      | inr other ↦
          let still : children_of g b ≡ children_of f b =
          grind (arith, children_of-moved f g p c (Some k) h m b, other.0, absent_from b (λ e. absurd (grind (arith, e, clear, eqb_tells b k)))) in
          ap (reads_of g) still ∙ reads_known f g (λ q. eqb q k) b h known (λ q up. grind (arith, up, s.up, other, eqb_tells q k))
    ];
  }) b (different b k away)
