-- Children that go from a node to the one before it, or to the last child of that: the same is read.
use Rattle.std.proofs.Common.{◌≡◌, ◌≢◌, ◌∙◌, ℕ, Bool, true, false, eqb, List, [], ◌∷◌, ◌++◌, Some, sym, ap, ap₂, subst, arith, append_assoc, append-nil, inl, inr}
use Rattle.std.proofs.lemmas.Bool.Decides.{eqb_tells}
use Rattle.lx_trees.specs.Siblings.{is_among, NoRepeats}
use Rattle.lx_trees.proofs.Siblings.{is_among-append}
use Rattle.lx_forest.specs.Forest.{Forest}
use Rattle.lx_forest.specs.Lookups.{parent_of, children_of, IsForest}
use Rattle.lx_forest.proofs.Lookups.{NoRepeats-children_of, parent_of-self}
use Rattle.lx_draft.specs.Faults.{text_in}
use Rattle.lx_draft.proofs.Gaps.{parent_here, child_of}
use Rattle.lx_edit.specs.Texts.{text_or_none}
use Rattle.lx_edit_laws.specs.Reading.{text_at, read_below}
use Rattle.lx_edit_laws.proofs.Reading.{reads_of, reads_of-append, reads-same, read-level, read-leaf, IsKnown, reads_known}
use Rattle.lx_edit_laws.proofs.WrapLists.{apart}
use Rattle.lx_edit_laws.proofs.WrapTurns.{WentOver}
use Rattle.lx_edit_laws.proofs.WrapTold.{WentAll}
use Rattle.lx_list_laws.proofs.ReadOrder.{StandBeside, StandApart, beside-apart}
use Rattle.lx_list_laws.proofs.ReadForests.{AreTold, reads_told, reads-pair}

pub told_over : (f g : Forest) (from to : ℕ) (ks : List ℕ) → IsForest f → WentOver f g from to ks → AreTold f g
told_over f g from to ks h o = record { before = h; behind = o.in_order; texts = λ q. ap (λ l. text_or_none (text_in l)) (o.label q) }

-- two beside each other are below one node
pub both_up : (f : Forest) (p a b : ℕ) → IsForest f → StandBeside (children_of f p) a b → (parent_of f a ≡ Some p) × (parent_of f b ≡ Some p)
both_up f p a b h s =
    let among : (q : ℕ) → is_among q (a ∷ b ∷ s.rest) ≡ true → parent_of f q ≡ Some p =
    λ q e. parent_here f p q h (ap (is_among q) s.is ∙ is_among-append q s.front (a ∷ b ∷ s.rest) ∙ grind (arith, e)) in
    (among a (grind (arith, eqb_tells a a)), among b (grind (arith, eqb_tells b b)))

-- All children go from a node that has no text, and that comes right after another, ahead, to that or below it.
pub record GoesBack (f g : Forest) (p ahead from to : ℕ) : Type 0 where
  pub in_order : IsForest f
  pub all : WentAll f g from to
  pub beside : StandBeside (children_of f p) ahead from

-- Some nodes are left out: the two, others below the first of them, and those alone. The first has what went as well.
record IsSpared (f g : Forest) (p ahead from to : ℕ) (skip : ℕ → Bool) : Type 0 where
  from_too : skip from ≡ true
  to_too : skip to ≡ true
  to_other : to ≢ p
  beside : (q : ℕ) → parent_of f q ≡ Some p → eqb ahead q ≡ false → eqb from q ≡ false → skip q ≡ false
  below : (q b : ℕ) → parent_of f q ≡ Some b → b ≢ p → skip b ≡ false → skip q ≡ false
  more : IsKnown f g skip p → read_below g ahead ≡ read_below f ahead ++ reads_of f (children_of f from)

module _ (f g : Forest) (p ahead from to : ℕ) (s : GoesBack f g p ahead from to) where
  h : IsForest f
  h = s.in_order

  told : AreTold f g
  told = told_over f g from to (children_of f from) h s.all.over

  ups : (parent_of f ahead ≡ Some p) × (parent_of f from ≡ Some p)
  ups = both_up f p ahead from h s.beside

  ahead_other : ahead ≢ p
  ahead_other e = absurd (grind (arith, e, ups.0, parent_of-self f ahead h, eqb_tells ahead p, eqb_tells p p))

  from_other : from ≢ p
  from_other e = absurd (grind (arith, e, ups.1, parent_of-self f from h, eqb_tells from p, eqb_tells p p))

  apart_there : StandApart s.beside.front s.beside.rest ahead from
  apart_there = beside-apart s.beside.front s.beside.rest ahead from (subst NoRepeats s.beside.is (NoRepeats-children_of f p h))

  -- what is read of the two together
  pair : read_below g ahead ≡ read_below f ahead ++ reads_of f (children_of f from)
      → read_below g ahead ++ read_below g from ≡ read_below f ahead ++ read_below f from
  pair more =
      let gone : read_below g from ≡ [] = read-level g from told.behind ∙ ap₂ (λ x ks. x ++ reads_of g ks) (told.texts from ∙ s.all.silent) s.all.none in
      let was : read_below f from ≡ reads_of f (children_of f from) = read-level f from h ∙ ap (λ x. x ++ reads_of f (children_of f from)) s.all.silent in
      ap₂ (λ x y. x ++ y) more gone ∙ append-nil (read_below f ahead ++ reads_of f (children_of f from)) ∙ ap (λ x. read_below f ahead ++ x) (sym was)

  -- the children that went read as they did, where they are known
  went_read : (skip : ℕ → Bool) → IsKnown f g skip p → ((q : ℕ) → parent_of f q ≡ Some from → skip q ≡ false)
      → reads_of g (children_of f from) ≡ reads_of f (children_of f from)
  went_read skip k free =
      reads-same f g (children_of f from) (λ q among. let up = parent_here f from q h among in k.grandchild from q ups.1 up (free q up))

  module _ (skip : ℕ → Bool) (i : IsSpared f g p ahead from to skip) where
    here : IsKnown f g skip p → reads_of g (children_of g p) ≡ reads_of f (children_of f p)
    here k =
        let b = s.beside in
        let same : children_of g p ≡ children_of f p = s.all.over.others p (λ e. from_other (sym e)) (λ e. i.to_other (sym e)) in
        let up : (q : ℕ) → is_among q (b.front ++ (ahead ∷ from ∷ b.rest)) ≡ true → parent_of f q ≡ Some p =
        λ q among. parent_here f p q h (ap (is_among q) b.is ∙ among) in
        let one : reads_of g b.front ≡ reads_of f b.front = reads-same f g b.front (λ q among.
        let x = apart_there.in_front q among in
        let above = up q (is_among-append q b.front (ahead ∷ from ∷ b.rest) ∙ grind (arith, among)) in
        k.child q above (i.beside q above x.0 x.1)) in
        let other : reads_of g b.rest ≡ reads_of f b.rest = reads-same f g b.rest (λ q among.
        let x = apart_there.in_rest q among in
        let above = up q (is_among-append q b.front (ahead ∷ from ∷ b.rest) ∙ grind (arith, among)) in
        k.child q above (i.beside q above x.0 x.1)) in
        ap (reads_of g) (same ∙ b.is) ∙ reads-pair f g b.front b.rest ahead from one other (pair (i.more k)) ∙ sym (ap (reads_of f) b.is)

    read_spared : (b : ℕ) → skip b ≡ false → read_below g b ≡ read_below f b
    read_spared = reads_told f g skip told (λ b clear k. elim (eqb_tells b p) [
      | inl at ↦ rw at.1 (here (subst (IsKnown f g skip) at.1 k))
      | inr away ↦
          let same : children_of g b ≡ children_of f b =
          s.all.over.others b (λ e. absurd (grind (arith, e, clear, i.from_too))) (λ e. absurd (grind (arith, e, clear, i.to_too))) in
          ap (reads_of g) same ∙ reads_known f g skip b h k (λ q up. i.below q b up away.1 clear)
    ])

-- ---- to the node before

pub read_back : (f g : Forest) (p from to : ℕ) → GoesBack f g p to from to → (b : ℕ) → b ≢ to → b ≢ from → read_below g b ≡ read_below f b
read_back f g p from to s b x y = read_spared f g p to from to s skip (record {
  from_too = grind (arith, eqb_tells from from);
  to_too = grind (arith, eqb_tells to to);
  to_other = ahead_other f g p to from to s;
  beside = λ q up x y. grind (arith, x, y);
  below = λ q b up away clear. grind (arith, up, u.0, u.1, away, eqb_tells to q, eqb_tells from q);
  more = λ k.
      let behind : reads_of g (children_of f from) ≡ reads_of f (children_of f from) =
      went_read f g p to from to s skip k (λ q up. grind (arith, up, u.0, u.1, from_other f g p to from to s, eqb_tells to q, eqb_tells from q)) in
      let own : reads_of g (children_of f to) ≡ reads_of f (children_of f to) = reads-same f g (children_of f to) (λ q among.
      let up = parent_here f to q h among in
      k.grandchild to q u.0 up (grind (arith, up, u.0, u.1, ahead_other f g p to from to s, eqb_tells to q, eqb_tells from q))) in
      read-level g to t.behind
      ∙ ap₂ (λ x ks. x ++ reads_of g ks) (t.texts to) s.all.over.there
      ∙ ap (λ x. text_at f to ++ x) (reads_of-append g (children_of f to) (children_of f from) ∙ ap₂ (λ x y. x ++ y) own behind)
      ∙ sym (append_assoc (text_at f to) (reads_of f (children_of f to)) (reads_of f (children_of f from)))
      ∙ ap (λ x. x ++ reads_of f (children_of f from)) (sym (read-level f to h));
}) b (grind (arith, eqb_tells to b, eqb_tells from b, x, y)) where
  h : IsForest f
  h = s.in_order

  t : AreTold f g
  t = told f g p to from to s

  u : (parent_of f to ≡ Some p) × (parent_of f from ≡ Some p)
  u = ups f g p to from to s

  skip : ℕ → Bool
  skip q = is_among q (to ∷ from ∷ [])

-- ---- to the last child of the node before

-- That child has none of its own yet.
pub record GoesBackIn (f g : Forest) (p list line item : ℕ) : Type 0 where
  pub back : GoesBack f g p list line item
  pub ahead : List ℕ
  pub last : children_of f list ≡ ahead ++ (item ∷ [])
  pub leaf : children_of f item ≡ []

module _ (f g : Forest) (p list line item : ℕ) (t : GoesBackIn f g p list line item) where
  abbrev skip : ℕ → Bool
  skip q = is_among q (list ∷ line ∷ item ∷ [])

  up : (parent_of f list ≡ Some p) × (parent_of f line ≡ Some p)
  up = ups f g p list line item t.back

  pub up_item : parent_of f item ≡ Some list
  up_item = parent_here f list item t.back.in_order (ap (is_among item) t.last ∙ is_among-append item t.ahead (item ∷ []) ∙ grind (arith, eqb_tells item item))

  list_other : list ≢ p
  list_other = ahead_other f g p list line item t.back

  line_other : line ≢ p
  line_other = from_other f g p list line item t.back

  two : list ≢ line
  two same = absurd (grind (arith, same, (apart_there f g p list line item t.back).two, eqb_tells list line))

  item_other : item ≢ p
  item_other same = absurd (grind (arith, same, t.leaf, child_of f p list t.back.in_order up.0))

  told_in : AreTold f g
  told_in = told f g p list line item t.back

  -- what goes reads as it did, and so do the other items
  line_read : IsKnown f g skip p → reads_of g (children_of f line) ≡ reads_of f (children_of f line)
  line_read k = went_read f g p list line item t.back skip k (λ q above.
      grind (arith, above, up.0, up.1, up_item, line_other, two, eqb_tells list q, eqb_tells line q, eqb_tells item q))

  ahead_read : IsKnown f g skip p → reads_of g t.ahead ≡ reads_of f t.ahead
  ahead_read k =
      let once : NoRepeats (t.ahead ++ (item ∷ [])) = subst NoRepeats t.last (NoRepeats-children_of f list t.back.in_order) in
      reads-same f g t.ahead (λ q among.
      let above : parent_of f q ≡ Some list =
      parent_here f list q t.back.in_order (ap (is_among q) t.last ∙ is_among-append q t.ahead (item ∷ []) ∙ grind (arith, among)) in
      let new : is_among q (item ∷ []) ≡ false = apart t.ahead (item ∷ []) q once among in
      k.grandchild list q up.0 above (grind (arith, above, new, up.0, up.1, list_other, eqb_tells list q, eqb_tells line q)))

  item_read : IsKnown f g skip p → reads_of g (item ∷ []) ≡ reads_of f (item ∷ []) ++ reads_of f (children_of f line)
  item_read k =
      let now : reads_of g (item ∷ []) ≡ text_at f item ++ reads_of f (children_of f line) =
      append-nil (read_below g item) ∙ read-level g item told_in.behind
      ∙ ap₂ (λ x ks. x ++ reads_of g ks) (told_in.texts item) (t.back.all.over.there ∙ ap (λ ks. ks ++ children_of f line) t.leaf)
      ∙ ap (λ x. text_at f item ++ x) (line_read k) in
      let before : reads_of f (item ∷ []) ≡ text_at f item = append-nil (read_below f item) ∙ read-leaf f item t.back.in_order t.leaf in
      now ∙ ap (λ x. x ++ reads_of f (children_of f line)) (sym before)

  list_read : IsKnown f g skip p → read_below g list ≡ read_below f list ++ reads_of f (children_of f line)
  list_read k =
      let more : List ℕ = reads_of f (children_of f line) in
      let same : children_of g list ≡ t.ahead ++ (item ∷ []) =
      t.back.all.over.others list two (λ e. absurd (grind (arith, e, up.0, up_item, list_other))) ∙ t.last in
      let all : reads_of g (t.ahead ++ (item ∷ [])) ≡ reads_of f (t.ahead ++ (item ∷ [])) ++ more =
      reads_of-append g t.ahead (item ∷ [])
      ∙ ap₂ (λ x y. x ++ y) (ahead_read k) (item_read k)
      ∙ sym (append_assoc (reads_of f t.ahead) (reads_of f (item ∷ [])) more)
      ∙ ap (λ x. x ++ more) (sym (reads_of-append f t.ahead (item ∷ []))) in
      read-level g list told_in.behind
      ∙ ap₂ (λ x ks. x ++ reads_of g ks) (told_in.texts list) same
      ∙ ap (λ x. text_at f list ++ x) (all ∙ ap (λ ks. reads_of f ks ++ more) (sym t.last))
      ∙ sym (append_assoc (text_at f list) (reads_of f (children_of f list)) more)
      ∙ ap (λ x. x ++ more) (sym (read-level f list t.back.in_order))

  pub read_back_in : (b : ℕ) → b ≢ list → b ≢ line → b ≢ item → read_below g b ≡ read_below f b
  read_back_in b x y z = read_spared f g p list line item t.back skip (record {
    from_too = grind (arith, eqb_tells line line);
    to_too = grind (arith, eqb_tells item item);
    to_other = item_other;
    beside = λ q above x y. grind (arith, above, x, y, up_item, list_other, eqb_tells item q);
    below = λ q b above away clear. grind
        (arith, above, away, clear, up.0, up.1, up_item, eqb_tells list q, eqb_tells line q, eqb_tells item q, eqb_tells list b);
    more = list_read;
  }) b (grind (arith, x, y, z, eqb_tells list b, eqb_tells line b, eqb_tells item b))
