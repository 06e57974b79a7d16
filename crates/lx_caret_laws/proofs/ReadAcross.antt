-- What is read in a node and in those above it, where what is between two points below it gave way.
use Rattle.lx_caret_laws.proofs.EditedIn.{around_it, there_by}
use Rattle.lx_caret_laws.proofs.InPlace.{IsIn, apart_children, of_equals, out_below, place-behind, place-here, place-level, wrapped}
use Rattle.lx_caret_laws.proofs.ReadLevels.{read-level, reads-same, reads_by, reads_known}
use Rattle.lx_caret_laws.specs.Reading.{ReadsBetween, StaysAside, place_along, place_in, read_in, reads_in, said}
use Rattle.lx_draft.proofs.Gaps.{parent_here}
use Rattle.lx_draft.specs.Selecting.{text_of}
use Rattle.lx_edit_laws.proofs.Reading.{down, spread}
use Rattle.lx_forest.proofs.Lookups.{NoRepeats-children_of, has-child, has-parent_of, is_among-children_of}
use Rattle.lx_forest.proofs.Tops.{is_within-child}
use Rattle.lx_forest.proofs.Within.{is_within-parent, is_within-trans}
use Rattle.lx_forest.specs.Forest.{Forest, Label}
use Rattle.lx_forest.specs.Lookups.{IsForest, children_of, has, is_within, keys_within, parent_of}
use Rattle.lx_node.specs.Kinds.{is_element}
use Rattle.lx_node.specs.declared.cause.Point.{Point}
use Rattle.lx_blocks.specs.Blocks.{is_at}
use Rattle.lx_text.proofs.Places.{length-none}
use Rattle.lx_text.specs.Texts.{text_length}
use Rattle.lx_trees.specs.Siblings.{NoRepeats, is_among}
use Rattle.std.proofs.Common.{Bool, List, Some, [], ap, append-nil, ap₂, arith, false, inl, inr, not, option_map, refl, subst, sym, true, ℕ, ◌++◌, ◌+◌, ◌||◌, ◌∙◌, ◌∷◌, ◌≡◌, ◌≢◌}
use Rattle.std.proofs.lemmas.Bool.Decides.{eqb_tells}
use Rattle.std.proofs.lemmas.Bool.{or_parts}

-- What changed from f to g is below the node base, or at it, and so are both points: what holds neither stays, and all above the
-- node say the same and have the same children.
pub record OnlyBelow (f g : Forest) (p q : Point) (base : ℕ) : Type 0 where
  pub ordered : IsForest f
  pub order_after : IsForest g
  pub first : is_within f base p.key ≡ true
  pub second : is_within f base q.key ≡ true
  pub aside : StaysAside p.key q.key f g
  pub above : (b : ℕ) → has b f ≡ true → b ≢ base → is_within f b base ≡ true → (said g b ≡ said f b) × (children_of g b ≡ children_of f b)

module _ (f g : Forest) (p q : Point) (base : ℕ) (o : OnlyBelow f g p q base) where
  abbrev skip : ℕ → Bool
  skip x = not (has x f) || (is_within f x p.key || is_within f x q.key)

  -- what holds neither point reads the same
  pub read_aside : (b : ℕ) → has b f ≡ true → is_within f b p.key ≡ false → is_within f b q.key ≡ false → read_in g b ≡ read_in f b
  read_aside b so one two = reads_by f g skip o.ordered o.order_after (λ b clear known.
      let c = or_parts (not (has b f)) (is_within f b p.key || is_within f b q.key) clear in
      let d = or_parts (is_within f b p.key) (is_within f b q.key) c.1 in
      let so : has b f ≡ true = grind (arith, c.0) in
      let still = o.aside.each b so d.0 d.1 in
      record {
        own = ap (λ l. text_of (option_map (λ (l : Label). l.fields) l)) still.0;
        below = ap (reads_in g) still.1 ∙ reads_known f g skip b o.ordered known (λ x up.
            grind (arith, has-child f x b up, out_below f x b p.key o.ordered up d.0, out_below f x b q.key o.ordered up d.1));
      }) b (grind (arith, so, one, two))

  module _ (new : List ℕ) where
    -- children of a node, one of which holds both points
    among : (b c : ℕ) (xs : List ℕ) → NoRepeats xs → ((x : ℕ) → is_among x xs ≡ true → parent_of f x ≡ Some b) → is_among c xs ≡ true
        → is_within f c p.key ≡ true → is_within f c q.key ≡ true
        → IsIn (place_in f c p) (place_in f c q) new (read_in f c) (read_in g c)
        → IsIn (place_along f p (spread (keys_within f) xs)) (place_along f q (spread (keys_within f) xs)) new (reads_in f xs) (reads_in g xs)
    among b c [] once up there first second inside = absurd (cc)
    among b c (x ∷ xs) once up there first second inside = elim (eqb_tells x c) [
      | inl own ↦
          let rest : reads_in g xs ≡ reads_in f xs =
          reads-same f g xs (λ y at.
          let up_y : parent_of f y ≡ Some b = up y (grind (arith, at)) in
          let up_c : parent_of f c ≡ Some b = up c (grind (arith, own, eqb_tells x c)) in
          let other : y ≢ c = λ e. absurd (grind (arith, e, own, at, once.0)) in
          read_aside y (has-child f y b up_y) (apart_children f y c b p.key o.ordered up_y up_c other first)
          (apart_children f y c b q.key o.ordered up_y up_c other second)) in
          let here : IsIn (place_in f x p) (place_in f x q) new (read_in f x) (read_in g x) =
          subst (λ y. IsIn (place_in f y p) (place_in f y q) new (read_in f y) (read_in g y)) (sym own.1) inside in
          let more = wrapped (place_in f x p) (place_in f x q) new (read_in f x) (read_in g x) [] (reads_in f xs) here in
          let n_is : place_along f p (spread (keys_within f) (x ∷ xs)) ≡ text_length [] + place_in f x p =
          omega (arith, place-here f p x (spread (keys_within f) xs) (ap (λ y. is_within f y p.key) own.1 ∙ first), length-none) in
          let m_is : place_along f q (spread (keys_within f) (x ∷ xs)) ≡ text_length [] + place_in f x q =
          omega (arith, place-here f q x (spread (keys_within f) xs) (ap (λ y. is_within f y q.key) own.1 ∙ second), length-none) in
          of_equals _ _ _ _ new _ _ (reads_in f (x ∷ xs)) (reads_in g (x ∷ xs)) n_is m_is refl (ap (λ t. read_in g x ++ t) rest) more
      | inr other ↦
          let up_x : parent_of f x ≡ Some b = up x (grind (arith, eqb_tells x x)) in
          let up_c : parent_of f c ≡ Some b = up c there in
          let far_p : is_within f x p.key ≡ false = apart_children f x c b p.key o.ordered up_x up_c other.1 first in
          let far_q : is_within f x q.key ≡ false = apart_children f x c b q.key o.ordered up_x up_c other.1 second in
          let same : read_in g x ≡ read_in f x = read_aside x (has-child f x b up_x) far_p far_q in
          let later : is_among c xs ≡ true = grind (arith, there, other) in
          let inner = among b c xs once.1 (λ y at. up y (grind (arith, at))) later first second inside in
          let keys : List ℕ = spread (keys_within f) xs in
          let more = wrapped (place_along f p keys) (place_along f q keys) new (reads_in f xs) (reads_in g xs) (read_in f x) [] inner in
          of_equals _ _ _ _ new _ _ (reads_in f (x ∷ xs)) (reads_in g (x ∷ xs)) (place-behind f p x keys far_p) (place-behind f q x keys far_q)
          (sym (append-nil (reads_in f (x ∷ xs))))
          (ap (λ t. t ++ reads_in g xs) same ∙ sym (append-nil (read_in f x ++ reads_in g xs))) more
    ]

    -- a node above, by its child that holds both
    step : (b c : ℕ) → parent_of f c ≡ Some b → is_within f c p.key ≡ true → is_within f c q.key ≡ true → said g b ≡ said f b
        → children_of g b ≡ children_of f b → IsIn (place_in f c p) (place_in f c q) new (read_in f c) (read_in g c)
        → IsIn (place_in f b p) (place_in f b q) new (read_in f b) (read_in g b)
    step b c up first second says order inside =
        let there : has b f ≡ true = has-parent_of f c b up in
        let xs : List ℕ = children_of f b in
        let keys : List ℕ = spread (keys_within f) xs in
        let at : is_among c xs ≡ true = grind (arith, is_among-children_of f c b o.ordered, up, eqb_tells b b) in
        let inner = among b c xs (NoRepeats-children_of f b o.ordered) (λ x at. parent_here f b x o.ordered at) at first second inside in
        let more = wrapped (place_along f p keys) (place_along f q keys) new (reads_in f xs) (reads_in g xs) (said f b) [] inner in
        let n_is = place-level f p b o.ordered there (λ e. absurd (grind (arith, e, first, is_within-parent f c b o.ordered up))) in
        let m_is = place-level f q b o.ordered there (λ e. absurd (grind (arith, e, second, is_within-parent f c b o.ordered up))) in
        let now_is : read_in g b ≡ said f b ++ reads_in g xs =
        read-level g b o.order_after ∙ ap₂ (λ s ys. s ++ reads_in g ys) says order in
        of_equals _ _ _ _ new _ _ (read_in f b) (read_in g b) n_is m_is
        (read-level f b o.ordered ∙ sym (append-nil (said f b ++ reads_in f xs))) (now_is ∙ sym (append-nil (said f b ++ reads_in g xs))) more

    -- in the node, and in each node above it
    read_over : IsIn (place_in f base p) (place_in f base q) new (read_in f base) (read_in g base) → (b : ℕ) → is_within f b base ≡ true
        → IsIn (place_in f b p) (place_in f b q) new (read_in f b) (read_in g b)
    read_over inside b = down f o.ordered (λ b. is_within f b base ≡ true → IsIn (place_in f b p) (place_in f b q) new (read_in f b) (read_in g b))
        (λ b each over. elim (eqb_tells b base) [
          | inl own ↦ subst (λ x. IsIn (place_in f x p) (place_in f x q) new (read_in f x) (read_in g x)) (sym own.1) inside
          | inr other ↦
              let child = is_within-child f b base o.ordered over (λ e. other.1 (sym e)) in
              let c : ℕ = child.child in
              let there : has b f ≡ true = has-parent_of f c b child.up in
              let same = o.above b there other.1 over in
              step b c child.up (is_within-trans f c base p.key o.ordered child.inside o.first)
              (is_within-trans f c base q.key o.ordered child.inside o.second) same.0 same.1 (each c child.up child.inside)
        ]) b

    -- where each element that holds both points holds the node
    pub reads_across : ((b : ℕ) → is_at is_element f b ≡ true → is_within f b p.key ≡ true → is_within f b q.key ≡ true → is_within f b base ≡ true)
        → IsIn (place_in f base p) (place_in f base q) new (read_in f base) (read_in g base) → ReadsBetween p q new f g
    reads_across over inside = record {
      places = λ b element first second.
          let a = around_it _ _ new _ _ (read_over inside b (over b element first second)) in (a.first, a.second, a.order);
      around = λ b element first second. (around_it _ _ new _ _ (read_over inside b (over b element first second))).is;
      elsewhere = λ b element first second. read_aside b (there_by f b element) first second;
      aside = o.aside;
    }

  -- where the first point is as far in the node, it is as far in each node above it
  module _ (within : (b : ℕ) → is_within g b p.key ≡ is_within f b p.key) where
    place_among : (b c : ℕ) (xs : List ℕ) → NoRepeats xs → ((x : ℕ) → is_among x xs ≡ true → parent_of f x ≡ Some b) → is_among c xs ≡ true
        → is_within f c p.key ≡ true → is_within f c q.key ≡ true → place_in g c p ≡ place_in f c p
        → place_along g p (spread (keys_within g) xs) ≡ place_along f p (spread (keys_within f) xs)
    place_among b c [] once up there first second same = absurd (cc)
    place_among b c (x ∷ xs) once up there first second same = elim (eqb_tells x c) [
      | inl own ↦
          let here : is_within f x p.key ≡ true = ap (λ y. is_within f y p.key) own.1 ∙ first in
          place-here g p x (spread (keys_within g) xs) (within x ∙ here)
          ∙ subst (λ y. place_in g y p ≡ place_in f y p) (sym own.1) same
          ∙ sym (place-here f p x (spread (keys_within f) xs) here)
      | inr other ↦
          let up_x : parent_of f x ≡ Some b = up x (grind (arith, eqb_tells x x)) in
          let up_c : parent_of f c ≡ Some b = up c there in
          let far_p : is_within f x p.key ≡ false = apart_children f x c b p.key o.ordered up_x up_c other.1 first in
          let far_q : is_within f x q.key ≡ false = apart_children f x c b q.key o.ordered up_x up_c other.1 second in
          let later : is_among c xs ≡ true = grind (arith, there, other) in
          place-behind g p x (spread (keys_within g) xs) (within x ∙ far_p)
          ∙ ap₂ (λ s n. text_length s + n) (read_aside x (has-child f x b up_x) far_p far_q)
          (place_among b c xs once.1 (λ y at. up y (grind (arith, at))) later first second same)
          ∙ sym (place-behind f p x (spread (keys_within f) xs) far_p)
    ]

    place_step : (b c : ℕ) → parent_of f c ≡ Some b → is_within f c p.key ≡ true → is_within f c q.key ≡ true → said g b ≡ said f b
        → children_of g b ≡ children_of f b → place_in g c p ≡ place_in f c p → place_in g b p ≡ place_in f b p
    place_step b c up first second says order same =
        let xs : List ℕ = children_of f b in
        let at : is_among c xs ≡ true = grind (arith, is_among-children_of f c b o.ordered, up, eqb_tells b b) in
        let up_g : parent_of g c ≡ Some b = parent_here g b c o.order_after (ap (is_among c) order ∙ at) in
        let off : p.key ≢ b = λ e. absurd (grind (arith, e, first, is_within-parent f c b o.ordered up)) in
        place-level g p b o.order_after (has-parent_of g c b up_g) off
        ∙ ap₂ (λ s n. text_length s + n) says
        (ap (λ ks. place_along g p (spread (keys_within g) ks)) order
        ∙ place_among b c xs (NoRepeats-children_of f b o.ordered) (λ x at. parent_here f b x o.ordered at) at first second same)
        ∙ sym (place-level f p b o.ordered (has-parent_of f c b up) off)

    pub place_over : place_in g base p ≡ place_in f base p → (b : ℕ) → is_within f b base ≡ true → place_in g b p ≡ place_in f b p
    place_over inside b = down f o.ordered (λ b. is_within f b base ≡ true → place_in g b p ≡ place_in f b p)
        (λ b each over. elim (eqb_tells b base) [
          | inl own ↦ subst (λ x. place_in g x p ≡ place_in f x p) (sym own.1) inside
          | inr other ↦
              let child = is_within-child f b base o.ordered over (λ e. other.1 (sym e)) in
              let c : ℕ = child.child in
              let same = o.above b (has-parent_of f c b child.up) other.1 over in
              place_step b c child.up (is_within-trans f c base p.key o.ordered child.inside o.first)
              (is_within-trans f c base q.key o.ordered child.inside o.second) same.0 same.1 (each c child.up child.inside)
        ]) b
