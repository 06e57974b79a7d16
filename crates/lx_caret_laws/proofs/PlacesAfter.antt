-- Where a point is in what is read in a node and in each node above it, once something came before it there.
use Rattle.lx_caret_laws.proofs.InPlace.{OnlyAt, above_not_below, apart_children, below_parent, place-behind, place-here, place-level, read_elsewhere}
use Rattle.lx_caret_laws.specs.Reading.{place_along, place_in, read_in}
use Rattle.lx_draft.proofs.Gaps.{parent_here}
use Rattle.lx_edit_laws.proofs.Reading.{down, spread}
use Rattle.lx_forest.proofs.Lookups.{has-child, has-parent_of, is_among-children_of}
use Rattle.lx_forest.proofs.Tops.{is_within-child}
use Rattle.lx_forest.proofs.Within.{is_within-parent, is_within-trans}
use Rattle.lx_forest.specs.Forest.{Forest}
use Rattle.lx_forest.specs.Lookups.{children_of, has, is_within, keys_within, parent_of}
use Rattle.lx_node.specs.declared.cause.Point.{Point}
use Rattle.lx_text.specs.Texts.{text_length}
use Rattle.lx_trees.specs.Siblings.{is_among}
use Rattle.std.proofs.Common.{List, Some, [], ap, ap₂, arith, false, inl, inr, subst, sym, true, ℕ, ◌+◌, ◌∙◌, ◌∷◌, ◌≡◌, ◌≢◌}
use Rattle.std.proofs.lemmas.Bool.Decides.{eqb_tells}

-- a point of g is in the tree of a node, and so many characters further than one of f
pub record IsFurther (more : ℕ) (p q : Point) (f g : Forest) (b : ℕ) : Type 0 where
  pub within : is_within g b q.key ≡ true
  pub place : place_in g b q ≡ place_in f b p + more

module _ (f g : Forest) (base m : ℕ) (o : OnlyAt f g base m) (p q : Point) (more : ℕ) (p_on : p.key ≡ m)
    (apart : (b : ℕ) → has b f ≡ true → b ≢ base → q.key ≢ b) where
  -- children of a node that stay the same, of which one has both points in its tree
  along : (b c : ℕ) (xs : List ℕ) → ((x : ℕ) → is_among x xs ≡ true → (parent_of f x ≡ Some b) × (parent_of g x ≡ Some b))
      → is_among c xs ≡ true → is_within f c m ≡ true → IsFurther more p q f g c
      → place_along g q (spread (keys_within g) xs) ≡ place_along f p (spread (keys_within f) xs) + more
  along b c [] up there holds further = absurd (cc)
  along b c (x ∷ xs) up there holds further = elim (eqb_tells x c) [
    | inl own ↦
        let one : is_within f x p.key ≡ true = ap₂ (λ y z. is_within f y z) own.1 p_on ∙ holds in
        let two : is_within g x q.key ≡ true = ap (λ y. is_within g y q.key) own.1 ∙ further.within in
        place-here g q x (spread (keys_within g) xs) two ∙ ap (λ y. place_in g y q) own.1 ∙ further.place
        ∙ ap (λ n. n + more) (sym (place-here f p x (spread (keys_within f) xs) one ∙ ap (λ y. place_in f y p) own.1))
    | inr other ↦
        let ups = up x (grind (arith, eqb_tells x x)) in
        let later : is_among c xs ≡ true = grind (arith, there, other) in
        let ups_c = up c there in
        let far : is_within f x p.key ≡ false =
        ap (is_within f x) p_on ∙ apart_children f x c b m o.ordered ups.0 ups_c.0 other.1 holds in
        let out : is_within g x q.key ≡ false = apart_children g x c b q.key o.order_after ups.1 ups_c.1 other.1 further.within in
        let same : read_in g x ≡ read_in f x =
        read_elsewhere f g base m o x (has-child f x b ups.0) (ap (is_within f x) (sym p_on) ∙ far) in
        let inner = along b c xs (λ y at. up y (grind (arith, at))) later holds further in
        let old = place-behind f p x (spread (keys_within f) xs) far in
        let now = place-behind g q x (spread (keys_within g) xs) out in
        omega (arith, inner, old, now, ap text_length same)
  ]

  -- so it is in each node above
  pub further_above : IsFurther more p q f g base → (b : ℕ) → is_within f b base ≡ true → IsFurther more p q f g b
  further_above further b = down f o.ordered (λ b. is_within f b base ≡ true → IsFurther more p q f g b)
      (λ b each over. elim (eqb_tells b base) [
        | inl own ↦ subst (IsFurther more p q f g) (sym own.1) further
        | inr other ↦
            let out : is_within f base b ≡ false = above_not_below f b base o.ordered over other.1 in
            let child = is_within-child f b base o.ordered over (λ e. other.1 (sym e)) in
            let c : ℕ = child.child in
            let there : has b f ≡ true = has-parent_of f c b child.up in
            let one = each c child.up child.inside in
            let same : children_of g b ≡ children_of f b = o.children b there (inr out) in
            let at : is_among c (children_of f b) ≡ true = grind (arith, is_among-children_of f c b o.ordered, child.up, eqb_tells b b) in
            let ups : (x : ℕ) → is_among x (children_of f b) ≡ true → (parent_of f x ≡ Some b) × (parent_of g x ≡ Some b) =
            λ x among. (parent_here f b x o.ordered among, parent_here g b x o.order_after (ap (is_among x) same ∙ among)) in
            let up_g : parent_of g c ≡ Some b = (ups c at).1 in
            let holds : is_within f c m ≡ true = is_within-trans f c base m o.ordered child.inside o.holds in
            let off_f : p.key ≢ b = λ e. absurd (grind (arith, sym p_on ∙ e, holds, is_within-parent f c b o.ordered child.up)) in
            let inner = along b c (children_of f b) ups at holds one in
            let old = place-level f p b o.ordered there off_f in
            let now = place-level g q b o.order_after (has-parent_of g c b up_g) (apart b there other.1) in
            let list : place_along g q (spread (keys_within g) (children_of g b)) ≡ place_along g q (spread (keys_within g) (children_of f b)) =
            ap (λ xs. place_along g q (spread (keys_within g) xs)) same in
            record {
              within = is_within-trans g b c q.key o.order_after (below_parent g c b o.order_after up_g) one.within;
              place = omega (arith, inner, old, now, list, ap text_length (o.says b there (inr out)));
            }
      ]) b
