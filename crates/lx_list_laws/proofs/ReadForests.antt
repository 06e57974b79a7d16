-- What is read below the nodes of two forests, of which one came out of the other without a change of any text.
use Rattle.std.proofs.Common.{◌≡◌, ◌∙◌, ℕ, Bool, true, false, cond, eqb, List, [], ◌∷◌, ◌++◌, Option, Some, refl, sym, ap, ap₂, arith, append_assoc, inl, inr}
use Rattle.std.proofs.lemmas.Bool.{cases_Bool}
use Rattle.std.proofs.lemmas.Bool.Decides.{eqb_tells}
use Rattle.lx_trees.specs.Siblings.{is_among, is_named, names_with}
use Rattle.lx_forest.specs.Forest.{Forest}
use Rattle.lx_forest.specs.Lookups.{has, parent_of, children_of, IsForest}
use Rattle.lx_draft.proofs.Gaps.{parent_here}
use Rattle.lx_edit_laws.specs.Reading.{text_at, read_below}
use Rattle.lx_edit_laws.proofs.Reading.{reads_of, reads_of-append, reads-same, read-level, absent, IsKnown, reads_by, reads_known}

-- two forests in order, in which each key has the same text
pub record AreTold (f g : Forest) : Type 0 where
  pub before : IsForest f
  pub behind : IsForest g
  pub texts : (q : ℕ) → text_at g q ≡ text_at f q

-- The same is read below each node but for some, where it is below its children taken together.
pub reads_told : (f g : Forest) (skip : ℕ → Bool) → AreTold f g
    → ((b : ℕ) → skip b ≡ false → IsKnown f g skip b → reads_of g (children_of g b) ≡ reads_of f (children_of f b)) → (b : ℕ) → skip b ≡ false
    → read_below g b ≡ read_below f b
reads_told f g skip t level = reads_by f g skip t.before t.behind (λ b clear k. record { text = t.texts b; below = level b clear k })

-- where each node has the children that it had
pub reads_alike : (f g : Forest) → AreTold f g → ((q : ℕ) → children_of g q ≡ children_of f q) → (b : ℕ) → read_below g b ≡ read_below f b
reads_alike f g t same b =
    reads_told f g (λ q. false) t (λ b clear k. ap (reads_of g) (same b) ∙ reads_known f g (λ q. false) b t.before k (λ c up. refl)) b refl

-- ---- lists

reads-with : (f g : Forest) (before : Option ℕ) (n : ℕ) (xs : List ℕ) → read_below g n ≡ [] → ((q : ℕ) → is_among q xs ≡ true → read_below g q ≡ read_below f q)
    → reads_of g (names_with before (n ∷ []) xs) ≡ reads_of f xs
reads-with f g before n [] silent each = ap (λ t. t ++ []) silent
reads-with f g before n (x ∷ xs) silent each = elim (cases_Bool (is_named before x)) [
  | inl is ↦ rw is (ap₂ (λ a b. a ++ b) silent (reads-same f g (x ∷ xs) each))
  | inr is ↦ rw is (ap₂ (λ a b. a ++ b) (each x (grind (arith, eqb_tells x x))) (reads-with f g before n xs silent (λ q among. each q (grind (arith, among)))))
]

-- two beside each other that read the same together
pub reads-pair : (f g : Forest) (front rest : List ℕ) (a b : ℕ) → reads_of g front ≡ reads_of f front → reads_of g rest ≡ reads_of f rest
    → read_below g a ++ read_below g b ≡ read_below f a ++ read_below f b → reads_of g (front ++ (a ∷ b ∷ rest)) ≡ reads_of f (front ++ (a ∷ b ∷ rest))
reads-pair f g front rest a b one other both =
    reads_of-append g front (a ∷ b ∷ rest)
    ∙ ap₂ (λ x y. x ++ y) one (
    sym (append_assoc (read_below g a) (read_below g b) (reads_of g rest))
    ∙ ap₂ (λ x y. x ++ y) both other
    ∙ append_assoc (read_below f a) (read_below f b) (reads_of f rest)
    )
    ∙ sym (reads_of-append f front (a ∷ b ∷ rest))

-- ---- a node n without a text came among the children of p, and nothing else changed

pub record CameNew (f g : Forest) (n p : ℕ) (before : Option ℕ) : Type 0 where
  pub told : AreTold f g
  pub free : has n f ≡ false
  pub other : eqb n p ≡ false
  pub up : (q : ℕ) → parent_of g q ≡ cond (eqb q n) (Some p) (parent_of f q)
  pub children : (q : ℕ) → children_of g q ≡ cond (eqb q p) (names_with before (n ∷ []) (children_of f q)) (children_of f q)

module _ (f g : Forest) (n p : ℕ) (before : Option ℕ) (c : CameNew f g n p before) where
  pub came_here : children_of g p ≡ names_with before (n ∷ []) (children_of f p)
  came_here = grind (arith, c.children p, eqb_tells p p)

  pub came_elsewhere : (q : ℕ) → eqb q p ≡ false → children_of g q ≡ children_of f q
  came_elsewhere q other = grind (arith, c.children q, other)

  pub came_empty : children_of g n ≡ []
  came_empty = came_elsewhere n c.other ∙ (absent f n c.free).children

  pub read_came : (b : ℕ) → read_below g b ≡ read_below f b
  read_came b =
      let t = c.told in
      let silent : read_below g n ≡ [] = read-level g n t.behind ∙ ap₂ (λ x ks. x ++ reads_of g ks) (t.texts n ∙ (absent f n c.free).text) came_empty in
      reads_told f g (λ q. false) t (λ b clear k. elim (eqb_tells b p) [
        | inl here ↦ rw here.1 (
            ap (reads_of g) came_here
            ∙ reads-with f g before n (children_of f p) silent (λ q among. k.child q (parent_here f p q t.before among ∙ ap (λ x. Some x) (sym here.1)) refl)
            )
        | inr other ↦ ap (reads_of g) (came_elsewhere b other.0) ∙ reads_known f g (λ q. false) b t.before k (λ q up. refl)
      ]) b refl
