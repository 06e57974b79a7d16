-- What marking nodes marks: one equation for all keys.
use Rattle.std.proofs.Common.{◌≡◌, ◌∙◌, ℕ, Bool, true, false, cond, eqb, ◌||◌, ◌&&◌, List, [], ◌∷◌, Option, None, Some, refl, ap, arith, inl, inr}
use Rattle.std.specs.Prelude.{is_some, option_map}
use Rattle.std.proofs.lemmas.Bool.Decides.{eqb_tells}
use Rattle.std.proofs.lemmas.Bool.{cases_Bool}
use Rattle.lx_trees.specs.Siblings.{is_among}
use Rattle.lx_node.specs.Kinds.{is_element}
use Rattle.lx_trees.specs.Spots.{Spot}
use Rattle.lx_node.specs.declared.kind.Kind.{Kind}
use Rattle.lx_trees.proofs.Subtrees.{count-alone-le}
use Rattle.lx_marks.specs.Marks.{Marked, is_touched, is_noted, with_leaf, with_marked}
use Rattle.lx_marks.proofs.Told.{touched-leaf, touched-element, noted-leaf, noted-element}
use Rattle.lx_forest.specs.Forest.{Forest, Label}
use Rattle.lx_forest.specs.Lookups.{has, spot, key_of, kind_of, parent_of, ancestors, is_within, IsForest}
use Rattle.lx_forest.proofs.Edits.{is_some-spot}
use Rattle.lx_forest.proofs.Lookups.{has-child}
use Rattle.lx_forest.proofs.Walks.{no_parent, ancestors-top, ancestors-step}
use Rattle.lx_forest.proofs.Within.{is_within-ancestors, is_within-trans}
use Rattle.lx_draft.specs.Marking.{mark_above, mark_itself, mark_node, mark_nodes}

-- ---- a node and what is above it

touched-above : (ks : List ℕ) (m : Marked) (q : ℕ) → is_touched (mark_above ks m) q ≡ is_touched m q
touched-above [] m q = refl
touched-above (k ∷ ks) m q =
    let rest : is_touched (mark_above ks (with_marked k false m)) q ≡ is_touched (with_marked k false m) q = touched-above ks (with_marked k false m) q in
    let own : is_touched (with_marked k false m) q ≡ (is_touched m q || (eqb q k && false)) = touched-element k false m q in
    rest ∙ own ∙ or_none (is_touched m q) (eqb q k) where
      or_none : (a b : Bool) → (a || (b && false)) ≡ a
      or_none a b = grind arith

noted-above : (ks : List ℕ) (m : Marked) (q : ℕ) → is_noted (mark_above ks m) q ≡ (is_noted m q || is_among q ks)
noted-above [] m q = or_false (is_noted m q) where
  or_false : (a : Bool) → a ≡ (a || false)
  or_false a = grind arith
noted-above (k ∷ ks) m q =
    noted-above ks (with_marked k false m) q
    ∙ ap (λ b. b || is_among q ks) (noted-element k false m q)
    ∙ apart (is_noted m q) (eqb q k) (eqb k q) (is_among q ks) (same_test q k) where
      same_test : (a b : ℕ) → eqb a b ≡ eqb b a
      same_test a b = grind (arith, eqb_tells a b, eqb_tells b a)

      apart : (a b c d : Bool) → b ≡ c → ((a || b) || d) ≡ (a || (c || d))
      apart a b c d e = grind (arith, e)

touched-by : (element : Bool) (k : ℕ) (m : Marked) (q : ℕ) → is_touched (cond element (with_marked k true m) (with_leaf k m)) q ≡ (is_touched m q || eqb q k)
touched-by true k m q = touched-element k true m q ∙ and_true (is_touched m q) (eqb q k) where
  and_true : (a b : Bool) → (a || (b && true)) ≡ (a || b)
  and_true a b = grind arith
touched-by false k m q = touched-leaf k m q

noted-by : (element : Bool) (k : ℕ) (m : Marked) (q : ℕ) → is_noted (cond element (with_marked k true m) (with_leaf k m)) q ≡ (is_noted m q || eqb q k)
noted-by true k m q = noted-element k true m q
noted-by false k m q = noted-leaf k m q

no_more : (a b : Bool) → a ≡ (a || (b && false))
no_more a b = grind arith

as_told : (a b : Bool) → (a || b) ≡ (a || (b && true))
as_told a b = grind arith

touched-itself : (o : Option Kind) (k : ℕ) (m : Marked) (q : ℕ) → is_touched (mark_itself o k m) q ≡ (is_touched m q || (eqb q k && is_some o))
touched-itself None k m q = no_more (is_touched m q) (eqb q k)
touched-itself (Some kind) k m q = touched-by (is_element kind) k m q ∙ as_told (is_touched m q) (eqb q k)

pub noted-itself : (o : Option Kind) (k : ℕ) (m : Marked) (q : ℕ) → is_noted (mark_itself o k m) q ≡ (is_noted m q || (eqb q k && is_some o))
noted-itself None k m q = no_more (is_noted m q) (eqb q k)
noted-itself (Some kind) k m q = noted-by (is_element kind) k m q ∙ as_told (is_noted m q) (eqb q k)

some_mapped : {X Y : Type 0} (f : X → Y) (o : Option X) → is_some (option_map f o) ≡ is_some o
some_mapped f None = refl
some_mapped f (Some x) = refl

pub is_some-kind_of : (f : Forest) (k : ℕ) → is_some (kind_of f k) ≡ has k f
is_some-kind_of f k =
    some_mapped (λ (l : Label). l.kind) (option_map (λ (s : Spot Label). s.label) (spot f k))
    ∙ some_mapped (λ (s : Spot Label). s.label) (spot f k) ∙ is_some-spot f k

-- a node alone is marked itself
touched-node : (f : Forest) (k : ℕ) (m : Marked) (q : ℕ) → is_touched (mark_node f k m) q ≡ (is_touched m q || (eqb q k && has k f))
unfolding mark_node
touched-node f k m q =
    touched-above (ancestors f k) (mark_itself (kind_of f k) k m) q
    ∙ touched-itself (kind_of f k) k m q
    ∙ ap (λ b. is_touched m q || (eqb q k && b)) (is_some-kind_of f k)

-- nothing is above a key that isn't there, nor is that below anything
within_there : (f : Forest) (q k : ℕ) → has k f ≡ false → is_within f q k ≡ false
within_there f q k none = grind (arith, none, count-alone-le key_of k q f)

-- a node is in the tree of those that are marked with it
up_from : (f : Forest) (q k : ℕ) → IsForest f → ((eqb q k && has k f) || is_among q (ancestors f k)) ≡ is_within f q k
up_from f q k h =
    elim (cases_Bool (has k f)) [
      | inl there ↦ grind (arith, there, is_within-ancestors f q k h there, eqb_tells q k, eqb_tells k q)
      | inr absent ↦ grind (arith, absent, within_there f q k absent, ap (is_among q) (ancestors-top f k (no_parent f k absent)))
    ]

noted-node : (f : Forest) (k : ℕ) (m : Marked) (q : ℕ) → IsForest f → is_noted (mark_node f k m) q ≡ (is_noted m q || is_within f q k)
unfolding mark_node
noted-node f k m q h =
    noted-above (ancestors f k) (mark_itself (kind_of f k) k m) q
    ∙ ap (λ b. b || is_among q (ancestors f k)) (noted-itself (kind_of f k) k m q ∙ ap (λ b. is_noted m q || (eqb q k && b)) (is_some-kind_of f k))
    ∙ all_told (is_noted m q) (eqb q k && has k f) (is_among q (ancestors f k)) (is_within f q k) (up_from f q k h) where
      all_told : (a b c d : Bool) → (b || c) ≡ d → ((a || b) || c) ≡ (a || d)
      all_told a b c d e = grind (arith, e)

-- ---- several nodes

-- whether one of these keys is in the tree of q
abbrev pub is_over : Forest → ℕ → List ℕ → Bool
is_over f q [] = false
is_over f q (k ∷ ks) = is_within f q k || is_over f q ks

pub touched-nodes : (f : Forest) (ks : List ℕ) (m : Marked) (q : ℕ) → is_touched (mark_nodes f ks m) q ≡ (is_touched m q || (is_among q ks && has q f))
touched-nodes f [] m q = no_one (is_touched m q) (has q f) where
  no_one : (a b : Bool) → a ≡ (a || (false && b))
  no_one a b = grind arith
touched-nodes f (k ∷ ks) m q =
    touched-nodes f ks (mark_node f k m) q
    ∙ ap (λ b. b || (is_among q ks && has q f)) (touched-node f k m q)
    ∙ elim (eqb_tells q k) [
      | inl same ↦ grind (arith, same.0, same.1, eqb_tells k q)
      | inr other ↦ grind (arith, other.0, eqb_tells k q)
    ]

pub noted-nodes : (f : Forest) (ks : List ℕ) (m : Marked) (q : ℕ) → IsForest f → is_noted (mark_nodes f ks m) q ≡ (is_noted m q || is_over f q ks)
noted-nodes f [] m q h = no_one (is_noted m q) where
  no_one : (a : Bool) → a ≡ (a || false)
  no_one a = grind arith
noted-nodes f (k ∷ ks) m q h =
    noted-nodes f ks (mark_node f k m) q h
    ∙ ap (λ b. b || is_over f q ks) (noted-node f k m q h)
    ∙ apart (is_noted m q) (is_within f q k) (is_over f q ks) where
      apart : (a b c : Bool) → ((a || b) || c) ≡ (a || (b || c))
      apart a b c = grind arith

-- ---- up

within_parent : (f : Forest) (q p : ℕ) → IsForest f → parent_of f q ≡ Some p → is_within f p q ≡ true
within_parent f q p h up =
    is_within-ancestors f p q h (has-child f q p up) ∙ ap (λ ks. is_among p (q ∷ ks)) (ancestors-step f q p h up) ∙ grind (arith, eqb_tells p p)

-- a parent is over the same keys
pub over_up : (f : Forest) (q p : ℕ) (ks : List ℕ) → IsForest f → parent_of f q ≡ Some p → is_over f q ks ≡ true → is_over f p ks ≡ true
over_up f q p [] h up e = e
over_up f q p (k ∷ ks) h up e =
    grind (arith, e, is_within-trans f p q k h (within_parent f q p h up), over_up f q p ks h up)

-- and over each child among them
pub over_child : (f : Forest) (q p : ℕ) (ks : List ℕ) → IsForest f → parent_of f q ≡ Some p → is_among q ks ≡ true → is_over f p ks ≡ true
over_child f q p [] h up e = absurd (grind (arith, e))
over_child f q p (k ∷ ks) h up e =
    grind (arith, e, within_parent f q p h up, over_child f q p ks h up, eqb_tells k q)
