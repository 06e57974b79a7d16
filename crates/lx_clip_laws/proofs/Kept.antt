-- What is kept of each node of a forest, tree by tree: its parent may hold it.
use Rattle.std.proofs.Common.{◌≡◌, ◌∙◌, ℕ, true, eqb, Option, None, Some, refl, ap, sym, subst, arith, inl, inr}
use Rattle.std.proofs.lemmas.Bool.{cases_Bool}
use Rattle.std.specs.Prelude.{option_map}
use Rattle.lx_trees.specs.Trees.{nil, tree, joined}
use Rattle.lx_node.specs.Kinds.{may_hold}
use Rattle.lx_trees.specs.Spots.{Spot, parent_at, children_at, spot_below}
use Rattle.lx_trees.specs.NamedTrees.{IsDistinct}
use Rattle.lx_trees.specs.NamedTrees as named
use Rattle.lx_node.specs.declared.kind.Kind.{Kind}
use Rattle.lx_forest.specs.Forest.{Forest, Label}
use Rattle.lx_forest.specs.Lookups.{key_of, spot, label_of, kind_of, alone, trees_of, children_of, holds, IsForest, IsHeld}
use Rattle.lx_forest.proofs.Edits.{key-spot}
use Rattle.lx_forest.proofs.Lookups.{alone-spot}
use Rattle.lx_json.proofs.BackTrees.{AreHeld, below_at, rest_at, first_at}

-- a forest in order, in which each node holds what it may
pub record IsKept (f : Forest) : Type 0 where
  pub order : IsForest f
  pub held : IsHeld may_hold f

-- what is below each of the trees is held, whatever holds the trees
abbrev AreSound : Forest → Type 0
AreSound nil = Unit {0}
AreSound (tree l below rest) = AreHeld l.kind below × AreSound rest

-- ---- node by node

-- a node, by the kinds of all
record IsFit (kinds : ℕ → Option Kind) (s : Spot Label) : Type 0 where
  kind : kinds s.label.key ≡ Some s.label.kind
  held : (p : ℕ) → s.parent ≡ Some p → holds may_hold (kinds p) (Some s.label.kind) ≡ true

are_held : (kinds : ℕ → Option Kind) (p : ℕ) (parent : Kind) (t : Forest) → IsDistinct key_of t → kinds p ≡ Some parent
    → ((q : ℕ) (s : Spot Label) → spot_below key_of (Some p) t q ≡ Some s → IsFit kinds s) → AreHeld parent t
are_held kinds p parent nil once up fit = tt
are_held kinds p parent (tree l below rest) once up fit =
    let own = fit l.key (record { label = l; parent = Some p; children = named.names key_of below }) (first_at (Some p) l below rest) in (
      sym (ap (λ o. holds may_hold o (Some l.kind)) up) ∙ own.held p refl,
      are_held kinds l.key l.kind below (λ q. omega (arith, once q)) own.kind (λ q s e. fit q s (below_at (Some p) l below rest q s once e)),
      are_held kinds p parent rest (λ q. omega (arith, once q)) up (λ q s e. fit q s (rest_at (Some p) l below rest q s once e)),
    )

are_sound : (kinds : ℕ → Option Kind) (t : Forest) → IsDistinct key_of t → ((q : ℕ) (s : Spot Label) → spot_below key_of None t q ≡ Some s → IsFit kinds s)
    → AreSound t
are_sound kinds nil once fit = tt
are_sound kinds (tree l below rest) once fit =
    let own = fit l.key (record { label = l; parent = None; children = named.names key_of below }) (first_at None l below rest) in (
      are_held kinds l.key l.kind below (λ q. omega (arith, once q)) own.kind (λ q s e. fit q s (below_at None l below rest q s once e)),
      are_sound kinds rest (λ q. omega (arith, once q)) (λ q s e. fit q s (rest_at None l below rest q s once e)),
    )

label_here : (f : Forest) (q : ℕ) (s : Spot Label) → spot f q ≡ Some s → label_of f q ≡ Some s.label
label_here f q s e = ap (λ o. option_map (λ (s : Spot Label). s.label) o) e

kind_here : (f : Forest) (q : ℕ) (s : Spot Label) → spot f q ≡ Some s → kind_of f q ≡ Some s.label.kind
kind_here f q s e = ap (λ o. option_map (λ (l : Label). l.kind) o) (label_here f q s e)

fits : (f : Forest) → IsKept f → (q : ℕ) (s : Spot Label) → spot f q ≡ Some s → IsFit (kind_of f) s
fits f kept q s e = record {
  kind = ap (kind_of f) (key-spot f q s e) ∙ kind_here f q s e;
  held = λ p up. sym (ap (holds may_hold (kind_of f p)) (kind_here f q s e)) ∙ kept.held.each q p (ap parent_at e ∙ up);
}

kept_sound : (f : Forest) → IsKept f → AreSound f
kept_sound f kept = are_sound (kind_of f) f kept.order.once (fits f kept)

-- ---- the tree of a key

held_sound : (parent : Kind) (t : Forest) → AreHeld parent t → AreSound t
held_sound parent nil held = tt
held_sound parent (tree l below rest) held = (held.1, held_sound parent rest held.2)

sound_joined : (a b : Forest) → AreSound a → AreSound b → AreSound (joined a b)
sound_joined nil b x y = y
sound_joined (tree l below rest) b x y = (x.0, sound_joined rest b x.1 y)

sound_alone : (k : ℕ) (t : Forest) → AreSound t → AreSound (alone k t)
sound_alone k nil sound = tt
sound_alone k (tree l below rest) sound =
    let later = sound_alone k rest sound.1 in
    elim (cases_Bool (eqb l.key k)) [
      | inl is ↦ rw is (sound.0, later)
      | inr is ↦ rw is (sound_joined (alone k below) (alone k rest) (sound_alone k below (held_sound l.kind below sound.0)) later)
    ]

-- the children of a node of this kind
pub kept_below : (f : Forest) (p : ℕ) (kind : Kind) → IsKept f → kind_of f p ≡ Some kind → AreHeld kind (trees_of f (children_of f p))
kept_below f p kind kept is = by_spot (spot f p) refl is where
  by_spot : (o : Option (Spot Label)) → spot f p ≡ o → option_map (λ (l : Label). l.kind) (option_map (λ (s : Spot Label). s.label) o) ≡ Some kind
      → AreHeld kind (trees_of f (children_at o))
  by_spot None at e = absurd (cc)
  by_spot (Some s) at e =
      let same : s.label.kind ≡ kind = cc in
      let sound : AreSound (tree s.label (trees_of f s.children) nil) = subst AreSound (alone-spot f p s kept.order at) (sound_alone p f (kept_sound f kept)) in
      subst (λ k. AreHeld k (trees_of f s.children)) same sound.0

-- a node that isn't there has none
pub none_below : (f : Forest) (p : ℕ) → kind_of f p ≡ None → trees_of f (children_of f p) ≡ nil
none_below f p none = by_spot (spot f p) none where
  by_spot : (o : Option (Spot Label)) → option_map (λ (l : Label). l.kind) (option_map (λ (s : Spot Label). s.label) o) ≡ None
      → trees_of f (children_at o) ≡ nil
  by_spot None e = refl
  by_spot (Some s) e = absurd (cc)
