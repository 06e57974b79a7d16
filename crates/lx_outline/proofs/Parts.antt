-- The parts of a list of events, key by key.
use Rattle.std.proofs.Common.{◌≡◌, ◌∙◌, ◌⊎◌, ℕ, true, false, List, [], ◌∷◌, Some, sym, ap, arith, inl, inr}
use Rattle.std.proofs.lemmas.Bool.Decides.{eqb_tells}
use Rattle.lx_trees.specs.Siblings.{is_among, is_named}
use Rattle.lx_forest.specs.Forest.{Forest}
use Rattle.lx_forest.specs.Lookups.{has, parent_of, children_of}
use Rattle.lx_links.specs.Stands.{Sound}
use Rattle.lx_links.proofs.Placed.{child_named, parent_of-child}
use Rattle.lx_outline.specs.Parts.{AreGone, HasLost, Grows}

-- ---- what is gone

-- of these children those that are gone are left, or are among the keys
pub record AreTaken (old new : Forest) (start keys all left : List ℕ) : Type 0 where
  pub gone : AreGone old new keys
  pub grows : Grows start keys
  pub within : (c : ℕ) → is_among c left ≡ true → is_among c all ≡ true
  pub each : (c : ℕ) → is_among c all ≡ true → has c new ≡ false → (is_among c left ≡ true) ⊎ (is_among c keys ≡ true)

-- what a child of those that are left is
pub taken_child : (old new : Forest) (start keys all left rest : List ℕ) (p k : ℕ) → Sound old → all ≡ children_of old p → AreTaken old new start keys all left
    → left ≡ k ∷ rest
    → parent_of old k ≡ Some p
taken_child old new start keys all left rest p k sound is taken at =
    parent_of-child old k p sound (sym (ap (is_among k) is) ∙ taken.within k (ap (is_among k) at ∙ grind (arith, eqb_tells k k)))

-- once all children are taken, all that is gone of them is told
pub taken_lost : (old new : Forest) (start keys all left : List ℕ) (k : ℕ) → Sound old → all ≡ children_of old k → left ≡ []
    → AreTaken old new start keys all left → HasLost old new k keys
taken_lost old new start keys all left k sound is none taken q up out =
    let child : is_among q all ≡ true =
    ap (is_among q) is ∙ child_named old q k sound ∙ ap (λ o. is_named o k) up ∙ grind (arith, eqb_tells k k) in
    elim (taken.each q child out) [
      | inl waits ↦ absurd (let h : true ≡ false = sym waits ∙ ap (is_among q) none in cc)
      | inr done ↦ done
    ]
