-- A walk from child to child that gathers a piece from each.
use Rattle.std.proofs.Common.{◌≡◌, ◌∙◌, ℕ, ◌+◌, ◌<◌, ◌≤◌, true, List, [], ◌∷◌, ◌++◌, length, Option, Some, refl, sym, ap, subst, arith, append_assoc}
use Rattle.std.specs.Prelude.{sum_by}
use Rattle.std.proofs.lemmas.List.Sums.{sum_by-cons}
use Rattle.lx_trees.specs.Siblings.{is_among, next_in, from_name}
use Rattle.lx_trees.proofs.Positions.{from_name-step}
use Rattle.lx_trees.proofs.Siblings.{next_in-among}
use Rattle.lx_forest.specs.Forest.{Forest}
use Rattle.lx_forest.specs.Lookups.{parent_of, children_of, children_below, next_of}
use Rattle.lx_forest.proofs.Lookups.{NoRepeats-children_of}
use Rattle.lx_links.specs.Stands.{Sound}
use Rattle.lx_links.proofs.Placed.{parent_of-child}
use Rattle.lx_links.proofs.Up.{in_order}
use Rattle.lx_outline.specs.Reading.{gathered}

-- It has come to this child, if there is one. What was gathered, with what is left from there on, is all, and so is what was
-- read with what that takes.
pub record IsOnWay (f : Forest) (parent : ℕ) (piece : Forest → ℕ → List ℕ) (cost : Forest → ℕ → ℕ) (start : List ℕ) (before : ℕ)
    (now : Forest) (text : List ℕ) (count : ℕ) (at : Option ℕ) : Type 0 where
  pub same : now ≡ f
  pub among : (k : ℕ) → at ≡ Some k → is_among k (children_of f parent) ≡ true
  pub all : text ++ gathered (piece f) (from_name at (children_of f parent)) ≡ start ++ gathered (piece f) (children_of f parent)
  pub reads : count + sum_by (cost f) (from_name at (children_of f parent)) ≤ before + sum_by (cost f) (children_of f parent)

-- the next sibling of a child, and what is left from a child on
record HasNext (f : Forest) (parent k : ℕ) : Type 0 where
  pub next_is : next_of f k ≡ next_in (children_of f parent) k
  pub left : from_name (Some k) (children_of f parent) ≡ k ∷ from_name (next_in (children_of f parent) k) (children_of f parent)

has_next : (f : Forest) (parent k : ℕ) → Sound f → is_among k (children_of f parent) ≡ true → HasNext f parent k
has_next f parent k s among =
    let up : parent_of f k ≡ Some parent = parent_of-child f k parent s among in
    record {
      next_is = ap (λ o. next_in (children_below f o) k) up;
      left = from_name-step (children_of f parent) k (NoRepeats-children_of f parent (in_order f k parent s up)) among;
    }

left_from : (f : Forest) (parent k : ℕ) (at next : Option ℕ) → Sound f → at ≡ Some k → is_among k (children_of f parent) ≡ true → next ≡ next_of f k
    → from_name at (children_of f parent) ≡ k ∷ from_name next (children_of f parent)
left_from f parent k at next s is among after =
    let h = has_next f parent k s among in
    ap (λ o. from_name o (children_of f parent)) is ∙ h.left ∙ ap (λ o. k ∷ from_name o (children_of f parent)) (sym (after ∙ h.next_is))

-- one child more
module _ {f : Forest} {parent : ℕ} {piece : Forest → ℕ → List ℕ} {cost : Forest → ℕ → ℕ} {start : List ℕ} {before : ℕ} {now : Forest} {text : List ℕ}
    {count : ℕ} {at : Option ℕ} {k : ℕ} (sound : Sound now) (way : IsOnWay f parent piece cost start before now text count at) (is : at ≡ Some k) where
  sound_first : Sound f
  sound_first = subst Sound way.same sound

  left_next : (next : Option ℕ) → next ≡ next_of now k → from_name at (children_of f parent) ≡ k ∷ from_name next (children_of f parent)
  left_next next after = left_from f parent k at next sound_first is (way.among k is) (after ∙ ap (λ f. next_of f k) way.same)

  cost_next : (next : Option ℕ) → next ≡ next_of now k
      → sum_by (cost f) (from_name at (children_of f parent)) ≡ cost now k + sum_by (cost f) (from_name next (children_of f parent))
  cost_next next after =
      ap (sum_by (cost f)) (left_next next after) ∙ sum_by-cons (cost f) k (from_name next (children_of f parent))
      ∙ ap (λ f'. cost f' k + sum_by (cost f) (from_name next (children_of f parent))) (sym way.same)

  pub way_more : (later : Forest) (more : List ℕ) (spent : ℕ) (next : Option ℕ) → later ≡ now → more ≡ text ++ piece now k → next ≡ next_of now k
      → spent ≤ count + cost now k → IsOnWay f parent piece cost start before later more spent next
  way_more later more spent next same pushed after few = record {
    same = same ∙ way.same;
    among = λ q e.
        next_in-among (children_of f parent) k q
        (sym (has_next f parent k sound_first (way.among k is)).next_is ∙ sym (after ∙ ap (λ f. next_of f k) way.same) ∙ e);
    all = ap (λ xs. xs ++ gathered (piece f) (from_name next (children_of f parent))) (pushed ∙ ap (λ f. text ++ piece f k) way.same)
        ∙ append_assoc text (piece f k) (gathered (piece f) (from_name next (children_of f parent)))
        ∙ sym (ap (λ ks. text ++ gathered (piece f) ks) (left_next next after))
        ∙ way.all;
    reads = omega (arith, way.reads, few, cost_next next after);
  }

  -- fewer are left
  pub way_fewer : (next : Option ℕ) → next ≡ next_of now k
      → length (from_name next (children_of f parent)) < length (from_name at (children_of f parent))
  way_fewer next after = omega (arith, ap length (left_next next after))

  -- and what was read is within what all take
  pub way_within : (spent : ℕ) → spent ≤ count + cost now k → spent ≤ before + sum_by (cost f) (children_of f parent)
  way_within spent few = omega (arith, way.reads, few, cost_next (next_of now k) refl)

pub ones : (ks : List ℕ) → sum_by (λ (k : ℕ). 1) ks ≡ length ks
ones [] = refl
ones (k ∷ ks) = omega (arith, sum_by-cons (λ (k : ℕ). 1) k ks, ones ks)
