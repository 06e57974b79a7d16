-- The way up to the first node that passes a test.
use Rattle.std.proofs.Common.{◌≡◌, refl, ℕ, Bool, true, false, List, ◌∷◌, Option, None, Some, option_map, sym, ap}
use Rattle.std.specs.Prelude.{find}
use Rattle.lx_forest.specs.Forest.{Forest}
use Rattle.lx_forest.specs.Lookups.{parent_of, ancestors}
use Rattle.lx_forest.proofs.Walks.{ancestors-top, ancestors-step}
use Rattle.lx_node.specs.Kinds.{is_cell}
use Rattle.lx_blocks.specs.Blocks.{is_at, frame_of}
use Rattle.lx_blocks.specs.Walks.{upward_from}
use Rattle.lx_links.specs.Stands.{Sound}
use Rattle.lx_links.proofs.Up.{in_order}

-- those above a node are its parent and those above that
pub upward_on : (f : Forest) (q : ℕ) (above : Option ℕ) → Sound f → above ≡ parent_of f q → ancestors f q ≡ upward_from f above
upward_on f q None s e = ancestors-top f q (sym e)
upward_on f q (Some p) s e = ancestors-step f q p (in_order f q p s (sym e)) (sym e)

-- what a search up from a node comes to
pub search_told : (found told : Option ℕ) → option_map (λ (k : ℕ). k) found ≡ told → found ≡ told
search_told None told e = e
search_told (Some k) told e = e

pub find_up : (test : ℕ → Bool) (f : Forest) (q p : ℕ) → Sound f → parent_of f q ≡ Some p → test q ≡ false
    → find test (q ∷ ancestors f q) ≡ find test (p ∷ ancestors f p)
find_up test f q p s up other = rw other (ap (find test) (ancestors-step f q p (in_order f q p s up) up))

pub find_top : (test : ℕ → Bool) (f : Forest) (q : ℕ) → parent_of f q ≡ None → test q ≡ false → find test (q ∷ ancestors f q) ≡ None
find_top test f q top other = rw other (ap (find test) (ancestors-top f q top))

pub find_here : (test : ℕ → Bool) (q : ℕ) (ks : List ℕ) → test q ≡ true → find test (q ∷ ks) ≡ Some q
find_here test q ks so = rw so refl

pub frame_up : (f : Forest) (q p : ℕ) → Sound f → parent_of f q ≡ Some p → frame_of f q ≡ find (is_at is_cell f) (p ∷ ancestors f p)
frame_up f q p s up = ap (find (is_at is_cell f)) (ancestors-step f q p (in_order f q p s up) up)

pub frame_top : (f : Forest) (q : ℕ) → parent_of f q ≡ None → frame_of f q ≡ None
frame_top f q top = ap (find (is_at is_cell f)) (ancestors-top f q top)
