-- A change of the links of one entry, as a change of a table.
use Rattle.std.proofs.Common.{ℕ, ◌≡◌, Bool, true, false, cond, eqb, Option, option_map, inl, inr, refl, sym, ap, ◌∙◌}
use Rattle.std.proofs.lemmas.Bool.Decides.{eqb_tells}
use Rattle.lx_trees.proofs.Spots.{option_map-same}
use Rattle.lx_joints.specs.Changes.{changed, Differs}
use Rattle.lx_joints.specs.declared.links.Links.{Links}
use Rattle.lx_joints.specs.declared.links.Change.{Change}
use Rattle.lx_joints.specs.declared.links.Change.TheVariants.{Next, Prev, Place, Left, Joined}

-- the links of other entries stay
pub changed-elsewhere : (c : Change) (l : Links) → changed c false l ≡ l
changed-elsewhere (Next next) l = refl
changed-elsewhere (Prev prev) l = refl
changed-elsewhere (Place parent prev next) l = refl
changed-elsewhere (Left prev next) l = refl
changed-elsewhere (Joined name behind before) l = refl

module _ {E : Type 0} (change : Bool → E → E) (stays : (e : E) → change false e ≡ e) where
  elsewhere : (b : Bool) (o : Option E) → b ≡ false → o ≡ option_map (change b) o
  elsewhere b o e = sym (option_map-same (change b) (λ n. ap (λ b. change b n) e ∙ stays n) o)

  -- what changes one entry alone changes it if it is the one
  pub one_differs : (old new : ℕ → Option E) (k : ℕ) → ((q : ℕ) → new q ≡ cond (eqb q k) (option_map (change true) (old k)) (old q))
      → Differs (λ q. change (eqb q k)) old new
  one_differs old new k each = record {
    each = λ q. each q ∙ elim (eqb_tells q k) [
      | inl here ↦ ap (λ b. cond b (option_map (change true) (old k)) (old q)) here.0
          ∙ ap (λ x. option_map (change true) (old x)) (sym here.1) ∙ ap (λ b. option_map (change b) (old q)) (sym here.0)
      | inr other ↦ ap (λ b. cond b (option_map (change true) (old k)) (old q)) other.0 ∙ elsewhere (eqb q k) (old q) other.0
    ];
  }
