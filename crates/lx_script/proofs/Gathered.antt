-- Lists that are read item by item.
use Rattle.std.proofs.Common.{◌≡◌, List, [], ◌∷◌, ◌++◌, Option, None, Some, option_map, refl, ap, append_assoc}
use Rattle.std.specs.Option.{option_zip}
use Rattle.serde_json.specs.Data.{Data, Items}
use Rattle.lx_fields.specs.Values.{all_of}

-- what is made so far, with what the items that are left will give, is what all will give
abbrev pub IsGathered : {A : Type 0} → (Data → Option A) → List A → Items → Items → Type 0
IsGathered reads made left all = option_map (λ more. made ++ more) (all_of reads left) ≡ all_of reads all

-- one more that is made goes from what is left to what is made
pub made_more : {A : Type 0} (made : List A) (a : A) (o : Option (List A))
    → option_map (λ more. (made ++ a ∷ []) ++ more) o ≡ option_map (λ more. made ++ more) (option_map (λ p. p.0 ∷ p.1) (option_zip (Some a) o))
made_more made a None = refl
made_more made a (Some more) = ap (λ all. Some all) (append_assoc made (a ∷ []) more)
