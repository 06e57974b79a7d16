-- A document has no number with a fraction.
use Rattle.std.proofs.Common.{◌≡◌, ◌∙◌, ◌||◌, Bool, false, refl, ap, arith}
use Rattle.serde_json.specs.Data.{Items, no_items, item}
use Rattle.serde_json.specs.Written.{has_float, items_have_float}
use Rattle.lx_trees.specs.Trees.{nil, tree}
use Rattle.lx_forest.specs.Forest.{Forest}
use Rattle.lx_json.specs.Exporting.{trees_data, first_data, exported}
use Rattle.lx_fields.proofs.Exported.{no-float}

both : (a b : Bool) → a ≡ false → b ≡ false → (a || b) ≡ false
both a b e g = ap (λ x. x || b) e ∙ g

pub trees-whole : (f : Forest) → items_have_float (trees_data f) ≡ false
unfolding trees_data
trees-whole nil = refl
trees-whole (tree l below rest) = both _ _ (no-float l.kind l.fields (trees_data below) (trees-whole below)) (trees-whole rest)

first-whole : (a b : Bool) → (a || b) ≡ false → a ≡ false
first-whole a b e = grind (arith, e)

of_first : (ds : Items) → items_have_float ds ≡ false → has_float (first_data ds) ≡ false
of_first no_items e = refl
of_first (item d ds) e = first-whole (has_float d) (items_have_float ds) e

pub exported-whole : (f : Forest) → has_float (exported f) ≡ false
unfolding exported
exported-whole f = both _ false (of_first (trees_data f) (trees-whole f)) refl
