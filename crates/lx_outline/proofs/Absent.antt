-- What is read of a key that a tree doesn't have.
use Rattle.std.proofs.Common.{◌≡◌, ◌∙◌, ℕ, false, None, ap}
use Rattle.std.specs.Prelude.{option_map}
use Rattle.lx_trees.specs.Spots.{Spot, parent_at}
use Rattle.lx_node.specs.declared.kind.Kind.{Kind}
use Rattle.lx_forest.specs.Forest.{Label, Forest}
use Rattle.lx_forest.specs.Lookups.{has, label_of, kind_of, alone}
use Rattle.lx_forest.specs.Weights.{weight_in, own_weight}
use Rattle.lx_links.proofs.Seen.{no_spot}
use Rattle.lx_outline.specs.Outline.{text_of, heading_by, heading_at}
use Rattle.lx_outline.specs.Reading.{heading_over, heading_of}
use Rattle.lx_outline.specs.Reading as reading

abbrev kind_at : Label → Kind
kind_at l = l.kind

label_none : (f : Forest) (q : ℕ) → has q f ≡ false → label_of f q ≡ None
label_none f q out = ap (option_map (λ (s : Spot Label). s.label)) (no_spot f q out)

kind_none : (f : Forest) (q : ℕ) → has q f ≡ false → kind_of f q ≡ None
kind_none f q out = ap (option_map kind_at) (label_none f q out)

pub no_weight : (of : Label → ℕ) (f : Forest) (q : ℕ) → has q f ≡ false → own_weight of f q ≡ 0
no_weight of f q out = ap (weight_in of) (label_none f q out)

pub no_heading_over : (f : Forest) (q : ℕ) → has q f ≡ false → heading_of f q ≡ None
no_heading_over f q out = ap (reading.heading_by f q) (kind_none f q out) ∙ ap (heading_over f) (ap parent_at (no_spot f q out))

pub no_heading : (f : Forest) (q : ℕ) → has q f ≡ false → heading_at f q ≡ None
no_heading f q out = ap (λ o. heading_by o (text_of (alone q f))) (kind_none f q out)
