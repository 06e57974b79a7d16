-- What is covered by an extent, whatever the order of the nodes between; and that a slice has no number with a fraction.
use Rattle.std.proofs.Common.{◌≡◌, ◌∙◌, ℕ, ◌||◌, false, Option, None, Some, Result, Ok, Err, sym, ap, ap₂}
use Rattle.std.specs.Prelude.{unwrap_or, option_map, IfOk}
use Rattle.serde_json.specs.declared.value.Value.{Value}
use Rattle.serde_json.specs.Data.{Data, Items}
use Rattle.serde_json.specs.View.{view}
use Rattle.serde_json.specs.Written.{has_float}
use Rattle.lx_node.specs.declared.cause.Point.{Point}
use Rattle.lx_forest.specs.Forest.{Forest}
use Rattle.lx_forest.specs.Lookups.{children_of, trees_of}
use Rattle.lx_blocks.specs.Blocks.{frame_of}
use Rattle.lx_json.proofs.Whole.{trees-whole}
use Rattle.lx_clip.specs.Extents.{AreAlike}
use Rattle.lx_clip.specs.Covers.{Extent}
use Rattle.lx_clip.specs.Slices.{covers_below, frame_covers, if_inline, covers_in, slice_data}
use Rattle.lx_clip.proofs.Covered.{covers-alike}

frame-alike : (d e : Extent) (f : Forest) → AreAlike d e → frame_covers d f ≡ frame_covers e f
frame-alike d e f alike =
    covers-alike d e (trees_of f (children_of f (unwrap_or (frame_of f d.start.key) 0))) alike
    ∙ ap (λ (p : Point). covers_below e f (unwrap_or (frame_of f p.key) 0)) alike.start

pub in-alike : (block : Option ℕ) (d e : Extent) (f : Forest) → AreAlike d e → covers_in block d f ≡ covers_in block e f
in-alike None d e f alike = frame-alike d e f alike
in-alike (Some block) d e f alike = ap₂ if_inline (covers-alike d e (trees_of f (children_of f block)) alike) (frame-alike d e f alike)

-- what is written for one thing is written for another that is the same
pub as_items : {A E : Type 0} (r : Result A E) (of : A → Items) (d e : Items) → d ≡ e → IfOk r (λ a. of a ≡ d) → IfOk r (λ a. of a ≡ e)
as_items (Ok a) of d e same is = is ∙ same
as_items (Err x) of d e same is = tt

slice-whole : (f : Forest) → has_float (slice_data f) ≡ false
slice-whole f = ap (λ b. b || false) (trees-whole f)

of_option : (o : Option Forest) (d : Data) → option_map slice_data o ≡ Some d → has_float d ≡ false
of_option None d is = absurd (cc)
of_option (Some f) d is = let same : slice_data f ≡ d = cc in sym (ap has_float same) ∙ slice-whole f

pub whole_slice : {E : Type 0} (r : Result (Option Value) E) (o : Option Forest) → IfOk r (λ slice. option_map view slice ≡ option_map slice_data o)
    → IfOk r (λ slice. (d : Data) → option_map view slice ≡ Some d → has_float d ≡ false)
whole_slice (Ok slice) o is = λ d e. of_option o d (sym is ∙ e)
whole_slice (Err x) o is = tt
