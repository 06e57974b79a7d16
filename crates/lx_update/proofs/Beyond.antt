-- Points whose offsets no u32 can be.
use Rattle.std.proofs.Common.{◌≡◌, ◌<◌, ◌≤◌, false, cond, leb, Option, None, Some, ap, arith}
use Rattle.std.proofs.lemmas.Bool.Decides.{nat_tests}
use Rattle.lx_node.specs.Limits.{last_u32}
use Rattle.lx_node.specs.declared.cause.Cause.TheVariants.{BadPlace}
use Rattle.lx_node.specs.declared.cause.Point.{Point}
use Rattle.lx_node.specs.declared.cause.PointKind.{PointKind}
use Rattle.lx_node.specs.declared.cause.PointKind.TheVariants as point
use Rattle.lx_node.specs.declared.fields.Fields.{Fields}
use Rattle.lx_node.specs.declared.fields.Fields.TheVariants as fields
use Rattle.lx_text.proofs.Told.{told-small}
use Rattle.lx_forest.specs.Forest.{Forest}
use Rattle.lx_forest.specs.Lookups.{fields_of, size_of}
use Rattle.lx_draft.specs.Selecting.{length_of, is_place, outside_point}

length_small : (found : Option Fields) → length_of found ≤ last_u32
length_small None = omega arith
length_small (Some (fields.Text text)) = told-small text.text
length_small (Some (fields.Element element)) = omega arith
length_small (Some (fields.Embed source)) = omega arith
length_small (Some fields.Bare) = omega arith

no_place : (f : Forest) (p : Point) (kind : PointKind) → last_u32 < p.offset → size_of f p.key < p.offset → is_place f p kind ≡ false
no_place f p point.Text past few =
    let short : length_of (fields_of f p.key) ≤ last_u32 = length_small (fields_of f p.key) in
    let behind : leb p.offset (length_of (fields_of f p.key)) ≡ false = grind (arith, nat_tests, past, short) in
    grind (arith, behind)
no_place f p point.Element past few = grind (arith, nat_tests, past, few)

pub placed_beyond : (f : Forest) (p : Point) → last_u32 < p.offset → size_of f p.key < p.offset → outside_point f p ≡ Some (BadPlace p.offset)
placed_beyond f p past few = ap (λ b. cond b None (Some (BadPlace p.offset))) (no_place f p p.kind past few)
