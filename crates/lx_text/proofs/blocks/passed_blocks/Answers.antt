use Rattle.std.proofs.Common.{◌≡◌, ◌<◌, ◌++◌, sym, arith, subst}
use Rattle.std.specs.Str.{chars, IsUtf8}
use Rattle.std.proofs.lemmas.List.{take-append-drop}
use Rattle.std.proofs.lemmas.Str.{IsUtf8-take, IsUtf8-drop}
use Rattle.lx_node.specs.Units.{units}
use Rattle.lx_text.proofs.Cut.{passed_none, passed_counted}
use Rattle.lx_text.proofs.UnitSums.{bytes-some}
use Rattle.lx_text.proofs.blocks.passed_blocks.Goals as goal

pub loop-behind-init : goal.loop-behind-init
loop-behind-init c = (c.utf8.text, passed_none c.args.text.now c.args.offset c.utf8.text)

pub loop-behind-smaller : goal.loop-behind-smaller
loop-behind-smaller c =
    let some : 0 < units (chars c.split_at.result.0.now) = omega (arith, c.units_in-units.ensures, c.if-units-eq0.false) in
    omega (arith, c.split_at.ensures.front_len, c.split_at.ensures.back_len, bytes-some c.split_at.result.0.now some)

pub loop-behind-preserved : goal.loop-behind-preserved
loop-behind-preserved c =
    let p = c.loop-behind.invariant in
    let end = c.floor_char_boundary.result in
    let rest = c.loop-behind.rest.now in
    let utf8 : IsUtf8 c.split_at.result.0.now = subst IsUtf8 (sym c.split_at.ensures.front) (IsUtf8-take rest end p.0 c.floor_char_boundary.ensures.boundary) in
    let after : IsUtf8 c.split_at.result.1.now = subst IsUtf8 (sym c.split_at.ensures.back) (IsUtf8-drop rest end p.0 c.floor_char_boundary.ensures.boundary) in
    let next : rest ≡ c.split_at.result.0.now ++ c.split_at.result.1.now = cc (take-append-drop end rest) in
    (after, passed_counted c.args.text.now rest c.split_at.result.0.now c.split_at.result.1.now c.args.offset c.loop-behind.left c.units_in-units.result p.1 utf8 after next c.units_in-units.ensures c.if-left-units.false)
