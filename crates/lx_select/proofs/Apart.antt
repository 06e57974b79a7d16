-- Edits of a node on which no point is leave a selection as it is.
use Rattle.std.proofs.Common.{◌≡◌, ◌==◌, ◌||◌, ℕ, true, false, Bool, refl, arith}
use Rattle.lx_node.specs.declared.cause.Point.{Point}
use Rattle.lx_select.specs.declared.selection.Selection.{Selection}
use Rattle.lx_select.specs.declared.selection.Selection.TheVariants.{Nothing, Range, Nodes, Cells}
use Rattle.lx_select.specs.Selection.{each_point, has_point_on, ends_of, carried_point, carried}
use Rattle.lx_select.specs.Rules.{put_moves, is_behind, moved_to}

neither : (a b : Bool) → (a || b) ≡ false → (a ≡ false) × (b ≡ false)
neither true b e = absurd (cc)
neither false b e = (refl, e)

-- a rule that leaves each point that isn't on the key
each-apart : (key : ℕ) (moved : Point → Point) (s : Selection) → ((p : Point) → (p.key == key) ≡ false → moved p ≡ p) → has_point_on key s ≡ false
    → each_point moved s ≡ s
each-apart key moved Nothing leaves e = refl
each-apart key moved (Range a b format) leaves e =
    let h = neither (a.key == key) (b.key == key) e in
    rw (leaves a h.0, leaves b h.1) refl
each-apart key moved (Nodes keys) leaves e = refl
each-apart key moved (Cells table a b) leaves e = refl

put_leaves : (parent index : ℕ) (p : Point) → (p.key == parent) ≡ false → put_moves parent index p ≡ p
unfolding put_moves is_behind
put_leaves parent index p e = grind (arith, e)

pub put-apart : (parent index : ℕ) (s : Selection) → has_point_on parent s ≡ false → each_point (put_moves parent index) s ≡ s
put-apart parent index s e = each-apart parent (put_moves parent index) s (put_leaves parent index) e

to_leaves : (key : ℕ) (to p : Point) → (p.key == key) ≡ false → moved_to key to p ≡ p
unfolding moved_to
to_leaves key to p e = grind (arith, e)

pub moved_to-apart : (key : ℕ) (to : Point) (s : Selection) → has_point_on key s ≡ false → each_point (moved_to key to) s ≡ s
moved_to-apart key to s e = each-apart key (moved_to key to) s (to_leaves key to) e

-- ... also where points go along with what the node had
still_there : (key : ℕ) (moved : Point → Point) (before now : Point) → (before.key == key) ≡ false → carried_point key moved before now ≡ now
still_there key moved before now e = grind (arith, e)

pub carried-apart : (key : ℕ) (moved : Point → Point) (before now : Selection) → has_point_on key before ≡ false → carried key moved (ends_of before) now ≡ now
carried-apart key moved (Range a b format) (Range c d other) e =
    let h = neither (a.key == key) (b.key == key) e in
    rw (still_there key moved a c h.0, still_there key moved b d h.1) refl
carried-apart key moved Nothing now e = refl
carried-apart key moved (Nodes keys) now e = refl
carried-apart key moved (Cells table a b) now e = refl
carried-apart key moved (Range a b format) Nothing e = refl
carried-apart key moved (Range a b format) (Nodes keys) e = refl
carried-apart key moved (Range a b format) (Cells table c d) e = refl
