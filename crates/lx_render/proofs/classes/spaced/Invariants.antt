use Rattle.std.proofs.Common.{◌≡◌, take, chars, string_bytes}
use Rattle.lx_render.specs.Render as shown
use Rattle.lx_render.proofs.classes.spaced.Given as goal

abbrev pub invariant-loop-place : goal.invariant-loop-place
invariant-loop-place l = chars (string_bytes l.text) ≡ shown.spaced (take l.place l.words)
