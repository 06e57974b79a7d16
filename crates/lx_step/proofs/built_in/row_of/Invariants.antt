use Rattle.std.proofs.Common.{◌≡◌, ℕ, List, map, drop, Bor}
use Rattle.std.specs.Str.{chars}
use Rattle.lx_step.specs.BuiltIns as built_ins
use Rattle.lx_step.proofs.built_in.row_of.Given as goal

abbrev pub invariant-rows : goal.invariant-rows
invariant-rows g l =
    let told : Bor (List ℕ) × g.row.T.Denot → List ℕ × g.row.T.Denot = λ row. (chars row.0.now, row.1) in
    built_ins.row_of (map told (drop l.word-index l.rows)) (chars l.name) ≡ built_ins.row_of (map told l.rows) (chars l.name)
