use Rattle.std.proofs.Common.{◌≡◌, ℕ, List, map, drop, Bor}
use Rattle.lx_fields.specs.Values as values
use Rattle.lx_fields.proofs.values.word_in.Given as goal

abbrev pub invariant-rows : goal.invariant-rows
invariant-rows g l =
    let row_of : Bor (List ℕ) × g.row.T.Denot → List ℕ × g.row.T.Denot = λ row. (row.0.now, row.1) in
    values.word_in (map row_of (drop l.word-index l.rows)) l.text ≡ values.word_in (map row_of l.rows) l.text
