use Rattle.std.proofs.Common.{◌≡◌, ℕ, List, map, drop, Bor}
use Rattle.lx_fields.specs.Exporting as exporting
use Rattle.lx_fields.proofs.words.word_for.Given as goal

abbrev pub invariant-rows : goal.invariant-rows
invariant-rows g l =
    let row_of : Bor (List ℕ) × g.row.T.Denot → List ℕ × g.row.T.Denot = λ row. (row.0.now, row.1) in
    exporting.word_for g.T.PartialEq.eq (map row_of (drop l.word-index l.rows)) l.meaning ≡ exporting.word_for g.T.PartialEq.eq (map row_of l.rows) l.meaning
