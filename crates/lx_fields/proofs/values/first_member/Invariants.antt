use Rattle.std.proofs.Common.{◌≡◌, ℕ, List, map, drop, Bor}
use Rattle.serde_json.specs.View.{view}
use Rattle.lx_fields.specs.Values as values
use Rattle.lx_fields.proofs.values.first_member.Given as goal

abbrev pub invariant-rows : goal.invariant-rows
invariant-rows g l =
    let row_of : Bor (List ℕ) × g.row.T.Denot → List ℕ × g.row.T.Denot = λ row. (row.0.now, row.1) in
    values.first_member (map row_of (drop l.word-index l.rows)) (view l.value) ≡ values.first_member (map row_of l.rows) (view l.value)
