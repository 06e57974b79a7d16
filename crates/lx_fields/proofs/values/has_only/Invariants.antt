use Rattle.std.proofs.Common.{◌≡◌, ◌+◌, ◌≤◌, ℕ, List, map, drop, Bor}
use Rattle.serde_json.specs.View.{view}
use Rattle.lx_fields.specs.Values as values
use Rattle.lx_fields.proofs.values.has_only.Given as goal

abbrev pub invariant-names : goal.invariant-names
invariant-names l = record {
  room : l.present ≤ l.name-index;
  counted : l.present + values.present (map (λ (name : Bor (List ℕ)). name.now) (drop l.name-index l.names)) (view l.value)
      ≡ values.present (map (λ (name : Bor (List ℕ)). name.now) l.names) (view l.value);
}
