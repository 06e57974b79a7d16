use Rattle.std.proofs.Common.{◌≡◌, ◌∙◌, ◌==◌, ℕ, ◌+◌, List, [], map, drop, length, Bor, sym, ap, arith}
use Rattle.std.proofs.lemmas.List.{drop_all}
use Rattle.serde_json.specs.View.{view}
use Rattle.lx_fields.specs.Values.{present}
use Rattle.lx_fields.proofs.Objects.{has_only-object}
use Rattle.lx_fields.proofs.values.has_only.Goals as goal

pub returns : goal.returns
returns c =
    let names_of : List (Bor (List ℕ)) → List (List ℕ) = map (λ name. name.now) in
    let d = view c.args.value.now in
    let none : drop c.names.name-index c.args.names.now ≡ [] = drop_all _ _ c.names-test.false in
    let all : c.names.present + present (names_of []) d ≡ present (names_of c.args.names.now) d =
    ap (λ names. c.names.present + present (names_of names) d) (sym none) ∙ c.names.invariant.counted in
    let total : c.names.present ≡ present (names_of c.args.names.now) d = omega (arith, all) in
    let len : c.len.result ≡ length c.in-Some.members.now.entries = c.len.ensures.len in
    ap (λ n. n == c.names.present) len ∙ ap (λ n. length c.in-Some.members.now.entries == n) total ∙ sym (has_only-object _ d _ c.in-Some.ensures)
