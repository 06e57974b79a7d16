-- Nodes that get keys from a number on: a forest in order, which is as large and as deep as before.
use Rattle.std.proofs.Common.{◌≡◌, ℕ, ◌+◌, ◌<◌, ◌≤◌, max, Some, refl, ap, arith, inl, inr}
use Rattle.std.proofs.lemmas.Bool.{cases_lt}
use Rattle.std.proofs.lemmas.Bool.Decides.{eqb_tells}
use Rattle.lx_trees.specs.Trees.{Trees, nil, tree}
use Rattle.lx_trees.specs.NamedTrees.{total}
use Rattle.lx_node.specs.declared.kind.Kind.TheVariants.{Root}
use Rattle.lx_forest.specs.Forest.{Forest}
use Rattle.lx_forest.specs.Lookups.{count, IsForest}
use Rattle.lx_forest.specs.Weights.{weight}
use Rattle.lx_links.specs.Characters.{characters_in}
use Rattle.lx_json.specs.Reading.{Piece}
use Rattle.lx_json.specs.Importing.{keyed, rooted}
use Rattle.lx_json.specs.Back.{pieces_of}
use Rattle.lx_json.proofs.Grown.{keyed-low}

-- ---- each key once

pub keyed-behind : (q key : ℕ) (t : Trees Piece) → key + total t ≤ q → count q (keyed key t) ≡ 0
keyed-behind q key nil e = refl
keyed-behind q key (tree piece below rest) e =
    grind (arith, e, eqb_tells key q, keyed-behind q (key + 1) below (omega (arith, e)), keyed-behind q (key + 1 + total below) rest (omega (arith, e)))

pub keyed-once : (q key : ℕ) (t : Trees Piece) → count q (keyed key t) < 2
keyed-once q key nil = omega arith
keyed-once q key (tree piece below rest) = elim (cases_lt q (key + 1)) [
  | inl early ↦ grind (arith, early, keyed-low (key + 1) q below early, keyed-low (key + 1 + total below) q rest (omega (arith, early)))
  | inr later ↦ elim (cases_lt q (key + 1 + total below)) [
    | inl inside ↦ grind (arith, later, eqb_tells key q, keyed-once q (key + 1) below, keyed-low (key + 1 + total below) q rest inside)
    | inr behind ↦ grind (arith, later, eqb_tells key q, keyed-once q (key + 1 + total below) rest, keyed-behind q (key + 1) below behind)
  ]
]

pub rooted-in_order : (next : ℕ) (root : Piece) (below rest : Trees Piece) → 0 < next → root.kind ≡ Root → IsForest (rooted next (tree root below rest))
rooted-in_order next root below rest some is = record {
  once = λ q. elim (cases_lt q next) [
    | inl early ↦ grind (arith, keyed-low next q below early)
    | inr later ↦ grind (arith, some, later, eqb_tells 0 q, keyed-once q next below)
  ];
  rising = refl;
  root = ap (λ kind. Some kind) is;
}

-- ---- the same nodes

pub pieces-keyed : (key : ℕ) (t : Trees Piece) → pieces_of (keyed key t) ≡ t
pieces-keyed key nil = refl
pieces-keyed key (tree piece below rest) = rw (pieces-keyed (key + 1) below, pieces-keyed (key + 1 + total below) rest) refl

pub total-pieces : (f : Forest) → total (pieces_of f) ≡ total f
total-pieces nil = refl
total-pieces (tree l below rest) = omega (arith, total-pieces below, total-pieces rest)

pub total-keyed : (key : ℕ) (t : Trees Piece) → total (keyed key t) ≡ total t
total-keyed key nil = refl
total-keyed key (tree piece below rest) = omega (arith, total-keyed (key + 1) below, total-keyed (key + 1 + total below) rest)

pub weight-keyed : (key : ℕ) (f : Forest) → weight characters_in (keyed key (pieces_of f)) ≡ weight characters_in f
weight-keyed key nil = refl
weight-keyed key (tree l below rest) = omega (arith, weight-keyed (key + 1) below, weight-keyed (key + 1 + total (pieces_of below)) rest)

-- the greatest depth in trees that are so deep
abbrev pub deepest : {A : Type 0} → ℕ → Trees A → ℕ
deepest d nil = 0
deepest d (tree a below rest) = max d (max (deepest (d + 1) below) (deepest d rest))

pub deepest-keyed : (d key : ℕ) (f : Forest) → deepest d (keyed key (pieces_of f)) ≡ deepest d f
deepest-keyed d key nil = refl
deepest-keyed d key (tree l below rest) = rw (deepest-keyed (d + 1) (key + 1) below, deepest-keyed d (key + 1 + total (pieces_of below)) rest) refl
